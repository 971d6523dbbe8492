use Rattle.std.proofs.Common.{ap, ◌∙◌}
use Rattle.module_link.proofs.ShownPlaces.{shown_signal}
use Rattle.module_link.proofs.places.Places.signal_at.Goals as goal

pub returns : goal.returns
returns c = λ k shows. ap (λ n. record { pos = c.args.name.now.pos; name = n })
    (c.signal.ensures ∙ shown_signal c.args.self.now k shows c.args.name.now.name)

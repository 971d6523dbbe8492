use Rattle.std.proofs.Common.{ap, ◌∙◌}
use Rattle.module_link.proofs.ShownPlaces.{shown_trap_place}
use Rattle.module_link.proofs.places.Places.trap_at.Goals as goal

pub returns : goal.returns
returns c = λ k shows. ap (λ n. record { pos = c.args.name.now.pos; name = n })
    (c.trap.ensures ∙ shown_trap_place c.args.self.now k shows c.args.name.now.name)

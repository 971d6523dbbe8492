use Rattle.std.proofs.Common.{Option, Bor, sym, ap, ◌∙◌}
use Rattle.std.specs.Option.{option_copied}
use Rattle.module_tree.specs.declared.source.Binding.{Binding}
use Rattle.link_faults.specs.Named.{Name}
use Rattle.module_link.specs.Resolved.{binding_at, resolved_binding, signal_place}
use Rattle.module_link.proofs.ShownPlaces.{shown_signal}
use Rattle.module_link.proofs.places.Places.binding.Goals as goal

pub returns-in-None : goal.returns-in-None
returns-in-None c = λ k shows s place name.
    let right = c.signal.ensures ∙ shown_signal c.args.self.now k shows c.args.name.now
    ∙ ap (signal_place k) (sym name) in
    (λ i. binding_at c.args.pos c.args.pos (sym place i) (right i))
    ∙ ap (λ (o : Option (Bor (Binding Name))). resolved_binding k c.args.pos s (option_copied o))
    (sym c.in-None.is)

pub returns-in-Some : goal.returns-in-Some
returns-in-Some c = λ k shows s place name.
    let written = c.in-Some.written.now in
    let right = c.signal-in-Some.ensures ∙ shown_signal c.args.self.now k shows written.right.name in
    (λ i. binding_at written.left.pos written.right.pos (sym place i) (right i))
    ∙ ap (λ (o : Option (Bor (Binding Name))). resolved_binding k c.args.pos s (option_copied o))
    (sym c.in-Some.is)

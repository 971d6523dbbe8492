use Rattle.std.proofs.Common.{◌∙◌, ap}
use Rattle.std.specs.Prelude.{option_map}
use Rattle.module_tree.specs.declared.source.Binding.{Binding}
use Rattle.link_faults.specs.Named.{Name, interface_named}
use Rattle.link_faults.specs.Meanings.{meaning, meaning_of}
use Rattle.link_faults.specs.RunFaults.{first_bound}
use Rattle.link_faults.proofs.EarlierLaws.{first_by_step}
use Rattle.link_faults.proofs.runs.first_bindings.Goals as goal

pub written-preserved : goal.written-preserved
written-preserved c = λ k table.
    let names = c.args.names.now in
    let interface = c.args.interface.now in
    let b = c.binding-item.result in
    first_by_step (λ (b : Binding Name). first_bound (option_map meaning
    (interface_named interface b.left.name)) (meaning_of names b.right.name) b) c.args.bindings.now
    c.written.binding-index b c.written.first c.earlier-first.result c.first_bound.result
    c.written-test.true c.binding-item.is (c.written.invariant k table)
    (c.first_bound.ensures ∙ ap (λ l. first_bound l c.signal-right.result b) (c.meaning_in-left.ensures k table)
    ∙ ap (λ r. first_bound (option_map meaning (interface_named interface b.left.name)) r b)
    c.signal-right.ensures) c.earlier-first.ensures

use Rattle.std.proofs.Common.{◌∙◌, ap}
use Rattle.module_tree.specs.declared.source.Binding.{Binding}
use Rattle.link_faults.specs.Named.{Name}
use Rattle.link_faults.specs.Judgements.{unknown_at}
use Rattle.link_faults.specs.Meanings.{meaning_of}
use Rattle.link_faults.specs.PartFaults.{kinds_by}
use Rattle.link_faults.proofs.EarlierLaws.{first_by_step}
use Rattle.link_faults.proofs.runs.first_right.Goals as goal

pub rights-preserved : goal.rights-preserved
rights-preserved c =
    let kinds = kinds_by (meaning_of c.args.names.now) in
    first_by_step (λ (b : Binding Name). unknown_at b.right.pos (kinds b.right.name)) c.args.bindings.now
    c.rights.binding-index c.binding-item.result c.rights.first c.earlier-first.result c.unknown_at.result
    c.rights-test.true c.binding-item.is c.rights.invariant
    (c.unknown_at.ensures ∙ ap (unknown_at c.binding-item.result.right.pos) c.kind_of_signal.ensures)
    c.earlier-first.ensures

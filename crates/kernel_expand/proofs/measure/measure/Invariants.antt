use Rattle.module_tree.specs.Callables.{modules_of}
use Rattle.kernel_expand.proofs.Progress.{Progress}
use Rattle.kernel_expand.proofs.measure.measure.Given as goal

abbrev pub invariant-each : goal.invariant-each
invariant-each l = Progress (modules_of l.linked) l.place-items l.place-index l.known.items

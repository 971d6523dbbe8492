use Rattle.std.proofs.Common.{drop}
use Rattle.signal_bank.specs.BagKind.{AreOfKind}
use Rattle.kernel_tests.proofs.combinations.are_of_kind.Given as goal

abbrev pub invariant-loop-value : goal.invariant-loop-value
invariant-loop-value l = AreOfKind l.kind (drop l.value-index l.values) → AreOfKind l.kind l.values

use Rattle.std.proofs.Common.{◌≡◌, length}
use Rattle.kernel_expand.specs.Interpretation.{locals}
use Rattle.kernel_expand.specs.Measures.{sizes}
use Rattle.kernel_expand.proofs.blocks.declared.Given as goal

abbrev pub invariant-inward : goal.invariant-inward
invariant-inward l = locals sizes l.left l.whole ≡ locals sizes l.fn.sigs l.fn.block

abbrev pub decreases-inward : goal.decreases-inward
decreases-inward l = length l.left

use Rattle.std.proofs.Common.{◌≡◌, ℕ, ◌≤◌}
use Rattle.module_tree.specs.declared.source.BlockNode.{size-BlockNode}
use Rattle.kernel_expand.specs.Interpretation.{Kernel, of_block}
use Rattle.kernel_expand.specs.Numbering.{Piece}
use Rattle.statement_build.proofs.innermost.innermost.Given as goal

abbrev pub invariant-inward : goal.invariant-inward
invariant-inward l = ((k : Kernel Piece) → of_block k l.fn.block ≡ of_block k l.inner)
    × (size-BlockNode ℕ l.inner ≤ size-BlockNode ℕ l.fn.block)

abbrev pub decreases-inward : goal.decreases-inward
decreases-inward l = size-BlockNode ℕ l.inner

use Rattle.std.proofs.Common.{◌≡◌, map, take}
use Rattle.kernel_expand.specs.Interpretation.{of_node, of_block}
use Rattle.kernel_expand.specs.Measures.{measure, known}
use Rattle.kernel_expand.proofs.blocks.+block.Given as goal

abbrev pub invariant-of_branches-loop-block : goal.invariant-of_branches-loop-block
invariant-of_branches-loop-block l = l.branches.items ≡ map (of_block (measure (known l.modules)))
    (take l.block-index l.blocks)

abbrev pub invariant-of_block-loop-node : goal.invariant-of_block-loop-node
invariant-of_block-loop-node l = l.statements.items ≡ map (of_node (measure (known l.modules)))
    (take l.node-index l.node-items)

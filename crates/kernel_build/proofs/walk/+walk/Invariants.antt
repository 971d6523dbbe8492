use Rattle.std.proofs.Common.{◌≡◌, ℕ, ◌+◌, max, map, take}
use Rattle.module_tree.specs.declared.source.BlockNode.{size-BlockNode}
use Rattle.module_tree.specs.declared.source.Statement.{size-Statement}
use Rattle.module_tree.specs.declared.source.Statement.TheVariants as v
use Rattle.module_tree.specs.declared.source.StatementNode.{size-StatementNode}
use Rattle.hh_term.specs.Placed.{placed_term}
use Rattle.kernel_expand.specs.Interpretation.{of_node, of_block}
use Rattle.statement_build.specs.Building.{numbered_of, around_of}
use Rattle.statement_build.specs.Levels.{kernel_in}
use Rattle.statement_build.proofs.Walking.{walked}
use Rattle.kernel_build.proofs.Descending.{left, left_of, depth_of}
use Rattle.kernel_build.proofs.walk.+walk.Given as goal

abbrev pub decreases-node : goal.decreases-node
decreases-node l = left l.level (size-StatementNode ℕ l.node.now)

abbrev pub decreases-block : goal.decreases-block
decreases-block l = left l.level (size-BlockNode ℕ l.block.now) + 1

abbrev pub decreases-branches : goal.decreases-branches
decreases-branches l = left l.level (size-Statement ℕ (v.Fork l.blocks.now)) + 2

abbrev pub decreases-inside : goal.decreases-inside
decreases-inside l = left l.level (size-BlockNode ℕ l.body.now) + 2

abbrev pub decreases-both : goal.decreases-both
decreases-both l = left l.level (max (size-BlockNode ℕ l.then.now) (size-BlockNode ℕ l.other.now)) + 2

abbrev pub decreases-choice : goal.decreases-choice
decreases-choice l = left l.level (max (size-BlockNode ℕ l.then.now) (size-BlockNode ℕ l.other.now)) + 3

abbrev pub decreases-body : goal.decreases-body
decreases-body l = left_of l.body

abbrev pub decreases-run : goal.decreases-run
decreases-run l = left l.level 0 + 3

abbrev pub decreases-finish : goal.decreases-finish
decreases-finish l = left l.level (depth_of l.step) + 4

abbrev pub invariant-block-nodes : goal.invariant-block-nodes
invariant-block-nodes l = (map placed_term l.terms.items, numbered_of l.builder)
    ≡ walked (map (of_node (kernel_in l.level)) (take l.statement-index l.statement-items)) (around_of l.around)
    (numbered_of l.fn.builder)

abbrev pub invariant-branches-parts : goal.invariant-branches-parts
invariant-branches-parts l = (map placed_term l.terms.items, numbered_of l.builder)
    ≡ walked (map (of_block (kernel_in l.level)) (take l.part-index l.blocks)) (around_of l.around)
    (numbered_of l.fn.builder)

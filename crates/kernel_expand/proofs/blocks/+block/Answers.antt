use Rattle.std.proofs.Common.{arith}
use Rattle.kernel_expand.specs.Interpretation.{of_block}
use Rattle.kernel_expand.specs.Measures.{measure, known}
use Rattle.kernel_expand.proofs.Mapped.{one_more}
use Rattle.kernel_expand.proofs.blocks.+block.Goals as goal

pub of_branches-loop-block-preserved : goal.of_branches-loop-block-preserved
of_branches-loop-block-preserved t c =
    one_more (of_block (measure (known c.args.modules.now))) c.args.blocks.now c.loop-block.block-index
    c.block-item.result c.loop-block.branches.items c.push.new.self.items c.in_ok-of_block.field-0
    (omega arith) c.block-item.is c.loop-block.invariant c.in_ok-of_block.ensures c.in_ok-push.ensures.items

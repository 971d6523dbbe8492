use Rattle.std.proofs.Common.{◌+◌, ℕ, List, map, length, refl, sym, subst, ◌∙◌, arith}
use Rattle.std.specs.Prelude.{OnOk}
use Rattle.module_tree.specs.declared.source.BlockNode.{BlockNode}
use Rattle.module_tree.specs.declared.source.Statement.TheOpen as s
use Rattle.module_tree.specs.declared.source.Statement.TheVariants as v
use Rattle.module_tree.specs.Parts.{Test, Locals, in_order, block_walk, locals_walk}
use Rattle.module_tree.specs.Scopes.{with_signals, with_trap}
use Rattle.link_resolve.specs.CalleesAdded.{AddsCallees, node_walk}
use Rattle.link_resolve.proofs.Adding.{adds_more, adds_by_step, adds_leaf, lifted}
use Rattle.link_resolve.proofs.Adding.{adds_delayed, adds_all, adds_node, adds_block, adds_missing, adds_there, adds_if}
use Rattle.link_resolve.proofs.Adding.{adds_behind, adds_before, adds_deeper, no_delay}
use Rattle.link_resolve.proofs.callees.+callees.Goals as goal

pub add_of_blocks-each_block-preserved : goal.add_of_blocks-each_block-preserved
add_of_blocks-each_block-preserved t c = adds_more block_walk c.args.blocks.now c.each_block.block-index c.block-item.result
    c.args.callees.now c.each_block.callees c.add_of_block.new.callees c.each_block-test.true c.block-item.is
    c.each_block.invariant c.in_ok-add_of_block.ensures

pub add_of_nodes-each_node-preserved : goal.add_of_nodes-each_node-preserved
add_of_nodes-each_node-preserved t c = adds_more node_walk c.args.nodes.now c.each_node.node-index c.node-item.result
    c.args.callees.now c.each_node.callees c.add_of_node.new.callees c.each_node-test.true c.node-item.is
    c.each_node.invariant c.in_ok-add_of_node.ensures

pub add_of_statement-returns-in-Nothing : goal.add_of_statement-returns-in-Nothing
add_of_statement-returns-in-Nothing t c =
    let x = c.args.statement.now in
    let old = c.args.callees.now in
    let w = c.in-Nothing in
    adds_leaf s.Nothing x old (v.rolls-Nothing ∙ sym w.is) (λ scope before. refl)

pub add_of_statement-returns-in-Pause : goal.add_of_statement-returns-in-Pause
add_of_statement-returns-in-Pause t c =
    let x = c.args.statement.now in
    let old = c.args.callees.now in
    let w = c.in-Pause in
    adds_leaf s.Pause x old (v.rolls-Pause ∙ sym w.is) (λ scope before. refl)

pub add_of_statement-returns-in-Halt : goal.add_of_statement-returns-in-Halt
add_of_statement-returns-in-Halt t c =
    let x = c.args.statement.now in
    let old = c.args.callees.now in
    let w = c.in-Halt in
    adds_leaf s.Halt x old (v.rolls-Halt ∙ sym w.is) (λ scope before. refl)

pub add_of_statement-returns-in-Emit : goal.add_of_statement-returns-in-Emit
add_of_statement-returns-in-Emit t c =
    let x = c.args.statement.now in
    let old = c.args.callees.now in
    let w = c.in-Emit in
    adds_leaf (s.Emit w.field-0 w.field-1) x old (v.rolls-Emit w.field-0 w.field-1 ∙ sym w.is) (λ scope before. refl)

pub add_of_statement-returns-in-Sustain : goal.add_of_statement-returns-in-Sustain
add_of_statement-returns-in-Sustain t c =
    let x = c.args.statement.now in
    let old = c.args.callees.now in
    let w = c.in-Sustain in
    adds_leaf (s.Sustain w.field-0 w.field-1) x old (v.rolls-Sustain w.field-0 w.field-1 ∙ sym w.is) (λ scope before. refl)

pub add_of_statement-returns-in-Break : goal.add_of_statement-returns-in-Break
add_of_statement-returns-in-Break t c =
    let x = c.args.statement.now in
    let old = c.args.callees.now in
    let w = c.in-Break in
    adds_leaf (s.Break w.field-0) x old (v.rolls-Break w.field-0 ∙ sym w.is) (λ scope before. refl)

pub add_of_statement-returns-in-Async : goal.add_of_statement-returns-in-Async
add_of_statement-returns-in-Async t c =
    let x = c.args.statement.now in
    let old = c.args.callees.now in
    let w = c.in-Async in
    adds_leaf (s.Async w.field-0) x old (v.rolls-Async w.field-0 ∙ sym w.is) (λ scope before. refl)

pub add_of_statement-returns-in-Await : goal.add_of_statement-returns-in-Await
add_of_statement-returns-in-Await t c =
    let x = c.args.statement.now in
    let old = c.args.callees.now in
    let w = c.in-Await in
    adds_leaf (s.Await w.field-0) x old (v.rolls-Await w.field-0 ∙ sym w.is) (no_delay w.field-0)

pub add_of_statement-returns-in-Loop : goal.add_of_statement-returns-in-Loop
add_of_statement-returns-in-Loop t c =
    let x = c.args.statement.now in
    let old = c.args.callees.now in
    let w = c.in-Loop in
    adds_by_step (s.Loop w.block) x c.add_of_block-in-Loop.result old c.add_of_block-in-Loop.new.callees (v.rolls-Loop w.block ∙ sym w.is)
    c.add_of_block-in-Loop.ensures

pub add_of_statement-returns-in-Block : goal.add_of_statement-returns-in-Block
add_of_statement-returns-in-Block t c =
    let x = c.args.statement.now in
    let old = c.args.callees.now in
    let w = c.in-Block in
    adds_by_step (s.Block w.block) x c.add_of_block-in-Block.result old c.add_of_block-in-Block.new.callees (v.rolls-Block w.block ∙ sym w.is)
    c.add_of_block-in-Block.ensures

pub add_of_statement-returns-in-Every : goal.add_of_statement-returns-in-Every
add_of_statement-returns-in-Every t c =
    let x = c.args.statement.now in
    let old = c.args.callees.now in
    let w = c.in-Every in
    adds_by_step (s.Every w.field-0 w.block) x c.add_of_block-in-Every.result old c.add_of_block-in-Every.new.callees (v.rolls-Every w.field-0 w.block ∙ sym w.is)
    (lifted c.add_of_block-in-Every.result (adds_delayed w.field-0 (block_walk w.block) old c.add_of_block-in-Every.new.callees) c.add_of_block-in-Every.ensures)

pub add_of_statement-returns-in-DoEvery : goal.add_of_statement-returns-in-DoEvery
add_of_statement-returns-in-DoEvery t c =
    let x = c.args.statement.now in
    let old = c.args.callees.now in
    let w = c.in-DoEvery in
    adds_by_step (s.DoEvery w.block w.field-1) x c.add_of_block-in-DoEvery.result old c.add_of_block-in-DoEvery.new.callees (v.rolls-DoEvery w.block w.field-1 ∙ sym w.is)
    (lifted c.add_of_block-in-DoEvery.result (adds_before w.field-1 (block_walk w.block) old c.add_of_block-in-DoEvery.new.callees) c.add_of_block-in-DoEvery.ensures)

pub add_of_statement-returns-in-Abort : goal.add_of_statement-returns-in-Abort
add_of_statement-returns-in-Abort t c =
    let x = c.args.statement.now in
    let old = c.args.callees.now in
    let w = c.in-Abort in
    adds_by_step (s.Abort w.field-0 w.block) x c.add_of_block-in-Abort.result old c.add_of_block-in-Abort.new.callees (v.rolls-Abort w.field-0 w.block ∙ sym w.is)
    (lifted c.add_of_block-in-Abort.result (adds_delayed w.field-0 (block_walk w.block) old c.add_of_block-in-Abort.new.callees) c.add_of_block-in-Abort.ensures)

pub add_of_statement-returns-in-WeakAbort : goal.add_of_statement-returns-in-WeakAbort
add_of_statement-returns-in-WeakAbort t c =
    let x = c.args.statement.now in
    let old = c.args.callees.now in
    let w = c.in-WeakAbort in
    adds_by_step (s.WeakAbort w.field-0 w.block) x c.add_of_block-in-WeakAbort.result old c.add_of_block-in-WeakAbort.new.callees (v.rolls-WeakAbort w.field-0 w.block ∙ sym w.is)
    (lifted c.add_of_block-in-WeakAbort.result (adds_delayed w.field-0 (block_walk w.block) old c.add_of_block-in-WeakAbort.new.callees) c.add_of_block-in-WeakAbort.ensures)

pub add_of_statement-returns-in-Suspend : goal.add_of_statement-returns-in-Suspend
add_of_statement-returns-in-Suspend t c =
    let x = c.args.statement.now in
    let old = c.args.callees.now in
    let w = c.in-Suspend in
    adds_by_step (s.Suspend w.field-0 w.field-1 w.block) x c.add_of_block-in-Suspend.result old c.add_of_block-in-Suspend.new.callees (v.rolls-Suspend w.field-0 w.field-1 w.block ∙ sym w.is)
    (lifted c.add_of_block-in-Suspend.result (λ h. adds_behind (Test w.field-1) (block_walk w.block) old c.add_of_block-in-Suspend.new.callees refl h) c.add_of_block-in-Suspend.ensures)

pub add_of_statement-returns-in-Signal : goal.add_of_statement-returns-in-Signal
add_of_statement-returns-in-Signal t c =
    let x = c.args.statement.now in
    let old = c.args.callees.now in
    let w = c.in-Signal in
    adds_by_step (s.Signal w.field-0 w.block) x c.add_of_block-in-Signal.result old c.add_of_block-in-Signal.new.callees (v.rolls-Signal w.field-0 w.block ∙ sym w.is)
    (lifted c.add_of_block-in-Signal.result (λ h. adds_behind (Locals w.field-0) (locals_walk w.field-0 (block_walk w.block)) old c.add_of_block-in-Signal.new.callees refl (adds_deeper (block_walk w.block) (λ scope before. with_signals before.signals w.field-0 scope) (λ before. record { signals = before.signals + length w.field-0; traps = before.traps }) old c.add_of_block-in-Signal.new.callees h)) c.add_of_block-in-Signal.ensures)

pub add_of_statement-returns-in-Trap : goal.add_of_statement-returns-in-Trap
add_of_statement-returns-in-Trap t c =
    let x = c.args.statement.now in
    let old = c.args.callees.now in
    let w = c.in-Trap in
    adds_by_step (s.Trap w.field-0 w.block) x c.add_of_block-in-Trap.result old c.add_of_block-in-Trap.new.callees (v.rolls-Trap w.field-0 w.block ∙ sym w.is)
    (lifted c.add_of_block-in-Trap.result (adds_deeper (block_walk w.block) (λ scope before. with_trap before.traps w.field-0 scope) (λ before. record { signals = before.signals; traps = before.traps + 1 }) old c.add_of_block-in-Trap.new.callees) c.add_of_block-in-Trap.ensures)

pub add_of_statement-returns-in-Fork : goal.add_of_statement-returns-in-Fork
add_of_statement-returns-in-Fork t c =
    let x = c.args.statement.now in
    let old = c.args.callees.now in
    let w = c.in-Fork in
    adds_by_step (s.Fork w.blocks) x c.add_of_blocks.result old c.add_of_blocks.new.callees
    (v.rolls-Fork w.blocks ∙ sym w.is)
    (subst (λ (bs : List (BlockNode ℕ)). OnOk c.add_of_blocks.result (AddsCallees (in_order (map block_walk bs))
    old c.add_of_blocks.new.callees)) c.as_slice.ensures c.add_of_blocks.ensures)

pub add_of_nodes-returns : goal.add_of_nodes-returns
add_of_nodes-returns t c = adds_all node_walk c.args.nodes.now c.each_node.node-index c.args.callees.now c.each_node.callees
    (omega arith) c.each_node.invariant

pub add_of_blocks-returns : goal.add_of_blocks-returns
add_of_blocks-returns t c = adds_all block_walk c.args.blocks.now c.each_block.block-index c.args.callees.now
    c.each_block.callees (omega arith) c.each_block.invariant

pub add_of_node-returns : goal.add_of_node-returns
add_of_node-returns t c = adds_node c.args.node.now c.add_of_statement.result c.args.callees.now
    c.add_of_statement.new.callees c.add_of_statement.ensures

pub add_of_block-returns : goal.add_of_block-returns
add_of_block-returns t c = adds_block c.args.block.now c.as_slice.result.now c.add_of_nodes.result
    c.args.callees.now c.add_of_nodes.new.callees c.as_slice.ensures c.add_of_nodes.ensures

pub add_of_otherwise-returns-in-None : goal.add_of_otherwise-returns-in-None
add_of_otherwise-returns-in-None t c = adds_missing c.args.block.now c.args.callees.now c.in-None.is

pub add_of_otherwise-returns-in-Some : goal.add_of_otherwise-returns-in-Some
add_of_otherwise-returns-in-Some t c = adds_there c.args.block.now c.in-Some.block c.add_of_block.result
    c.args.callees.now c.add_of_block.new.callees c.in-Some.is c.add_of_block.ensures

pub add_of_statement-returns-in_ok-add_of_block-in-If : goal.add_of_statement-returns-in_ok-add_of_block-in-If
add_of_statement-returns-in_ok-add_of_block-in-If t c =
    let x = c.args.statement.now in
    let old = c.args.callees.now in
    let new = c.add_of_otherwise.new.callees in
    let w = c.in-If in
    adds_by_step (s.If w.field-0 w.yes w.other) x c.add_of_otherwise.result old new
    (v.rolls-If w.field-0 w.yes w.other ∙ sym w.is)
    (lifted c.add_of_otherwise.result (adds_if w.field-0 w.yes w.other old c.add_of_block.new.callees new
    c.in_ok-add_of_block-in-If.ensures) c.add_of_otherwise.ensures)

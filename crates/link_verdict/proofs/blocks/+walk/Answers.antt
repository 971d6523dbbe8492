use Rattle.std.proofs.Common.{◌≡◌, ◌+◌, Option, length, refl, sym, ◌∙◌, ap, subst}
use Rattle.std.specs.Prelude.{OnOk, option_map}
use Rattle.module_tree.specs.declared.source.BlockNode.{BlockNode}
use Rattle.module_tree.specs.declared.source.ExprAt.{ExprAt}
use Rattle.module_tree.specs.Scopes.{with_signals, with_trap}
use Rattle.module_tree.specs.Parts.{Test, Locals, here, then, if_there, plain_walk, delay_walk, locals_walk, block_walk, Walk}
use Rattle.link_faults.specs.Named.{Name}
use Rattle.link_faults.specs.Walks.{Follows, statement_walk, node_walk}
use Rattle.link_faults.proofs.WalkLaws.{follows_empty, follows_then, follows_more, follows_within, walk_signal}
use Rattle.link_verdict.proofs.StatementWalks.{walk_branches}
use Rattle.link_verdict.proofs.blocks.+walk.Goals as goal

pub tested-returns : goal.tested-returns
tested-returns t c = follows_then c.args.text.now.parts.now (here (Test c.args.x.now))
    (block_walk c.args.block.now) c.args.walker.now c.test.new.self c.over_block.new.walker c.test.ensures
    c.in_ok-over_block.ensures

pub delayed-returns : goal.delayed-returns
delayed-returns t c = follows_then c.args.text.now.parts.now (delay_walk c.args.delay.now)
    (block_walk c.args.block.now) c.args.walker.now c.over_delay.new.walker c.over_block.new.walker
    c.over_delay.ensures c.in_ok-over_block.ensures

pub do_every-returns : goal.do_every-returns
do_every-returns t c = follows_then c.args.text.now.parts.now (block_walk c.args.block.now)
    (plain_walk c.args.later.now) c.args.walker.now c.over_block.new.walker c.over_later.new.walker
    c.in_ok-over_block.ensures c.over_later.ensures

pub within_signals-returns : goal.within_signals-returns
within_signals-returns t c =
    let parts = c.args.text.now.parts.now in
    let signals = c.args.signals.now in
    let walk = block_walk c.args.block.now in
    follows_then parts (here (Locals signals)) (locals_walk signals walk) c.args.walker.now c.locals.new.self
    c.leave_signals.new.self c.in_ok-locals.ensures
    (follows_within parts walk (λ scope before. with_signals before.signals signals scope)
    (λ before. record { signals = before.signals + length signals; traps = before.traps })
    c.locals.new.self c.enter_signals.new.self c.over_block.new.walker c.leave_signals.new.self
    c.in_ok-over_block.ensures.ready (λ r. c.in_ok-enter_signals.ensures.ready)
    (λ r. c.in_ok-leave_signals.ensures.ready)
    (λ scope before s. c.in_ok-enter_signals.ensures.moves scope before.signals s) c.in_ok-over_block.ensures
    (λ scope before s. c.in_ok-leave_signals.ensures.moves scope before.signals signals refl s))

pub within_trap-returns : goal.within_trap-returns
within_trap-returns t c =
    let name = c.args.name.now in
    follows_within c.args.text.now.parts.now (block_walk c.args.block.now)
    (λ scope before. with_trap before.traps name scope)
    (λ before. record { signals = before.signals; traps = before.traps + 1 })
    c.args.walker.now c.enter_trap.new.self c.over_block.new.walker c.leave_trap.new.self
    c.in_ok-over_block.ensures.ready (λ r. c.in_ok-enter_trap.ensures.ready)
    (λ r. c.in_ok-leave_trap.ensures.ready)
    (λ scope before s. c.in_ok-enter_trap.ensures.moves scope before.traps s) c.in_ok-over_block.ensures
    (λ scope before s. c.in_ok-leave_trap.ensures.moves scope before.traps name s)

pub over_blocks-each-preserved : goal.over_blocks-each-preserved
over_blocks-each-preserved t c = record {
  ready = c.in_ok-over_block.ensures.ready c.each.invariant.ready;
  follows = follows_more c.args.text.now.parts.now block_walk c.args.blocks.now c.each.block-index
      c.block-item.result c.args.walker.now c.each.walker c.over_block.new.walker c.each-test.true
      c.block-item.is c.each.invariant.follows c.in_ok-over_block.ensures;
}

pub over_nodes-each_node-preserved : goal.over_nodes-each_node-preserved
over_nodes-each_node-preserved t c = record {
  ready = c.in_ok-over_node.ensures.ready c.each_node.invariant.ready;
  follows = follows_more c.args.text.now.parts.now node_walk c.args.nodes.now c.each_node.node-index
      c.node-item.result c.args.walker.now c.each_node.walker c.over_node.new.walker c.each_node-test.true
      c.node-item.is c.each_node.invariant.follows c.in_ok-over_node.ensures;
}

pub otherwise-returns-in-None : goal.otherwise-returns-in-None
otherwise-returns-in-None t c =
    let parts = c.args.text.now.parts.now in
    let old = c.args.walker.now in
    subst (λ (o : Option (BlockNode Name)). Follows parts (if_there (option_map block_walk o)) old old)
    (sym c.in-None.is) (follows_empty parts old)

pub otherwise-returns-in-Some : goal.otherwise-returns-in-Some
otherwise-returns-in-Some t c = subst (λ (o : Option (BlockNode Name)). OnOk c.over_block.result
    (Follows c.args.text.now.parts.now (if_there (option_map block_walk o)) c.args.walker.now
    c.over_block.new.walker)) (sym c.in-Some.is) c.over_block.ensures

pub over_statement-returns-in_ok-otherwise-in-If : goal.over_statement-returns-in_ok-otherwise-in-If
over_statement-returns-in_ok-otherwise-in-If t c =
    let parts = c.args.text.now.parts.now in
    let x = c.in-If.x in
    let block = c.in-If.block in
    let other = c.in-If.other in
    let walk : statement_walk c.args.statement.now ≡ then (then (here (Test x)) (block_walk block))
    (if_there (option_map block_walk other)) =
    ap statement_walk c.in-If.is ∙ walk_branches x block other in
    subst (λ (w : Walk Name). Follows parts w c.args.walker.now c.otherwise.new.walker) (sym walk)
    (follows_then parts (then (here (Test x)) (block_walk block)) (if_there (option_map block_walk other))
    c.args.walker.now c.tested.new.walker c.otherwise.new.walker
    (subst (λ (y : ExprAt Name). Follows parts (then (here (Test y)) (block_walk block)) c.args.walker.now
    c.tested.new.walker) c.get.ensures c.in_ok-tested-in-If.ensures)
    c.in_ok-otherwise-in-If.ensures)

pub over_statement-returns-in-Signal : goal.over_statement-returns-in-Signal
over_statement-returns-in-Signal t c =
    let signals = c.in-Signal.signals in
    let block = c.in-Signal.block in
    let walk : statement_walk c.args.statement.now ≡ then (here (Locals signals))
    (locals_walk signals (block_walk block)) =
    ap statement_walk c.in-Signal.is ∙ walk_signal signals block in
    subst (λ (w : Walk Name). OnOk c.within_signals.result (Follows c.args.text.now.parts.now w
    c.args.walker.now c.within_signals.new.walker))
    (ap (λ ss. then (here (Locals ss)) (locals_walk ss (block_walk block))) c.as_slice-in-Signal.ensures
    ∙ sym walk) c.within_signals.ensures

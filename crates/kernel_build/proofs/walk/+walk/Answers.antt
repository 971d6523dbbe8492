use Rattle.std.proofs.Common.{ℕ, ◌∙◌, ap, arith}
use Rattle.module_tree.specs.declared.source.Statement.{size-Statement}
use Rattle.module_tree.specs.declared.source.StatementNode.{size-StatementNode}
use Rattle.kernel_expand.specs.Interpretation.{of_node, of_block}
use Rattle.statement_build.specs.Building.{numbered_of, around_of}
use Rattle.statement_build.specs.Levels.{kernel_in, runs_in}
use Rattle.kernel_build.proofs.Branches.{branch_is_less}
use Rattle.kernel_build.proofs.Descending.{left_of, depth_of, found_goes_down, step_goes_down}
use Rattle.kernel_build.proofs.Gathered.{one_more}
use Rattle.kernel_build.proofs.Written.{inside_written, body_written, no_body_written, run_written}
use Rattle.kernel_build.proofs.Written.{block_written, branches_written, both_written, choice_written, step_written, node_written}
use Rattle.kernel_build.proofs.walk.+walk.Goals as goal

pub block-nodes-preserved : goal.block-nodes-preserved
block-nodes-preserved t c =
    one_more (of_node (kernel_in c.args.level)) c.as_slice-statement-items.result.now c.nodes.statement-index
    c.statement-item.result (around_of c.args.around.now) (numbered_of c.args.builder.now)
    (numbered_of c.nodes.builder) (numbered_of c.node.new.builder) c.nodes.terms.items c.push.new.self.items
    c.in_ok-node.field-0 (omega arith) c.statement-item.is c.nodes.invariant c.in_ok-node.ensures
    c.in_ok-push.ensures.items

pub block-returns : goal.block-returns
block-returns t c =
    block_written c.args.level c.args.block.now c.innermost-inner.result.now (around_of c.args.around.now)
    (numbered_of c.args.builder.now) (numbered_of c.nodes.builder) c.nodes.terms.items
    c.as_slice-statement-items.result.now c.nodes.statement-index c.in_ok-all.field-0
    c.innermost-inner.ensures.means c.as_slice-statement-items.ensures c.nodes.invariant
    (omega (arith, c.nodes-test.false)) c.in_ok-all.ensures

pub branches-parts-preserved : goal.branches-parts-preserved
branches-parts-preserved t c =
    one_more (of_block (kernel_in c.args.level)) c.args.blocks.now c.parts.part-index
    c.part-item.result (around_of c.args.around.now) (numbered_of c.args.builder.now)
    (numbered_of c.parts.builder) (numbered_of c.block.new.builder) c.parts.terms.items c.push.new.self.items
    c.in_ok-block.field-0 (omega arith) c.part-item.is c.parts.invariant c.in_ok-block.ensures
    c.in_ok-push.ensures.items

pub branches-returns : goal.branches-returns
branches-returns t c =
    branches_written c.args.level c.args.at.pos c.args.blocks.now (around_of c.args.around.now)
    (numbered_of c.args.builder.now) (numbered_of c.parts.builder) c.parts.terms.items c.parts.part-index
    c.in_ok-all.field-0 c.parts.invariant (omega (arith, c.parts-test.false)) c.in_ok-all.ensures

pub body-returns-in-None : goal.body-returns-in-None
body-returns-in-None t c =
    no_body_written c.args.body (numbered_of c.args.builder.now) _ c.in-None.is c.nothing.ensures

pub body-returns-in_ok-block-in-Some : goal.body-returns-in_ok-block-in-Some
body-returns-in_ok-block-in-Some t c =
    body_written c.args.body c.in-Some.found (around_of c.none-around.result) (numbered_of c.args.builder.now) _
    c.in-Some.is c.none-around.ensures c.in_ok-block-in-Some.ensures

pub run-returns : goal.run-returns
run-returns t c = λ a.
    let n = numbered_of c.args.builder.now in
    let end = numbered_of c.body.new.builder in
    let outer = c.in_ok-outer.outer in
    run_written c.args.level c.args.place c.args.bindings.now a n (numbered_of c.enter.new.self) end
    (numbered_of c.leave.new.self) c.in_ok-term.term _ c.in_ok-outer.ensures.after
    (c.in_ok-found.ensures.means n) c.in_ok-term.ensures
    (c.leave.ensures ∙ (λ i. record {
      signals = end.signals;
      sites = end.sites;
      places = c.in_ok-outer.ensures.places i;
      traps = c.in_ok-outer.ensures.traps i;
    }))

pub finish-returns-in_ok-inside-in-Inside : goal.finish-returns-in_ok-inside-in-Inside
finish-returns-in_ok-inside-in-Inside t c =
    step_written c.args.level c.args.at.pos c.args.step _ (around_of c.args.around.now)
    (numbered_of c.args.builder.now) _ c.in-Inside.is c.in_ok-inside-in-Inside.ensures

pub finish-returns-in_ok-choice-in-Choice : goal.finish-returns-in_ok-choice-in-Choice
finish-returns-in_ok-choice-in-Choice t c =
    step_written c.args.level c.args.at.pos c.args.step _ (around_of c.args.around.now)
    (numbered_of c.args.builder.now) _ c.in-Choice.is c.in_ok-choice-in-Choice.ensures

pub finish-returns-in_ok-branches-in-Branches : goal.finish-returns-in_ok-branches-in-Branches
finish-returns-in_ok-branches-in-Branches t c =
    step_written c.args.level c.args.at.pos c.args.step _ (around_of c.args.around.now)
    (numbered_of c.args.builder.now) _ c.in-Branches.is c.in_ok-branches-in-Branches.ensures

pub finish-returns-in_ok-run-in-Run : goal.finish-returns-in_ok-run-in-Run
finish-returns-in_ok-run-in-Run t c =
    step_written c.args.level c.args.at.pos c.args.step _ (around_of c.args.around.now)
    (numbered_of c.args.builder.now) _ c.in-Run.is (c.in_ok-run-in-Run.ensures (around_of c.args.around.now))

pub both-returns-in-Ok : goal.both-returns-in-Ok
both-returns-in-Ok t c =
    both_written c.args.level c.args.then.now c.args.other.now (around_of c.args.around.now)
    (numbered_of c.args.builder.now) (numbered_of c.block.new.builder) (numbered_of c.block-2.new.builder)
    c.in_ok-first.first c.in-Ok.second c.in_ok-first.ensures c.in-Ok.ensures

pub choice-returns-in_ok-choice-in-Ok : goal.choice-returns-in_ok-choice-in-Ok
choice-returns-in_ok-choice-in-Ok t c =
    choice_written c.args.level c.args.at.pos c.args.test c.args.then.now c.args.other.now
    (around_of c.args.around.now) (numbered_of c.args.builder.now) (numbered_of c.both.new.builder) _ _
    c.in_ok-choice-in-Ok.field-0 c.in-Ok.ensures c.in_ok-choice-in-Ok.ensures

pub inside-returns-in_ok-close-in-Ok : goal.inside-returns-in_ok-close-in-Ok
inside-returns-in_ok-close-in-Ok t c =
    inside_written c.args.at.pos c.args.wrap (of_block (kernel_in c.args.level) c.args.body.now)
    (numbered_of c.args.builder.now) (numbered_of c.block.new.builder) c.in-Ok.body
    c.in_ok-close-in-Ok.field-0 c.in-Ok.ensures c.in_ok-close-in-Ok.ensures

pub node-returns : goal.node-returns
node-returns t c =
    node_written c.args.level c.args.node.now c.statement_of.result.now c.in_ok-step.step (around_of c.args.around.now)
    (numbered_of c.args.builder.now) (numbered_of c.begin.new.self) _ c.statement_of.ensures.same
    (c.in_ok-step.ensures.means (runs_in c.args.level)) c.in_ok-finish.ensures

-- ---- the measures

pub run-body-requires : goal.run-body-requires
run-body-requires t c =
    let less = found_goes_down c.args.level c.in_ok-found.found c.in_ok-found.ensures.less in omega (arith, less)

pub body-block-requires : goal.body-block-requires
body-block-requires t c = let same = ap left_of c.in-Some.is in omega (arith, same)

pub branches-block-requires : goal.branches-block-requires
branches-block-requires t c =
    let less = branch_is_less c.branches_are_less.ensures.first c.branches_are_less.ensures.rest
    c.args.blocks.now c.parts.part-index c.part-item.result (omega arith) c.part-item.is in
    omega (arith, less)

pub node-finish-requires : goal.node-finish-requires
node-finish-requires t c =
    let less = step_goes_down c.args.level c.in_ok-step.step (size-Statement ℕ c.statement_of.result.now)
    (size-StatementNode ℕ c.args.node.now) c.in_ok-step.ensures.less c.statement_of.ensures.less in
    omega (arith, less)

pub finish-inside-requires : goal.finish-inside-requires
finish-inside-requires t c = let same = ap depth_of c.in-Inside.is in omega (arith, same)

pub finish-choice-requires : goal.finish-choice-requires
finish-choice-requires t c = let same = ap depth_of c.in-Choice.is in omega (arith, same)

pub finish-branches-requires : goal.finish-branches-requires
finish-branches-requires t c = let same = ap depth_of c.in-Branches.is in omega (arith, same)

pub finish-run-requires : goal.finish-run-requires
finish-run-requires t c = let same = ap depth_of c.in-Run.is in omega (arith, same)

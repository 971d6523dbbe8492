use Rattle.std.proofs.Common.{◌≡◌, map, refl, sym, subst, ◌∙◌, ap, arith, List, ℕ}
use Rattle.std.specs.Prelude.{IfOk, option_map}
use Rattle.module_tree.specs.declared.source.Binding.{Binding}
use Rattle.module_tree.specs.declared.source.BlockNode.{BlockNode}
use Rattle.module_tree.specs.declared.source.ExprAt.{ExprAt}
use Rattle.module_tree.specs.declared.source.Delay.{Delay}
use Rattle.module_tree.specs.declared.source.SignalNode.{SignalNode}
use Rattle.module_tree.specs.declared.source.Statement.{Statement}
use Rattle.module_tree.specs.declared.source.Statement.TheOpen as s
use Rattle.module_tree.specs.declared.source.Statement.TheVariants as v
use Rattle.link_faults.specs.Named.{Name, module_named}
use Rattle.link_faults.specs.Rows.{module_place}
use Rattle.module_link.specs.Resolved.{resolved_block, resolved, resolved_name, resolved_delay, resolved_later}
use Rattle.module_link.specs.Resolved.{resolved_bindings, resolved_async, each, if_there, within, in_signals}
use Rattle.module_link.specs.Resolved.{Resolve, signal_place, trap_place, or_first}
use Rattle.link_resolve.specs.Walking.{Resolves, resolved_node}
use Rattle.link_resolve.proofs.Resolving.{plainly_resolves, within_resolves, then_resolves, more_resolves}
use Rattle.link_resolve.proofs.Resolving.{if_step, nothing_resolves, some_resolves, node_resolves, block_resolves, all_resolve}
use Rattle.link_resolve.proofs.Resolving.{by_step, made_by_step, by_plain_step, signals_resolve, trap_resolves}
use Rattle.link_resolve.proofs.walk.+walk.Goals as goal

pub behind_signals-returns : goal.behind_signals-returns
behind_signals-returns t c =
    let parts = c.args.text.now.parts.now in
    let left = c.resolve_block.new.places in
    signals_resolve c.args.signals.now (resolved_block parts c.args.block.now) c.args.places.now
    c.enter_signals.new.places left (record left { signals = c.leave_all.new.self }) c.in_ok-block.block
    (record {
      signals = c.in_ok-leave_all.ensures.scope;
      traps = c.in_ok-block.ensures.are_places.traps;
    }) c.in_ok-enter_signals.ensures.same c.in_ok-enter_signals.ensures.next
    c.in_ok-enter_signals.ensures.declared c.in_ok-block.ensures
    (record { traps = refl; parameters = refl; next_trap = refl }) refl c.in_ok-leave_all.ensures.declared

pub inside_trap-returns : goal.inside_trap-returns
inside_trap-returns t c =
    let parts = c.args.text.now.parts.now in
    let left = c.resolve_block.new.places in
    trap_resolves c.args.name.now (resolved_block parts c.args.block.now) c.args.places.now
    c.enter_trap.new.places left (record left { traps = c.leave.new.self }) c.in_ok-block.block
    (record {
      signals = c.in_ok-block.ensures.are_places.signals;
      traps = c.in_ok-leave.ensures.scope;
    }) c.in_ok-enter_trap.ensures.same c.in_ok-enter_trap.ensures.next
    c.in_ok-enter_trap.ensures.declared c.in_ok-block.ensures
    (record { signals = refl; parameters = refl; next_signal = refl }) refl c.in_ok-leave.ensures.declared

pub branches-branches-preserved : goal.branches-branches-preserved
branches-branches-preserved t c =
    let parts = c.args.text.now.parts.now in
    more_resolves (resolved_block parts) c.args.blocks.now c.branches.block-index c.block-item.result
    c.args.places.now c.branches.places c.resolve_block.new.places c.branches.branches.items
    c.in_ok-resolve_block.field-0 _ c.branches-test.true c.block-item.is c.branches.invariant
    c.in_ok-resolve_block.ensures c.in_ok-push.ensures.items

pub looped-returns : goal.looped-returns
looped-returns t c = within_resolves (λ scope. v.Loop) (resolved_block c.args.text.now.parts.now c.args.block.now)
    c.args.places.now c.resolve_block.new.places c.in_ok-block.block (v.Loop c.in_ok-block.block)
    c.in_ok-block.ensures (λ scope h. refl)

pub forked-returns : goal.forked-returns
forked-returns t c = within_resolves (λ scope. v.Fork)
    (each (map (resolved_block c.args.text.now.parts.now) c.args.blocks.now)) c.args.places.now
    c.branches.new.places c.in_ok-blocks.blocks (v.Fork c.in_ok-blocks.blocks) c.in_ok-blocks.ensures
    (λ scope h. refl)

pub nested-returns : goal.nested-returns
nested-returns t c = within_resolves (λ scope. v.Block) (resolved_block c.args.text.now.parts.now c.args.block.now)
    c.args.places.now c.resolve_block.new.places c.in_ok-block.block (v.Block c.in_ok-block.block)
    c.in_ok-block.ensures (λ scope h. refl)

pub every-returns : goal.every-returns
every-returns t c = within_resolves (λ scope. v.Every (resolved_delay scope c.args.delay.now))
    (resolved_block c.args.text.now.parts.now c.args.block.now) c.args.places.now c.resolve_block.new.places
    c.in_ok-block.block (v.Every c.in_ok-delay.delay c.in_ok-block.block) c.in_ok-block.ensures
    (λ scope h. ap (λ (d : Delay ℕ). v.Every d c.in_ok-block.block) (c.in_ok-delay.ensures scope h))

pub aborted-returns : goal.aborted-returns
aborted-returns t c = within_resolves (λ scope. v.Abort (resolved_delay scope c.args.delay.now))
    (resolved_block c.args.text.now.parts.now c.args.block.now) c.args.places.now c.resolve_block.new.places
    c.in_ok-block.block (v.Abort c.in_ok-delay.delay c.in_ok-block.block) c.in_ok-block.ensures
    (λ scope h. ap (λ (d : Delay ℕ). v.Abort d c.in_ok-block.block) (c.in_ok-delay.ensures scope h))

pub weakly_aborted-returns : goal.weakly_aborted-returns
weakly_aborted-returns t c = within_resolves (λ scope. v.WeakAbort (resolved_delay scope c.args.delay.now))
    (resolved_block c.args.text.now.parts.now c.args.block.now) c.args.places.now c.resolve_block.new.places
    c.in_ok-block.block (v.WeakAbort c.in_ok-delay.delay c.in_ok-block.block) c.in_ok-block.ensures
    (λ scope h. ap (λ (d : Delay ℕ). v.WeakAbort d c.in_ok-block.block) (c.in_ok-delay.ensures scope h))

pub done_every-returns : goal.done_every-returns
done_every-returns t c = within_resolves (λ scope b. v.DoEvery b (resolved_later scope c.args.later.now))
    (resolved_block c.args.text.now.parts.now c.args.block.now) c.args.places.now c.resolve_block.new.places
    c.in_ok-block.block (v.DoEvery c.in_ok-block.block c.in_ok-later.later) c.in_ok-block.ensures
    (λ scope h. ap (v.DoEvery c.in_ok-block.block) (c.in_ok-later.ensures scope h))

pub suspended-returns : goal.suspended-returns
suspended-returns t c = within_resolves
    (λ scope. v.Suspend c.args.immediate (resolved scope c.args.test.now))
    (resolved_block c.args.text.now.parts.now c.args.block.now) c.args.places.now c.resolve_block.new.places
    c.in_ok-block.block (v.Suspend c.args.immediate c.in_ok-test.test c.in_ok-block.block)
    c.in_ok-block.ensures (λ scope h. ap (λ (x : ExprAt ℕ). v.Suspend c.args.immediate x c.in_ok-block.block)
    (c.in_ok-test.ensures scope h))

pub declared-returns : goal.declared-returns
declared-returns t c =
    let x = c.in_ok-block.ensures in
    let b = c.in_ok-block.block in
    record {
      are_places = x.are_places;
      tree = λ scope h. ap (λ (ss : List SignalNode). v.Signal ss b) c.in_ok-signals.ensures
          ∙ ap (v.Signal c.args.signals.now) (x.tree scope h);
      after = x.after;
      shows = x.shows;
    }

pub trapped-returns : goal.trapped-returns
trapped-returns t c =
    let x = c.in_ok-block.ensures in
    let b = c.in_ok-block.block in
    record {
      are_places = x.are_places;
      tree = λ scope h. ap (λ (n : Name). v.Trap n b) c.in_ok-name.ensures
          ∙ ap (v.Trap c.args.name.now) (x.tree scope h);
      after = x.after;
      shows = x.shows;
    }

pub resolve_statement-returns-in-Nothing : goal.resolve_statement-returns-in-Nothing
resolve_statement-returns-in-Nothing t c =
    let parts = c.args.text.now.parts.now in
    let p = c.args.places.now in
    let x = c.args.statement.now in
    made_by_step parts s.Nothing x p p v.Nothing (v.rolls-Nothing ∙ sym c.in-Nothing.is)
    (plainly_resolves p (λ scope. v.Nothing) v.Nothing c.requires.places (λ scope h. refl))

pub resolve_statement-returns-in-Pause : goal.resolve_statement-returns-in-Pause
resolve_statement-returns-in-Pause t c =
    let parts = c.args.text.now.parts.now in
    let p = c.args.places.now in
    let x = c.args.statement.now in
    made_by_step parts s.Pause x p p v.Pause (v.rolls-Pause ∙ sym c.in-Pause.is)
    (plainly_resolves p (λ scope. v.Pause) v.Pause c.requires.places (λ scope h. refl))

pub resolve_statement-returns-in-Halt : goal.resolve_statement-returns-in-Halt
resolve_statement-returns-in-Halt t c =
    let parts = c.args.text.now.parts.now in
    let p = c.args.places.now in
    let x = c.args.statement.now in
    made_by_step parts s.Halt x p p v.Halt (v.rolls-Halt ∙ sym c.in-Halt.is)
    (plainly_resolves p (λ scope. v.Halt) v.Halt c.requires.places (λ scope h. refl))

pub resolve_statement-returns-in-Emit : goal.resolve_statement-returns-in-Emit
resolve_statement-returns-in-Emit t c =
    let parts = c.args.text.now.parts.now in
    let p = c.args.places.now in
    let x = c.args.statement.now in
    let w = c.in-Emit in
    by_plain_step parts (s.Emit w.name w.value) x c.emit.result p
    (λ scope. v.Emit (resolved_name (signal_place scope) w.name) (option_map (resolved scope) w.value))
    (v.rolls-Emit w.name w.value ∙ sym w.is) refl c.requires.places c.emit.ensures

pub resolve_statement-returns-in-Sustain : goal.resolve_statement-returns-in-Sustain
resolve_statement-returns-in-Sustain t c =
    let parts = c.args.text.now.parts.now in
    let p = c.args.places.now in
    let x = c.args.statement.now in
    let w = c.in-Sustain in
    by_plain_step parts (s.Sustain w.name w.value) x c.sustain.result p
    (λ scope. v.Sustain (resolved_name (signal_place scope) w.name) (option_map (resolved scope) w.value))
    (v.rolls-Sustain w.name w.value ∙ sym w.is) refl c.requires.places c.sustain.ensures

pub resolve_statement-returns-in_ok-other-in-If : goal.resolve_statement-returns-in_ok-other-in-If
resolve_statement-returns-in_ok-other-in-If t c =
    let parts = c.args.text.now.parts.now in
    let p = c.args.places.now in
    let x = c.args.statement.now in
    let w = c.in-If in
    let test = c.in_ok-test-in-If.test in
    let yes = c.in_ok-yes-in-If.yes in
    let other = c.in_ok-other-in-If.other in
    made_by_step parts (s.If w.test w.yes w.other) x p c.otherwise.new.places (v.If test yes other)
    (v.rolls-If w.test w.yes w.other ∙ sym w.is)
    (subst (λ (q : Resolve (Statement ℕ)). Resolves q p c.otherwise.new.places (v.If test yes other))
    (if_step parts w.test w.yes w.other)
    (then_resolves (λ scope. v.If (resolved scope w.test)) (resolved_block parts w.yes)
    (if_there (option_map (resolved_block parts) w.other)) p c.resolve_block.new.places
    c.otherwise.new.places yes other (v.If test yes other) c.in_ok-yes-in-If.ensures
    c.in_ok-other-in-If.ensures (λ scope h. ap (λ (e : ExprAt ℕ). v.If e yes other)
    (c.in_ok-test-in-If.ensures scope h))))

pub resolve_statement-returns-in-Loop : goal.resolve_statement-returns-in-Loop
resolve_statement-returns-in-Loop t c =
    let parts = c.args.text.now.parts.now in
    let p = c.args.places.now in
    let x = c.args.statement.now in
    let w = c.in-Loop in
    by_step parts (s.Loop w.block) x c.looped.result p c.looped.new.places (v.rolls-Loop w.block ∙ sym w.is)
    c.looped.ensures

pub resolve_statement-returns-in-Fork : goal.resolve_statement-returns-in-Fork
resolve_statement-returns-in-Fork t c =
    let parts = c.args.text.now.parts.now in
    let p = c.args.places.now in
    let x = c.args.statement.now in
    let w = c.in-Fork in
    by_step parts (s.Fork w.blocks) x c.forked.result p c.forked.new.places (v.rolls-Fork w.blocks ∙ sym w.is)
    (subst (λ (bs : List (BlockNode Name)). IfOk c.forked.result (λ q. Resolves (within (λ scope. v.Fork)
    (each (map (resolved_block parts) bs))) p c.forked.new.places q)) c.as_slice.ensures c.forked.ensures)

pub resolve_statement-returns-in-Block : goal.resolve_statement-returns-in-Block
resolve_statement-returns-in-Block t c =
    let parts = c.args.text.now.parts.now in
    let p = c.args.places.now in
    let x = c.args.statement.now in
    let w = c.in-Block in
    by_step parts (s.Block w.block) x c.nested.result p c.nested.new.places (v.rolls-Block w.block ∙ sym w.is)
    c.nested.ensures

pub resolve_statement-returns-in-Every : goal.resolve_statement-returns-in-Every
resolve_statement-returns-in-Every t c =
    let parts = c.args.text.now.parts.now in
    let p = c.args.places.now in
    let x = c.args.statement.now in
    let w = c.in-Every in
    by_step parts (s.Every w.delay w.block) x c.every.result p c.every.new.places (v.rolls-Every w.delay w.block ∙ sym w.is)
    c.every.ensures

pub resolve_statement-returns-in-DoEvery : goal.resolve_statement-returns-in-DoEvery
resolve_statement-returns-in-DoEvery t c =
    let parts = c.args.text.now.parts.now in
    let p = c.args.places.now in
    let x = c.args.statement.now in
    let w = c.in-DoEvery in
    by_step parts (s.DoEvery w.block w.later) x c.done_every.result p c.done_every.new.places (v.rolls-DoEvery w.block w.later ∙ sym w.is)
    c.done_every.ensures

pub resolve_statement-returns-in-Abort : goal.resolve_statement-returns-in-Abort
resolve_statement-returns-in-Abort t c =
    let parts = c.args.text.now.parts.now in
    let p = c.args.places.now in
    let x = c.args.statement.now in
    let w = c.in-Abort in
    by_step parts (s.Abort w.delay w.block) x c.aborted.result p c.aborted.new.places (v.rolls-Abort w.delay w.block ∙ sym w.is)
    c.aborted.ensures

pub resolve_statement-returns-in-WeakAbort : goal.resolve_statement-returns-in-WeakAbort
resolve_statement-returns-in-WeakAbort t c =
    let parts = c.args.text.now.parts.now in
    let p = c.args.places.now in
    let x = c.args.statement.now in
    let w = c.in-WeakAbort in
    by_step parts (s.WeakAbort w.delay w.block) x c.weakly_aborted.result p c.weakly_aborted.new.places (v.rolls-WeakAbort w.delay w.block ∙ sym w.is)
    c.weakly_aborted.ensures

pub resolve_statement-returns-in-Suspend : goal.resolve_statement-returns-in-Suspend
resolve_statement-returns-in-Suspend t c =
    let parts = c.args.text.now.parts.now in
    let p = c.args.places.now in
    let x = c.args.statement.now in
    let w = c.in-Suspend in
    by_step parts (s.Suspend w.immediate w.test w.block) x c.suspended.result p c.suspended.new.places (v.rolls-Suspend w.immediate w.test w.block ∙ sym w.is)
    c.suspended.ensures

pub resolve_statement-returns-in-Signal : goal.resolve_statement-returns-in-Signal
resolve_statement-returns-in-Signal t c =
    let parts = c.args.text.now.parts.now in
    let p = c.args.places.now in
    let x = c.args.statement.now in
    let w = c.in-Signal in
    by_step parts (s.Signal w.signals w.block) x c.declared.result p c.declared.new.places (v.rolls-Signal w.signals w.block ∙ sym w.is)
    (subst (λ (ss : List SignalNode). IfOk c.declared.result (λ q. Resolves (in_signals ss
    (resolved_block parts w.block)) p c.declared.new.places q)) c.as_slice-in-Signal.ensures
    c.declared.ensures)

pub resolve_statement-returns-in-Trap : goal.resolve_statement-returns-in-Trap
resolve_statement-returns-in-Trap t c =
    let parts = c.args.text.now.parts.now in
    let p = c.args.places.now in
    let x = c.args.statement.now in
    let w = c.in-Trap in
    by_step parts (s.Trap w.name w.block) x c.trapped.result p c.trapped.new.places (v.rolls-Trap w.name w.block ∙ sym w.is)
    c.trapped.ensures

pub resolve_statement-returns-in-Await : goal.resolve_statement-returns-in-Await
resolve_statement-returns-in-Await t c =
    let parts = c.args.text.now.parts.now in
    let p = c.args.places.now in
    let x = c.args.statement.now in
    let w = c.in-Await in
    by_plain_step parts (s.Await w.delay) x c.awaits.result p (λ scope. v.Await (resolved_delay scope w.delay))
    (v.rolls-Await w.delay ∙ sym w.is) refl c.requires.places c.awaits.ensures

pub resolve_statement-returns-in-Break : goal.resolve_statement-returns-in-Break
resolve_statement-returns-in-Break t c =
    let parts = c.args.text.now.parts.now in
    let p = c.args.places.now in
    let x = c.args.statement.now in
    let w = c.in-Break in
    made_by_step parts (s.Break w.name) x p p c.breaks.result (v.rolls-Break w.name ∙ sym w.is)
    (plainly_resolves p (λ scope. v.Break (resolved_name (trap_place scope) w.name)) c.breaks.result
    c.requires.places c.breaks.ensures)

pub resolve_statement-returns-in-Run : goal.resolve_statement-returns-in-Run
resolve_statement-returns-in-Run t c =
    let parts = c.args.text.now.parts.now in
    let p = c.args.places.now in
    let x = c.args.statement.now in
    let w = c.in-Run in
    by_plain_step parts (s.Run w.callee w.written) x c.run.result p
    (λ scope. v.Run (resolved_name (λ m. or_first (module_place parts m)) w.callee)
    (resolved_bindings scope w.callee.pos w.written (module_named parts w.callee.name)))
    (v.rolls-Run w.callee w.written ∙ sym w.is) refl c.requires.places
    (λ scope h. subst (λ (bs : List (Binding Name)). IfOk c.run.result (λ q. q ≡ v.Run
    (resolved_name (λ m. or_first (module_place parts m)) w.callee)
    (resolved_bindings scope w.callee.pos bs (module_named parts w.callee.name)))) c.as_slice-in-Run.ensures
    (c.run.ensures scope h))

pub resolve_statement-returns-in-Async : goal.resolve_statement-returns-in-Async
resolve_statement-returns-in-Async t c =
    let parts = c.args.text.now.parts.now in
    let p = c.args.places.now in
    let x = c.args.statement.now in
    let w = c.in-Async in
    by_plain_step parts (s.Async w.node) x c.starts.result p (λ scope. v.Async (resolved_async parts scope w.node))
    (v.rolls-Async w.node ∙ sym w.is) refl c.requires.places c.starts.ensures

pub otherwise-returns-in-None : goal.otherwise-returns-in-None
otherwise-returns-in-None t c = nothing_resolves c.args.text.now.parts.now c.args.block.now c.args.places.now
    c.requires.places c.in-None.is

pub otherwise-returns-in_ok-block-in-Some : goal.otherwise-returns-in_ok-block-in-Some
otherwise-returns-in_ok-block-in-Some t c = some_resolves c.args.text.now.parts.now c.args.block.now
    c.in-Some.block c.args.places.now c.resolve_block.new.places c.in_ok-block-in-Some.block
    c.in_ok-block-in-Some.ensures c.in-Some.is

pub branches-returns : goal.branches-returns
branches-returns t c =
    let parts = c.args.text.now.parts.now in
    all_resolve (resolved_block parts) c.args.blocks.now c.branches.block-index c.args.places.now
    c.branches.places c.branches.branches.items c.from_vec.result (omega arith) c.from_vec.ensures
    c.branches.invariant

pub resolve_block-statements-preserved : goal.resolve_block-statements-preserved
resolve_block-statements-preserved t c =
    let parts = c.args.text.now.parts.now in
    more_resolves (resolved_node parts) c.as_slice-node-items.result.now c.statements.node-index c.node-item.result
    c.args.places.now c.statements.places c.resolve_node.new.places c.statements.statements.items
    c.in_ok-resolve_node.field-0 _ c.statements-test.true c.node-item.is c.statements.invariant
    c.in_ok-resolve_node.ensures c.in_ok-push.ensures.items

pub resolve_block-returns : goal.resolve_block-returns
resolve_block-returns t c =
    let parts = c.args.text.now.parts.now in
    block_resolves parts c.args.block.now c.as_slice-node-items.result.now c.args.places.now c.statements.places
    c.from_vec.result c.as_slice-node-items.ensures
    (all_resolve (resolved_node parts) c.as_slice-node-items.result.now c.statements.node-index c.args.places.now
    c.statements.places c.statements.statements.items c.from_vec.result (omega arith) c.from_vec.ensures
    c.statements.invariant)

pub resolve_node-returns : goal.resolve_node-returns
resolve_node-returns t c = node_resolves c.args.text.now.parts.now c.args.node.now c.args.places.now
    c.resolve_statement.new.places c.in_ok-what.what c.in_ok-what.ensures

use Rattle.std.proofs.Common.{Result, Ok, Err, OnErr, rules}
use Rattle.reaction_run.proofs.Runs.{ran_on, prefix_more}
use Rattle.reaction_run.proofs.reactor.run.Goals as goal

on_err_anyway : {T E : Type 0} (r : Result T E) (P : Type 0) → P → OnErr r P
on_err_anyway (Ok x) P p = tt
on_err_anyway (Err e) P p = p

pub returns-in_err-push-clause-err : goal.returns-in_err-push-clause-err
returns-in_err-push-clause-err g c =
    on_err_anyway c.from_residual-in_err-push.result _
    (prefix_more g.R.Reactor.machine (g.R.Reactor.state c.args.machine.now) c.args.events.now c.loop-event.event-index _ _ c.loop-event.replies.items c.event-item.result _ _ c.in_ok-reply.reply c.loop-event.invariant.0
    c.loop-event-test.true c.event-item.is c.in_ok-reply.ensures.reacts)

pub loop-event-preserved : goal.loop-event-preserved
loop-event-preserved g c = (
  ran_on g.R.Reactor.machine (g.R.Reactor.state c.args.machine.now) c.args.events.now c.loop-event.event-index _ _ c.loop-event.replies.items c.push.new.self.items c.event-item.result _ _ c.in_ok-reply.reply c.loop-event.invariant.0
      c.loop-event-test.true c.event-item.is c.in_ok-reply.ensures.reacts c.in_ok-push.ensures.items,
  search rules,
  search rules,
)

use Rattle.std.proofs.Common.{◌∙◌, arith}
use Rattle.net_propagate.specs.Settling.{nets_in, question_in}
use Rattle.net_propagate.proofs.Stepping.{sees_on, sees_all}
use Rattle.net_propagate.proofs.see.see_all.Goals as goal

pub signals-preserved : goal.signals-preserved
signals-preserved c =
    record {
      way = c.in_ok-see_signal.ensures.way;
      same = c.in_ok-see_signal.ensures.same ∙ c.signals.invariant.same;
      seen = sees_on (nets_in c.args.task.now) (question_in c.args.task.now) c.signals.place c.see_signal.new.place
          c.signals.signal c.signals.invariant.seen c.in_ok-see_signal.ensures.seen;
    }

pub returns-clause-exact : goal.returns-clause-exact
returns-clause-exact c =
    sees_all (nets_in c.args.task.now) (question_in c.args.task.now) c.signals.place c.signals.invariant.way.rising.room
    (λ s l. c.signals.invariant.seen s
    (let e = c.len-signal-end.ensures in
    let f = c.signals-test.false in
    let a = c.signals.auto.signal-end in
    omega (arith, l, e, f, a)))

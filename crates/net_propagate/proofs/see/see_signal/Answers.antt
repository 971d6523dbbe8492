use Rattle.std.proofs.Common.{sym}
use Rattle.net_propagate.specs.Settling.{nets_in, question_in}
use Rattle.net_propagate.proofs.Stepping.{signal_seen, seeing_rises, sees_none}
use Rattle.net_propagate.proofs.see.see_signal.Goals as goal

pub returns-in_ok-see-in-Some-clause-way : goal.returns-in_ok-see-in-Some-clause-way
returns-in_ok-see-in-Some-clause-way c =
    let N = (nets_in c.args.task.now) in
    let Q = question_in c.args.task.now in
    let on = signal_seen N Q c.args.place.now c.see.new.place c.args.signal c.in-Some.net_signal.now
    c.requires.rising.room (sym c.in-Some.ensures.value) c.in_ok-see-in-Some.ensures.cells
    c.in_ok-see-in-Some.ensures.before c.in_ok-see-in-Some.ensures.gates c.in_ok-see-in-Some.ensures.args in
    record {
      listed = c.requires.listed;
      rising = seeing_rises N Q c.args.place.now c.see.new.place c.args.signal c.requires.rising on.0 on.1;
    }

pub returns-in_ok-see-in-Some-clause-same : goal.returns-in_ok-see-in-Some-clause-same
returns-in_ok-see-in-Some-clause-same c =
    let on = signal_seen (nets_in c.args.task.now) (question_in c.args.task.now) c.args.place.now c.see.new.place
    c.args.signal c.in-Some.net_signal.now c.requires.rising.room (sym c.in-Some.ensures.value)
    c.in_ok-see-in-Some.ensures.cells c.in_ok-see-in-Some.ensures.before
    c.in_ok-see-in-Some.ensures.gates c.in_ok-see-in-Some.ensures.args in
    on.1.valuation

pub returns-in_ok-see-in-Some-clause-seen : goal.returns-in_ok-see-in-Some-clause-seen
returns-in_ok-see-in-Some-clause-seen c =
    let on = signal_seen (nets_in c.args.task.now) (question_in c.args.task.now) c.args.place.now c.see.new.place
    c.args.signal c.in-Some.net_signal.now c.requires.rising.room (sym c.in-Some.ensures.value)
    c.in_ok-see-in-Some.ensures.cells c.in_ok-see-in-Some.ensures.before
    c.in_ok-see-in-Some.ensures.gates c.in_ok-see-in-Some.ensures.args in
    on.1

pub returns-in-None-clause-seen : goal.returns-in-None-clause-seen
returns-in-None-clause-seen c =
    sees_none (nets_in c.args.task.now) (question_in c.args.task.now) c.args.place.now c.args.signal c.requires.rising.room
    (sym c.in-None.ensures.value)

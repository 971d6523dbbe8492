use Rattle.std.proofs.Common.{sym, ◌∙◌}
use Rattle.net_propagate.specs.Settling.{nets_in, question_in}
use Rattle.net_propagate.proofs.Stepping.{no_value, value_there}
use Rattle.net_propagate.proofs.value.value_now.Goals as goal

pub returns-in-None : goal.returns-in-None
returns-in-None c =
    no_value (nets_in c.args.task.now) (question_in c.args.task.now) c.args.place.now c.args.signal
    (sym c.in-None.ensures.value)

pub returns-in_ok-value-in-Some : goal.returns-in_ok-value-in-Some
returns-in_ok-value-in-Some c =
    c.in_ok-value-in-Some.ensures
    ∙ value_there (nets_in c.args.task.now) (question_in c.args.task.now) c.args.place.now c.args.signal
    c.in-Some.net_signal.now (sym c.in-Some.ensures.value)

pub value_of-requires-clause-there : goal.value_of-requires-clause-there
value_of-requires-clause-there c = sym c.in-Some.ensures.value

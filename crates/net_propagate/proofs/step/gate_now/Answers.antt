use Rattle.std.proofs.Common.{sym}
use Rattle.net_propagate.specs.Settling.{nets_in, question_in}
use Rattle.net_propagate.proofs.Stepping.{no_gate}
use Rattle.net_propagate.proofs.step.gate_now.Goals as goal

pub returns-in-None : goal.returns-in-None
returns-in-None c =
    no_gate (nets_in c.args.task.now) (question_in c.args.task.now) c.args.place.now c.args.gate
    (sym c.in-None.ensures.value)

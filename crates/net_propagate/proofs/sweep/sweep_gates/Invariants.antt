use Rattle.std.proofs.Common.{◌≤◌}
use Rattle.net_propagate.specs.Settling.{nets_in, question_in}
use Rattle.net_propagate.specs.Settling.{IsUnderWay, is_gate_given, left_in, Swept}
use Rattle.net_propagate.proofs.sweep.sweep_gates.Given as goal

abbrev pub invariant-gates : goal.invariant-gates
invariant-gates l = record {
  way : IsUnderWay l.task l.place;
  up : left_in l.place ≤ left_in l.fn.place;
  swept : Swept l.fn.place l.place (is_gate_given (nets_in l.task) (question_in l.task)) l.gate l.more;
}

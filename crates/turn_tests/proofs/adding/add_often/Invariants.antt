use Rattle.std.proofs.Common.{◌≤◌, ◌+◌}
use Rattle.turn_cell.specs.Calls.{view, IsSeatOf}
use Rattle.turn_tests.proofs.adding.add_often.Given as goal

abbrev pub invariant-loop : goal.invariant-loop
invariant-loop g l = record {
  own : IsSeatOf l.cell l.seat;
  turns : (view l.seat).spent ≤ (view l.fn.seat).spent + l.counter;
}

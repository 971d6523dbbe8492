use Rattle.std.proofs.Common.{All}
use Rattle.turn_cell.specs.Calls.{IsSeatOf}
use Rattle.turn_tests.proofs.adding.join_all.Given as goal

abbrev pub invariant-loop-other : goal.invariant-loop-other
invariant-loop-other l = record {
  own : IsSeatOf l.cell l.seat;
  others : All (λ s. IsSeatOf l.cell s) l.others.items;
}

abbrev pub decreases-loop-other : goal.decreases-loop-other
decreases-loop-other l = goal.left-loop-other l

use Rattle.std.proofs.Common.{All}
use Rattle.turn_cell.specs.Calls.{IsSeatOf}
use Rattle.turn_tests.proofs.adding.split_off.Given as goal

abbrev pub invariant-loop : goal.invariant-loop
invariant-loop l = record {
  own : IsSeatOf l.cell l.seat;
  others : All (λ s. IsSeatOf l.cell s) l.others.items;
}

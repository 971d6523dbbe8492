use Rattle.net_solution.specs.Places.{question_of, valuation_of, IsExact}
use Rattle.net_solution.proofs.Rounding.{Rounded, left_open}
use Rattle.net_solution.proofs.rounds.settle_records.Given as goal

abbrev pub invariant-rounds : goal.invariant-rounds
invariant-rounds l = record {
  exact : IsExact l.nets (question_of l.asked) l.place;
  rounded : Rounded l.nets (question_of l.asked) (valuation_of l.place);
}

abbrev pub decreases-rounds : goal.decreases-rounds
decreases-rounds l = left_open (valuation_of l.place)

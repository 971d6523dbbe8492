use Rattle.std.proofs.Common.{◌≡◌}
use Rattle.net_solution.specs.Places.{valuation_of}
use Rattle.net_propagate.specs.Settling.{nets_in, question_in, IsUnderWay}
use Rattle.net_propagate.proofs.Stepping.{SeenBelowCount}
use Rattle.net_propagate.proofs.see.see_all.Given as goal

abbrev pub invariant-signals : goal.invariant-signals
invariant-signals l = record {
  way : IsUnderWay l.task l.place;
  same : valuation_of l.place ≡ valuation_of l.fn.place;
  seen : SeenBelowCount (nets_in l.task) (question_in l.task) l.place l.signal;
}

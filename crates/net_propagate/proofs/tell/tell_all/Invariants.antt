use Rattle.std.proofs.Common.{◌≤◌}
use Rattle.net_propagate.specs.Settling.{IsUnderWay, left_in}
use Rattle.net_propagate.proofs.tell.tell_all.Given as goal

abbrev pub invariant-news : goal.invariant-news
invariant-news l = record {
  way : IsUnderWay l.task l.place;
  up : left_in l.place ≤ left_in l.fn.place;
}

use Rattle.std.proofs.Common.{◌≡◌, length, map}
use Rattle.hh_term.specs.Touches.{numbered}
use Rattle.last_walk.specs.LastWalk.{touch_of}
use Rattle.touch_order.proofs.Numbering.{so_far}
use Rattle.touch_order.proofs.ids.number_touches.Given as goal

abbrev pub invariant-loop-at : goal.invariant-loop-at
invariant-loop-at l = record {
  many : length l.touches.items ≡ length l.initial.touches.items;
  numbered : numbered l.initial.last (map touch_of l.initial.touches.items) ≡ so_far l.at l.last l.touches.items;
}

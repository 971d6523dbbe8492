use Rattle.std.proofs.Common.{◌≡◌, ◌≤◌, ◌-◌}
use Rattle.last_walk.proofs.Stopping.{halted}
use Rattle.last_walk.proofs.touch.stop_from.Given as goal

abbrev pub invariant-loop-at : goal.invariant-loop-at
invariant-loop-at l = record {
  order : l.from ≤ l.at;
  halted : l.touches.items ≡ halted l.from (l.at - l.from) l.initial.touches.items;
}

use Rattle.std.proofs.Common.{◌≡◌, map}
use Rattle.hh_base.proofs.item.Queue.copy.Given as goal

abbrev pub invariant-loop-item : goal.invariant-loop-item
invariant-loop-item l = l.items.items ≡ map (λ r. r.now) l.yielded

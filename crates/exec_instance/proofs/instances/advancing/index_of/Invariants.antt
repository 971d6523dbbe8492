use Rattle.std.proofs.Common.{◌≡◌, ◌≤◌, ℕ, drop, length}
use Rattle.exec_instance.specs.Changes.{found_in, change_of}
use Rattle.exec_instance.proofs.instances.advancing.index_of.Given as goal

abbrev pub invariant-loop-at : goal.invariant-loop-at
invariant-loop-at l = record { within : l.at ≤ length l.changes; finds : (id : ℕ) → found_in l.index id ≡ change_of (drop l.at l.changes) id }

abbrev pub decreases-loop-at : goal.decreases-loop-at
decreases-loop-at l = l.at

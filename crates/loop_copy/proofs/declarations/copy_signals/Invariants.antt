use Rattle.std.proofs.Common.{◌≡◌, take}
use Rattle.loop_copy.proofs.declarations.copy_signals.Given as goal

abbrev pub invariant-loop-at : goal.invariant-loop-at
invariant-loop-at l = l.copies.items ≡ take l.at l.signals

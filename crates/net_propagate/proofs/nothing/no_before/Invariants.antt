use Rattle.std.proofs.Common.{◌≡◌, length}
use Rattle.net_propagate.proofs.nothing.no_before.Given as goal

abbrev pub invariant-signals : goal.invariant-signals
invariant-signals l = length l.before.items ≡ l.signal

use Rattle.std.proofs.Common.{◌≡◌, length}
use Rattle.net_propagate.proofs.nothing.no_gates.Given as goal

abbrev pub invariant-gates : goal.invariant-gates
invariant-gates l = length l.gates.items ≡ l.gate

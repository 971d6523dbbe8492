use Rattle.std.proofs.Common.{◌≡◌, [], replicate}
use Rattle.run_graph.proofs.callers.no_callers.Given as goal

abbrev pub invariant-modules : goal.invariant-modules
invariant-modules l = l.callers.items ≡ replicate l.at []

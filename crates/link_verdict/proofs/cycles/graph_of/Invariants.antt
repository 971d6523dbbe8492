use Rattle.std.proofs.Common.{◌≡◌, map, take}
use Rattle.link_verdict.specs.Cycles.{callees}
use Rattle.link_verdict.proofs.cycles.graph_of.Given as goal

abbrev pub invariant-modules : goal.invariant-modules
invariant-modules l = l.graph.items ≡ map callees (take l.module-index l.runs)

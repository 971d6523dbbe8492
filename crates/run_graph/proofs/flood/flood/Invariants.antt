use Rattle.std.proofs.Common.{◌+◌, length}
use Rattle.run_graph.specs.Flood.{IsFlooding, rootless}
use Rattle.run_graph.proofs.flood.flood.Given as goal

abbrev pub invariant-fringe : goal.invariant-fringe
invariant-fringe l = IsFlooding l.graph l.root l.fn.roots.items l.roots.items l.fringe

abbrev pub decreases-fringe : goal.decreases-fringe
decreases-fringe l = rootless l.roots.items + length l.fringe

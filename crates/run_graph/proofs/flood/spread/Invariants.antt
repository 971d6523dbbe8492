use Rattle.std.proofs.Common.{take}
use Rattle.run_graph.specs.Flood.{Spreads}
use Rattle.run_graph.proofs.flood.spread.Given as goal

abbrev pub invariant-modules : goal.invariant-modules
invariant-modules l = Spreads (take l.at-index l.modules) l.root l.fn.roots.items l.roots.items l.fn.fringe
    l.fringe

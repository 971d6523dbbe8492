use Rattle.std.proofs.Common.{reverse, take}
use Rattle.run_graph.specs.Components.{IsRooting}
use Rattle.run_graph.proofs.components.give_roots.Given as goal

abbrev pub invariant-finished : goal.invariant-finished
invariant-finished l = IsRooting l.runs l.callers.items (reverse l.finished)
    (take l.behind (reverse l.finished)) l.roots.items

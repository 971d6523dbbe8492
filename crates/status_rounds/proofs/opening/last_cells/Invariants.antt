use Rattle.std.proofs.Common.{◌≡◌, map, take}
use Rattle.status_rounds.specs.Before.{cell_after}
use Rattle.status_rounds.proofs.opening.last_cells.Given as goal

abbrev pub invariant-loop-last : goal.invariant-loop-last
invariant-loop-last l = l.cells.items ≡ map cell_after (take l.last-index l.before)

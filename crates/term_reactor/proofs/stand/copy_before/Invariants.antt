use Rattle.std.proofs.Common.{◌≡◌, take}
use Rattle.term_reactor.proofs.stand.copy_before.Given as goal

abbrev pub invariant-loop-cell : goal.invariant-loop-cell
invariant-loop-cell l = l.cells.items ≡ take l.cell-index l.before.cells.items

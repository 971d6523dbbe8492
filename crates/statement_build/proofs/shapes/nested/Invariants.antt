use Rattle.std.proofs.Common.{◌≡◌, length}
use Rattle.hh_term.specs.Placed.{placed_term}
use Rattle.statement_build.specs.Forms.{nested}
use Rattle.statement_build.proofs.shapes.nested.Given as goal

abbrev pub invariant-inward : goal.invariant-inward
invariant-inward l = nested l.at.pos l.left (placed_term l.whole) ≡ nested l.at.pos l.fn.numbers
    (placed_term l.fn.body)

abbrev pub decreases-inward : goal.decreases-inward
decreases-inward l = length l.left

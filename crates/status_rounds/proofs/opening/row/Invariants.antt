use Rattle.std.proofs.Common.{◌≡◌, replicate}
use Rattle.status_rounds.specs.NothingKnown.{nothing}
use Rattle.status_rounds.proofs.opening.row.Given as goal

abbrev pub invariant-loop-place : goal.invariant-loop-place
invariant-loop-place l = l.places_so_far.items ≡ replicate l.place nothing

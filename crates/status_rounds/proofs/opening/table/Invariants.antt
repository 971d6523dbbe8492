use Rattle.std.proofs.Common.{◌≡◌, map, replicate}
use Rattle.status_rounds.specs.NothingKnown.{nothing}
use Rattle.status_rounds.proofs.opening.table.Given as goal

abbrev pub invariant-loop-level : goal.invariant-loop-level
invariant-loop-level l = map (λ r. r.items) l.rows.items ≡ replicate l.level (replicate l.places nothing)

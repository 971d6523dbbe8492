-- What stands before the first round. (This project's own.)
use Rattle.std.specs.Prelude.{◌≡◌, ℕ, ◌<◌, List, length}
use Rattle.hh_base.specs.declared.value.Tri.TheVariants.{Unknown}
use Rattle.host_expr.specs.declared.cell.Cell.TheVariants as cell
use Rattle.status_table.specs.declared.tally.Known.{Known}
use Rattle.status_table.specs.declared.tally.Tally.{Tally}
use Rattle.status_rounds.specs.Rounds.{IsFresh}

-- nothing is known
abbrev pub nothing : Known
nothing = record { status = Unknown; value = cell.Unknown }

-- so many tallies, none of which has an emission
pub record AllNone (count : ℕ) (tallies : List Tally) : Type 0 where
  pub len : length tallies ≡ count
  pub fresh : (s : ℕ) → s < count → IsFresh tallies s

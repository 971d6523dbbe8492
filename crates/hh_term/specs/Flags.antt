-- A set of codes kept as flags.
use Rattle.std.specs.Prelude.{◌≡◌, ℕ, Bool, false, List, slice_index_or}
use Rattle.hh_term.specs.Codes.{CodeSet}

-- the set of the codes whose flag is set
abbrev pub codes_in : List Bool → CodeSet
codes_in flags c = slice_index_or flags c false

-- the flags are those of the set
abbrev pub Agrees : List Bool → CodeSet → Type 0
Agrees flags K = (c : ℕ) → slice_index_or flags c false ≡ K c

-- Names that differ, and what is stored under a new one. (This project's own.)
use Rattle.std.specs.Prelude.{◌≡◌, ℕ, ◌&&◌, Bool, true, not, List, [], ◌∷◌, ◌++◌, Result, Ok, Err}
use Rattle.std.specs.List.{list_any}
use Rattle.std.specs.Str.{bytes_eq}

abbrev pub all_differ : List (List ℕ) → Bool
all_differ [] = true
all_differ (n ∷ ns) = not (list_any (bytes_eq n) ns) && all_differ ns

-- a value is stored last under its key, or given back and nothing changed
abbrev pub IsStored : {K V : Type 0} → List (K × V) → List (K × V) → K → V → Result (Unit {0}) V → Type 0
IsStored old new key value (Ok _) = new ≡ old ++ (key, value) ∷ []
IsStored old new key value (Err back) = (back ≡ value) × (new ≡ old)

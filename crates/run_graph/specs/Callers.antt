-- The modules that run a module.
use Rattle.std.specs.Prelude.{◌≡◌, ℕ, ◌==◌, ◌&&◌, ◌||◌, List}
use Rattle.module_tree.specs.Runs.{is_among}
use Rattle.run_graph.specs.Reach.{callees}

-- for each module, those that run it
abbrev pub AreCallers : List (List ℕ) → List (List ℕ) → Type 0
AreCallers runs callers = (m n : ℕ) → is_among (callees callers n) m ≡ is_among (callees runs m) n

-- the caller is added to those of each called module
abbrev pub AddsCaller : List (List ℕ) → List (List ℕ) → List ℕ → ℕ → Type 0
AddsCaller old new called caller = (m n : ℕ) → is_among (callees new n) m ≡ (is_among (callees old n) m
    || ((caller == m) && is_among called n))

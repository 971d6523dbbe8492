-- Which modules a module reaches by runs, given for each module, by its place, the modules that it runs.
-- (Reachability in a directed graph, as in Tarjan, Depth-first search and linear graph algorithms, 1972.)
use Rattle.std.specs.Prelude.{◌≡◌, ℕ, ◌<◌, true, List, length, slice_get}
use Rattle.module_tree.specs.Runs.{or_none, is_among}

-- the modules that a module runs
abbrev pub callees : List (List ℕ) → ℕ → List ℕ
callees runs m = or_none (slice_get runs m)

-- m runs n
abbrev pub Runs : List (List ℕ) → ℕ → ℕ → Type 0
Runs runs m n = is_among (callees runs m) n ≡ true

-- by any number of runs, none included
pub data Reaches (runs : List (List ℕ)) : ℕ → ℕ → Type 0 where
  itself : (m : ℕ) → Reaches runs m m
  by_run : (m n k : ℕ) → Runs runs m n → Reaches runs n k → Reaches runs m k

-- each module that is run is there
abbrev pub InRange : List (List ℕ) → Type 0
InRange runs = (m n : ℕ) → Runs runs m n → n < length runs

-- The components of the graph of runs: two modules that reach each other have one root. (Strongly connected
-- components, Tarjan, 1972.)
use Rattle.std.specs.Prelude.{◌≡◌, ℕ, ◌⊎◌, ◌↔◌, true, Option, Some, List, [], ◌∷◌, length}
use Rattle.module_tree.specs.Runs.{is_among}
use Rattle.run_graph.specs.Reach.{Runs, Reaches}
use Rattle.run_graph.specs.Flood.{root_of, HasRoot, AreClosed}

-- r is the first in the list of all that v reaches
abbrev pub IsFirstReached : List (List ℕ) → ℕ → ℕ → List ℕ → Type 0
IsFirstReached runs v r [] = ⊥
IsFirstReached runs v r (w ∷ ws) = ((r ≡ w) × Reaches runs v w)
    ⊎ ((Reaches runs v w → ⊥) × IsFirstReached runs v r ws)

-- the root of a module is the first in the order of all that it reaches; roots are given to all that reach
-- one of `done`
pub record IsRooting (runs callers : List (List ℕ)) (order done : List ℕ) (roots : List (Option ℕ)) : Type
    0 where
  pub size : length roots ≡ length runs
  pub first : (m r : ℕ) → root_of roots m ≡ Some r → IsFirstReached runs m r order
  pub closed : AreClosed callers roots
  pub rooted : (m : ℕ) → is_among done m ≡ true → HasRoot roots m

-- a run lies on a cycle exactly where its two modules have one root
abbrev pub ShowCycles : List (List ℕ) → List (Option ℕ) → Type 0
ShowCycles runs roots = (m n : ℕ) → Runs runs m n → (root_of roots m ≡ root_of roots n) ↔ Reaches runs n m

-- no module that is run reaches the one that runs it
abbrev pub HasNoCycle : List (List ℕ) → Type 0
HasNoCycle runs = (m n : ℕ) → Runs runs m n → Reaches runs n m → ⊥

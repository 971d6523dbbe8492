-- Giving a root to all modules that one can be reached from and that have none yet.
use Rattle.std.specs.Prelude.{◌≡◌, ℕ, ◌+◌, ◌⊎◌, true, Option, Some, None, is_some, List, [], ◌∷◌, length}
use Rattle.std.specs.Prelude.{slice_index_or}
use Rattle.module_tree.specs.Runs.{is_among}
use Rattle.run_graph.specs.Reach.{Runs, Reaches}

abbrev pub root_of : List (Option ℕ) → ℕ → Option ℕ
root_of roots m = slice_index_or roots m None

abbrev pub HasRoot : List (Option ℕ) → ℕ → Type 0
HasRoot roots m = is_some (root_of roots m) ≡ true

abbrev pub rootless : List (Option ℕ) → ℕ
rootless [] = 0
rootless (None ∷ rs) = 1 + rootless rs
rootless (Some r ∷ rs) = rootless rs

-- those that lead on from a module with a root have one
abbrev pub AreClosed : List (List ℕ) → List (Option ℕ) → Type 0
AreClosed graph roots = (m n : ℕ) → HasRoot roots m → Runs graph m n → HasRoot roots n

-- the root is given to those of these modules that have none, and they are put on the fringe
pub record Spreads (ms : List ℕ) (root : ℕ) (old new : List (Option ℕ)) (fringe more : List ℕ) : Type 0 where
  pub size : length new ≡ length old
  pub kept : (m r : ℕ) → root_of old m ≡ Some r → root_of new m ≡ Some r
  pub given : (m r : ℕ) → root_of new m ≡ Some r → (root_of old m ≡ Some r)
      ⊎ ((r ≡ root) × (root_of old m ≡ None) × (is_among ms m ≡ true) × (is_among more m ≡ true))
  pub all : (m : ℕ) → is_among ms m ≡ true → HasRoot new m
  pub fringe_kept : (m : ℕ) → is_among fringe m ≡ true → is_among more m ≡ true
  pub fringe_given : (m : ℕ) → is_among more m ≡ true → (is_among fringe m ≡ true) ⊎ (is_among ms m ≡ true)
  pub work : rootless new + length more ≡ rootless old + length fringe

-- the root is given to all modules without one that it reaches
pub record Floods (graph : List (List ℕ)) (root : ℕ) (old new : List (Option ℕ)) : Type 0 where
  pub size : length new ≡ length old
  pub kept : (m r : ℕ) → root_of old m ≡ Some r → root_of new m ≡ Some r
  pub given : (m r : ℕ) → root_of new m ≡ Some r → (root_of old m ≡ Some r)
      ⊎ ((r ≡ root) × (root_of old m ≡ None) × Reaches graph root m)
  pub closed : AreClosed graph new
  pub rooted : HasRoot new root

-- a flood that is under way: what leads on from the fringe is still to be given the root
pub record IsFlooding (graph : List (List ℕ)) (root : ℕ) (old new : List (Option ℕ))
    (fringe : List ℕ) : Type 0 where
  pub size : length new ≡ length old
  pub kept : (m r : ℕ) → root_of old m ≡ Some r → root_of new m ≡ Some r
  pub given : (m r : ℕ) → root_of new m ≡ Some r → (root_of old m ≡ Some r)
      ⊎ ((r ≡ root) × (root_of old m ≡ None) × Reaches graph root m)
  pub reached : (m : ℕ) → is_among fringe m ≡ true → Reaches graph root m
  pub frontier : (m n : ℕ) → HasRoot new m → Runs graph m n → HasRoot new n ⊎ (is_among fringe m ≡ true)
  pub rooted : HasRoot new root

-- What a depth-first search over the runs of modules keeps. (Tarjan, 1972; its order of finishing as in
-- Kosaraju's algorithm: Sharir, A strong-connectivity algorithm, 1981.)
use Rattle.std.specs.Prelude.{◌≡◌, ℕ, ◌<◌, ◌||◌, ◌⊎◌, Bool, true, false, Some, List, [], ◌∷◌, map, length}
use Rattle.std.specs.Prelude.{slice_get, slice_index_or}
use Rattle.run_graph.specs.declared.search.Frame.{Frame}
use Rattle.module_tree.specs.Runs.{is_among}
use Rattle.run_graph.specs.Reach.{callees, Runs, Reaches}

-- The modules of an order in which a search finishes them, the last first. Of the runs of those that are
-- finished, each leads to one that was finished before `w`, or to one that reaches `w`.
abbrev pub IsFinishOrder : List (List ℕ) → List ℕ → Type 0
IsFinishOrder runs [] = Unit {0}
IsFinishOrder runs (w ∷ ws) =
    (is_among ws w ≡ false) × ((m n : ℕ) → is_among (w ∷ ws) m ≡ true → Runs runs m n
    → (is_among ws n ≡ true) ⊎ Reaches runs n w) × IsFinishOrder runs ws

-- the modules that the search is in, the innermost first: each reaches those within it
abbrev pub IsPath : List (List ℕ) → List ℕ → Type 0
IsPath runs [] = Unit {0}
IsPath runs (m ∷ ms) = (is_among ms m ≡ false) × ((n : ℕ) → is_among ms n ≡ true → Reaches runs n m)
    × IsPath runs ms

abbrev pub modules : List Frame → List ℕ
modules = map (λ (f : Frame). f.at)

-- of a module that is entered no run is followed yet
abbrev pub opening : ℕ → Frame
opening m = record { at = m; next = 0 }

-- the modules that the search has come to
abbrev pub met : List ℕ → List ℕ → ℕ → Bool
met finished path m = is_among finished m || is_among path m

-- the runs of each module in the path that are followed lead to modules that pass the test
abbrev pub AreFollowed : (ℕ → Bool) → List (List ℕ) → List Frame → Type 0
AreFollowed test runs [] = Unit {0}
AreFollowed test runs (f ∷ fs) =
    ((k n : ℕ) → k < f.next → slice_get (callees runs f.at) k ≡ Some n → test n ≡ true)
    × AreFollowed test runs fs

-- the state of a search: the modules that it came to, its path, the innermost first, and what is finished,
-- the last first
pub record IsSearch (runs : List (List ℕ)) (seen : List Bool) (path : List Frame)
    (finished : List ℕ) : Type 0 where
  pub size : length seen ≡ length runs
  pub marks : (m : ℕ) → m < length runs → slice_index_or seen m false ≡ met finished (modules path) m
  pub range : (m : ℕ) → met finished (modules path) m ≡ true → m < length runs
  pub path_reaches : IsPath runs (modules path)
  pub apart : (m : ℕ) → is_among (modules path) m ≡ true → is_among finished m ≡ false
  pub followed : AreFollowed (met finished (modules path)) runs path
  pub finished_followed : (m n : ℕ) → is_among finished m ≡ true → Runs runs m n
      → met finished (modules path) n ≡ true
  pub order : IsFinishOrder runs finished

-- a module that the search came to stays one
abbrev pub StaySeen : List Bool → List Bool → Type 0
StaySeen old new = (m : ℕ) → slice_get old m ≡ Some true → slice_get new m ≡ Some true

abbrev pub HasAll : List (List ℕ) → List ℕ → Type 0
HasAll runs ms = (m : ℕ) → m < length runs → is_among ms m ≡ true

abbrev pub AreThere : List (List ℕ) → List ℕ → Type 0
AreThere runs ms = (m : ℕ) → is_among ms m ≡ true → m < length runs

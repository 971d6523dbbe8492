-- How much a search has still to do: one for each run that is not followed, and one for each module that is
-- not finished.
use Rattle.std.specs.Prelude.{ℕ, ◌+◌, ◌-◌, Bool, true, false, List, [], ◌∷◌, length}
use Rattle.std.specs.List.{sum_by}
use Rattle.run_graph.specs.declared.search.Frame.{Frame}
use Rattle.run_graph.specs.Reach.{callees}

-- of the modules that it has not come to
abbrev pub unseen_work : List Bool → List (List ℕ) → ℕ
unseen_work [] runs = 0
unseen_work (b ∷ bs) [] = 0
unseen_work (true ∷ bs) (r ∷ rs) = unseen_work bs rs
unseen_work (false ∷ bs) (r ∷ rs) = (length r + 1) + unseen_work bs rs

abbrev pub frame_work : List (List ℕ) → Frame → ℕ
frame_work runs f = (length (callees runs f.at) - f.next) + 1

abbrev pub work_left : List (List ℕ) → List Bool → List Frame → ℕ
work_left runs seen path = unseen_work seen runs + sum_by (frame_work runs) path

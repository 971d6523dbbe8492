-- What a step of a search leaves to do.
use Rattle.std.proofs.Common.{◌≡◌, ℕ, zero, suc, ◌<◌, ◌+◌, Bool, true, false, Some, List, [], ◌∷◌, ◌++◌}
use Rattle.std.proofs.Common.{length, set, slice_get, arith}
use Rattle.std.proofs.lemmas.List.Sums.{sum_by-append}
use Rattle.run_graph.specs.declared.search.Frame.{Frame}
use Rattle.run_graph.specs.Reach.{callees}
use Rattle.run_graph.specs.Search.{opening}
use Rattle.run_graph.specs.Work.{unseen_work, work_left}

pub unseen_one_less : (seen : List Bool) (runs : List (List ℕ)) (m : ℕ) → length seen ≡ length runs
    → slice_get seen m ≡ Some false
    → unseen_work (set seen m true) runs + (length (callees runs m) + 1) ≡ unseen_work seen runs
unseen_one_less [] runs m l e = cc
unseen_one_less (b ∷ bs) [] m l e = absurd (omega arith)
unseen_one_less (true ∷ bs) (r ∷ rs) zero l e = cc
unseen_one_less (false ∷ bs) (r ∷ rs) zero l e = omega arith
unseen_one_less (true ∷ bs) (r ∷ rs) (suc m) l e = unseen_one_less bs rs m (omega arith) e
unseen_one_less (false ∷ bs) (r ∷ rs) (suc m) l e = let h : unseen_work (set bs m true) rs +
    (length (callees rs m) + 1) ≡ unseen_work bs rs = unseen_one_less bs rs m (omega arith) e in omega arith

pub opened_work : (runs : List (List ℕ)) (seen : List Bool) (path : List Frame) (m : ℕ)
    → length seen ≡ length runs → slice_get seen m ≡ Some false
    → work_left runs (set seen m true) (path ++ opening m ∷ []) ≡ work_left runs seen path
opened_work runs seen path m l e =
    let h : unseen_work (set seen m true) runs + (length (callees runs m) + 1) ≡ unseen_work seen runs =
    unseen_one_less seen runs m l e in
    simp sum_by-append (omega arith)

pub followed_work : (runs : List (List ℕ)) (seen : List Bool) (path : List Frame) (f : Frame)
    → f.next < length (callees runs f.at)
    → work_left runs seen (path ++ record { at = f.at; next = f.next + 1 } ∷ []) < work_left runs seen
    (path ++ f ∷ [])
followed_work runs seen path f l = simp sum_by-append (omega arith)

pub finished_work : (runs : List (List ℕ)) (seen : List Bool) (path : List Frame) (f : Frame)
    → work_left runs seen path < work_left runs seen (path ++ f ∷ [])
finished_work runs seen path f = simp sum_by-append (omega arith)

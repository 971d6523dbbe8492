-- The steps of a search as its code takes them, where the path and what is finished grow at their ends.
use Rattle.std.proofs.Common.{◌≡◌, ℕ, zero, suc, ◌<◌, ◌≤◌, ◌+◌, Bool, true, false, Some, None, List, [], ◌∷◌}
use Rattle.std.proofs.Common.{◌++◌, length, reverse, set, get_or, slice_get, refl, sym, ◌∙◌, ap, subst, arith}
use Rattle.std.proofs.lemmas.List.{reverse-append}
use Rattle.std.proofs.lemmas.Option.{slice_get_within, slice_get_read, get_or_from_slice_get}
use Rattle.run_graph.specs.declared.search.Frame.{Frame}
use Rattle.run_graph.specs.Reach.{callees, InRange}
use Rattle.run_graph.specs.Search.{IsSearch, opening}
use Rattle.run_graph.proofs.SearchSteps.{opened, followed_one, followed_new, finished_one, among_at}

pub stay_set : (seen : List Bool) (m n : ℕ) → slice_get seen n ≡ Some true
    → slice_get (set seen m true) n ≡ Some true
stay_set [] m n e = e
stay_set (b ∷ bs) zero zero e = refl
stay_set (b ∷ bs) zero (suc n) e = e
stay_set (b ∷ bs) (suc m) zero e = e
stay_set (b ∷ bs) (suc m) (suc n) e = stay_set bs m n e

pub set_is_seen : (seen : List Bool) (m : ℕ) → slice_get seen m ≡ Some false
    → slice_get (set seen m true) m ≡ Some true
set_is_seen [] m e = cc
set_is_seen (b ∷ bs) zero e = refl
set_is_seen (b ∷ bs) (suc m) e = set_is_seen bs m e

none_is_past : {A : Type 0} (xs : List A) (k : ℕ) → slice_get xs k ≡ None → length xs ≤ k
none_is_past [] k e = omega arith
none_is_past (x ∷ xs) zero e = absurd (cc)
none_is_past (x ∷ xs) (suc k) e = let h : length xs ≤ k = none_is_past xs k e in omega arith

reverse_push : {A : Type 0} (xs : List A) (x : A) (ys : List A) → ys ≡ xs ++ x ∷ []
    → reverse ys ≡ x ∷ reverse xs
reverse_push xs x ys e = ap reverse e ∙ reverse-append xs (x ∷ [])

pub within : (runs : List (List ℕ)) (m k n : ℕ) → InRange runs → slice_get (callees runs m) k ≡ Some n
    → n < length runs
within runs m k n r e = r m n (among_at (callees runs m) k n e)

pub root_opened : (runs : List (List ℕ)) (seen : List Bool) (finished : List ℕ) (m : ℕ) (new : List Frame)
    → IsSearch runs seen [] finished → slice_get seen m ≡ Some false → new ≡ opening m ∷ []
    → IsSearch runs (set seen m true) (reverse new) finished
root_opened runs seen finished m new s e is =
    let l : m < length seen = slice_get_within seen m false e in
    subst (λ (p : List Frame). IsSearch runs (set seen m true) p finished) (sym (ap reverse is))
    (opened runs seen [] finished m s (subst (λ (k : ℕ). m < k) s.size l)
    (get_or_from_slice_get seen m false false e) (λ n a. absurd (cc)))

pub step_finishes : (runs : List (List ℕ)) (seen : List Bool) (old new : List Frame) (f : Frame)
    (finished more : List ℕ)
    → IsSearch runs seen (reverse old) (reverse finished) → old ≡ new ++ f ∷ []
    → slice_get (callees runs f.at) f.next ≡ None
    → more ≡ finished ++ f.at ∷ [] → IsSearch runs seen (reverse new) (reverse more)
step_finishes runs seen old new f finished more s is none e =
    subst (λ (p : List ℕ). IsSearch runs seen (reverse new) p) (sym (reverse_push finished f.at more e))
    (finished_one runs seen f (reverse new) (reverse finished)
    (subst (λ (p : List Frame). IsSearch runs seen p (reverse finished)) (reverse_push new f old is) s)
    (none_is_past (callees runs f.at) f.next none))

pub step_follows : (runs : List (List ℕ)) (seen : List Bool) (old rest new : List Frame) (f : Frame)
    (finished : List ℕ) (n : ℕ) → InRange runs
    → IsSearch runs seen (reverse old) finished → old ≡ rest ++ f ∷ []
    → slice_get (callees runs f.at) f.next ≡ Some n
    → get_or seen n false ≡ true → new ≡ rest ++ record { at = f.at; next = f.next + 1 } ∷ []
    → IsSearch runs seen (reverse new) finished
step_follows runs seen old rest new f finished n r s is some t e =
    subst (λ (p : List Frame). IsSearch runs seen p finished)
    (sym (reverse_push rest (record { at = f.at; next = f.next + 1 }) new e))
    (followed_one runs seen f (reverse rest) finished n
    (subst (λ (p : List Frame). IsSearch runs seen p finished) (reverse_push rest f old is) s) some t
    (within runs f.at f.next n r some))

pub step_opens : (runs : List (List ℕ)) (seen : List Bool) (old rest between new : List Frame) (f : Frame)
    (finished : List ℕ) (n : ℕ) → InRange runs
    → IsSearch runs seen (reverse old) finished → old ≡ rest ++ f ∷ []
    → slice_get (callees runs f.at) f.next ≡ Some n
    → get_or seen n false ≡ false → between ≡ rest ++ record { at = f.at; next = f.next + 1 } ∷ []
    → new ≡ between ++ opening n ∷ []
    → IsSearch runs (set seen n true) (reverse new) finished
step_opens runs seen old rest between new f finished n r s is some t b e =
    subst (λ (p : List Frame). IsSearch runs (set seen n true) p finished)
    (sym (reverse_push between (opening n) new e ∙ ap (λ (p : List Frame). opening n ∷ p)
    (reverse_push rest (record { at = f.at; next = f.next + 1 }) between b)))
    (followed_new runs seen f (reverse rest) finished n
    (subst (λ (p : List Frame). IsSearch runs seen p finished) (reverse_push rest f old is) s) some t
    (within runs f.at f.next n r some))

-- what is read at a place
pub read_at : (seen : List Bool) (m : ℕ) (x b : Bool) → m < length seen → x ≡ get_or seen m x → x ≡ b
    → slice_get seen m ≡ Some b
read_at seen m x b l e is = slice_get_read seen (length seen) m x refl l e ∙ ap Some is

pub in_range_seen : (runs : List (List ℕ)) (seen : List Bool) (m : ℕ) → length seen ≡ length runs
    → m < length runs → m < length seen
in_range_seen runs seen m e l = omega arith

pub next_within : {A : Type 0} (xs : List A) (k : ℕ) (x : A) → slice_get xs k ≡ Some x → k < length xs
next_within xs k x e = slice_get_within xs k x e

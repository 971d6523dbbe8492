-- Adding callers to modules.
use Rattle.std.proofs.Common.{◌≡◌, ℕ, zero, suc, ◌<◌, ◌+◌, ◌==◌, ◌&&◌, ◌||◌, ◌⊎◌, Bool, true, false, List, []}
use Rattle.std.proofs.Common.{◌∷◌, ◌++◌, length, take, set, get_or, replicate, refl, sym, ◌∙◌, ap, subst, inl}
use Rattle.std.proofs.Common.{inr, arith}
use Rattle.std.specs.Prelude.{nat_lt}
use Rattle.std.proofs.lemmas.Bool.{cases_eq, cases_lt, cases_order, eq-eqb, lt-ltb, le-ltb}
use Rattle.std.proofs.lemmas.List.{take_more}
use Rattle.std.proofs.lemmas.List.Folds.{list_any-append, list_any_at}
use Rattle.std.proofs.lemmas.Option.{slice_get_past, slice_get_read}
use Rattle.module_tree.specs.Runs.{is_among, or_none}
use Rattle.run_graph.specs.Reach.{callees}
use Rattle.run_graph.specs.Callers.{AreCallers, AddsCaller}
use Rattle.run_graph.proofs.Members.{not_eq}

callees_set_same : (rs : List (List ℕ)) (m : ℕ) (ms : List ℕ) → m < length rs → callees (set rs m ms) m ≡ ms
callees_set_same [] m ms l = absurd (omega arith)
callees_set_same (r ∷ rs) zero ms l = refl
callees_set_same (r ∷ rs) (suc m) ms l = callees_set_same rs m ms (omega arith)

callees_set_other : (rs : List (List ℕ)) (m n : ℕ) (ms : List ℕ) → (n ≡ m → ⊥)
    → callees (set rs m ms) n ≡ callees rs n
callees_set_other [] m n ms d = refl
callees_set_other (r ∷ rs) zero zero ms d = absurd (d refl)
callees_set_other (r ∷ rs) zero (suc n) ms d = refl
callees_set_other (r ∷ rs) (suc m) zero ms d = refl
callees_set_other (r ∷ rs) (suc m) (suc n) ms d = callees_set_other rs m n ms (λ e. d (ap suc e))

pub among_push : (xs : List ℕ) (y m : ℕ) → is_among (xs ++ y ∷ []) m ≡ (is_among xs m || (y == m))
among_push xs y m = list_any-append (λ (n : ℕ). n == m) xs (y ∷ [])
    ∙ ap (λ b. is_among xs m || b) (or_no (y == m))
  where
    or_no : (b : Bool) → (b || false) ≡ b
    or_no true = refl
    or_no false = refl

one_added : (rs : List (List ℕ)) (callee caller : ℕ) → callee < length rs → (m n : ℕ)
    → is_among (callees (set rs callee (callees rs callee ++ caller ∷ [])) n)
    m ≡ (is_among (callees rs n) m || ((caller == m) && (callee == n)))
one_added rs callee caller l m n = elim (cases_eq n callee) [
  | inl is ↦ subst (λ (k : ℕ). is_among (callees (set rs callee (callees rs callee ++ caller ∷ [])) k)
      m ≡ (is_among (callees rs k) m || ((caller == m) && (callee == k)))) (sym is)
      (ap (λ ms. is_among ms m) (callees_set_same rs callee (callees rs callee ++ caller ∷ []) l)
      ∙ among_push (callees rs callee) caller m ∙ ap (λ b. is_among (callees rs callee) m || b)
      (and_true (caller == m) (callee == callee) (eq-eqb callee callee refl)))
  | inr not ↦ ap (λ ms. is_among ms m) (callees_set_other rs callee n (callees rs callee ++ caller ∷ [])
      not) ∙ or_false (is_among (callees rs n) m) ((caller == m) && (callee == n))
      (and_false (caller == m) (callee == n) (not_eq n callee not))
]
  where
    and_true : (a b : Bool) → b ≡ true → a ≡ (a && b)
    and_true true b e = sym e
    and_true false b e = refl

    and_false : (a b : Bool) → b ≡ false → (a && b) ≡ false
    and_false true b e = e
    and_false false b e = refl

    or_false : (a b : Bool) → b ≡ false → a ≡ (a || b)
    or_false true b e = refl
    or_false false b e = sym e

pub added_more : (old new : List (List ℕ)) (called : List ℕ) (callee caller : ℕ)
    → AddsCaller old new called caller → callee < length new
    → AddsCaller old (set new callee (callees new callee ++ caller ∷ [])) (called ++ callee ∷ []) caller
added_more old new called callee caller a l m n =
    one_added new callee caller l m n ∙ ap (λ b. b || ((caller == m) && (callee == n))) (a m n)
    ∙ regroup (is_among (callees old n) m) (caller == m) (is_among called n) (callee == n)
    ∙ ap (λ b. is_among (callees old n) m || ((caller == m) && b)) (sym (among_push called callee n))
  where
    regroup : (a b c d : Bool) → ((a || (b && c)) || (b && d)) ≡ (a || (b && (c || d)))
    regroup true b c d = refl
    regroup false true true d = refl
    regroup false true false d = refl
    regroup false false c d = refl

pub added_none : (old : List (List ℕ)) (caller : ℕ) → AddsCaller old old [] caller
added_none old caller m n = none (is_among (callees old n) m) (caller == m)
  where
    none : (a b : Bool) → a ≡ (a || (b && false))
    none true b = refl
    none false true = refl
    none false false = refl

pub callees_none : (k n m : ℕ) → is_among (callees (replicate k []) n) m ≡ false
callees_none zero n m = refl
callees_none (suc k) zero m = refl
callees_none (suc k) (suc n) m = callees_none k n m

pub callers_more : (runs old new : List (List ℕ)) (k : ℕ)
    → ((m n : ℕ) → is_among (callees old n) m ≡ (nat_lt m k && is_among (callees runs m) n))
    → AddsCaller old new (callees runs k) k
    → (m n : ℕ) → is_among (callees new n) m ≡ (nat_lt m (k + 1) && is_among (callees runs m) n)
callers_more runs old new k before a m n = a m n ∙ ap (λ b. b || ((k == m) && is_among (callees runs k) n))
    (before m n) ∙ elim (cases_order m k) [
      | inl is ↦ here is
      | inr apart ↦ elim apart [ inl below ↦ earlier below | inr above ↦ later above ]
    ]
  where
    by : (lt eq more a b : Bool) → ((lt ≡ true) × (eq ≡ false) × (more ≡ true))
        ⊎ ((lt ≡ false) × (eq ≡ false) × (more ≡ false)) → ((lt && a) || (eq && b)) ≡ (more && a)
    by true false true true b h = refl
    by true false true false b h = refl
    by false false false a b h = refl
    by true true more a b (inl h) = cc
    by true true more a b (inr h) = cc
    by true false false a b (inl h) = cc
    by true false false a b (inr h) = cc
    by false true more a b (inl h) = cc
    by false true more a b (inr h) = cc
    by false false true a b (inl h) = cc
    by false false true a b (inr h) = cc

    earlier : m < k → ((nat_lt m k && is_among (callees runs m) n)
        || ((k == m) && is_among (callees runs k) n)) ≡ (nat_lt m (k + 1) && is_among (callees runs m) n)
    earlier l = by (nat_lt m k) (k == m) (nat_lt m (k + 1)) (is_among (callees runs m) n)
        (is_among (callees runs k) n) (inl (
          lt-ltb m k l,
          not_eq m k (λ e. absurd (omega arith)),
          lt-ltb m (k + 1) (omega arith),
        ))

    later : k < m → ((nat_lt m k && is_among (callees runs m) n)
        || ((k == m) && is_among (callees runs k) n)) ≡ (nat_lt m (k + 1) && is_among (callees runs m) n)
    later l = by (nat_lt m k) (k == m) (nat_lt m (k + 1)) (is_among (callees runs m) n)
        (is_among (callees runs k) n) (inr (
          le-ltb m k (omega arith),
          not_eq m k (λ e. absurd (omega arith)),
          le-ltb m (k + 1) (omega arith),
        ))

    at : (lt eq more : Bool) (a b : Bool) → lt ≡ false → eq ≡ true → more ≡ true → a ≡ b
        → ((lt && a) || (eq && b)) ≡ (more && a)
    at false true true a b e f g h = sym h
    at true eq more a b e f g h = cc
    at false false more a b e f g h = cc
    at false true false a b e f g h = cc

    here : m ≡ k → ((nat_lt m k && is_among (callees runs m) n)
        || ((k == m) && is_among (callees runs k) n)) ≡ (nat_lt m (k + 1) && is_among (callees runs m) n)
    here is = at (nat_lt m k) (k == m) (nat_lt m (k + 1)) (is_among (callees runs m) n)
        (is_among (callees runs k) n) (le-ltb m k (omega arith)) (eq-eqb k m (sym is))
        (lt-ltb m (k + 1) (omega arith)) (ap (λ j. is_among (callees runs j) n) is)

pub all_callers : (runs callers : List (List ℕ)) → ((m n : ℕ)
    → is_among (callees callers n) m ≡ (nat_lt m (length runs) && is_among (callees runs m) n))
    → AreCallers runs callers
all_callers runs callers a m n = a m n ∙ elim (cases_lt m (length runs)) [
  | inl below ↦ ap (λ b. b && is_among (callees runs m) n) (lt-ltb m (length runs) below)
  | inr past ↦ ap (λ b. b && is_among (callees runs m) n) (le-ltb m (length runs) past)
      ∙ sym (ap (λ o. is_among (or_none o) n) (slice_get_past runs m past))
]

pub among_index : (xs : List ℕ) (i : ℕ) → i < length xs → is_among xs (get_or xs i 0) ≡ true
among_index xs i l = list_any_at (λ (n : ℕ). n == get_or xs i 0) xs i 0 l
    (eq-eqb (get_or xs i 0) (get_or xs i 0) refl)

pub added_step : (old new next : List (List ℕ)) (called : List ℕ) (i caller : ℕ)
    → AddsCaller old new (take i called) caller → i < length called
    → get_or called i 0 < length new → next ≡ set new (get_or called i 0) (callees new (get_or called i 0)
    ++ caller ∷ [])
    → AddsCaller old next (take (i + 1) called) caller
added_step old new next called i caller a l within is =
    subst (λ (rs : List (List ℕ)). AddsCaller old rs (take (i + 1) called) caller) (sym is)
    (subst (λ (cs : List ℕ). AddsCaller old (set new (get_or called i 0) (callees new (get_or called i 0)
    ++ caller ∷ [])) cs caller) (sym (take_more called i 0 l))
    (added_more old new (take i called) (get_or called i 0) caller a within))

pub callees_read : (runs : List (List ℕ)) (k : ℕ) (ms : List ℕ) → k < length runs → ms ≡ get_or runs k ms
    → callees runs k ≡ ms
callees_read runs k ms l e = ap or_none (slice_get_read runs (length runs) k ms refl l e)

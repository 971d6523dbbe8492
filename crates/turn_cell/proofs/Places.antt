-- Lists that begin with others, places that rise, and sums.
use Rattle.std.proofs.Common.{◌≡◌, ℕ, zero, suc, ◌+◌, ◌<◌, ◌≤◌, ◌≢◌, ◌⊎◌, List, [], ◌∷◌, ◌++◌, length, set, cond, Bool, true, false, sym}
use Rattle.std.proofs.Common.{refl, ap, ◌∙◌, subst, inl, inr, ⊎_elim, arith, append_assoc, append-nil, length-append}
use mathlib.Core.Option.{some, some-injective, some-ne-none}
use mathlib.Core.Logic.{dite}
use mathlib.Core.List.{head-eq_of_cons-eq, tail-eq_of_cons-eq}
use native.Mathlib.Decide.{ℕ_discrete}
use lib.Dec.{T, ltb, ltb→lt, lt→ltb}
use lib.ListN.{get_elem?}
use Rattle.atomic_table.proofs.Lists.{at_set, at_snoc}
use Rattle.turn_cell.specs.Lists.{Begins, RisesTo, Among, total}
use Rattle.turn_cell.specs.Views.{gained}

module _ {A : Type 0} where
  pub begins_itself : (xs : List A) → Begins xs xs
  begins_itself xs = ([], sym (append-nil xs))

  pub begins_trans : (xs ys zs : List A) → Begins xs ys → Begins ys zs → Begins xs zs
  begins_trans xs ys zs a b = (a.0 ++ b.0, b.1 ∙ (ap (λ (l : List A). l ++ b.0) a.1 ∙ append_assoc xs a.0 b.0))

  pub begins_length : (xs ys : List A) → Begins xs ys → length xs ≤ length ys
  begins_length xs ys a = let e : length ys ≡ length xs + length a.0 = ap length a.1 ∙ length-append xs a.0 in omega arith

  pub total_set : (f : A → ℕ) (vs : List A) (i : ℕ) (v w : A) → get_elem? vs i ≡ some v → total f (set vs i w) + f v ≡ total f vs + f w
  total_set f [] i v w e = absurd (some-ne-none v (sym e))
  total_set f (x ∷ xs) zero v w e = let h : f x ≡ f v = ap f (some-injective x v e) in omega arith
  total_set f (x ∷ xs) (suc i) v w e = let h = total_set f xs i v w e in omega arith

  pub total_snoc : (f : A → ℕ) (vs : List A) (w : A) → total f (vs ++ w ∷ []) ≡ total f vs + f w
  total_snoc f [] w = omega arith
  total_snoc f (x ∷ xs) w = let h = total_snoc f xs w in omega arith

  pub total_at : (f : A → ℕ) (vs : List A) (i : ℕ) (v : A) → get_elem? vs i ≡ some v → f v ≤ total f vs
  total_at f [] i v e = absurd (some-ne-none v (sym e))
  total_at f (x ∷ xs) zero v e = let h : f x ≡ f v = ap f (some-injective x v e) in omega arith
  total_at f (x ∷ xs) (suc i) v e = let h = total_at f xs i v e in omega arith

  pub total_two : (f : A → ℕ) (vs : List A) (i j : ℕ) (v w : A) → i ≢ j → get_elem? vs i ≡ some v → get_elem? vs j ≡ some w
      → f v + f w ≤ total f vs
  total_two f [] i j v w n e d = absurd (some-ne-none v (sym e))
  total_two f (x ∷ xs) zero zero v w n e d = absurd (n refl)
  total_two f (x ∷ xs) zero (suc j) v w n e d =
      let h : f x ≡ f v = ap f (some-injective x v e) in let k = total_at f xs j w d in omega arith
  total_two f (x ∷ xs) (suc i) zero v w n e d =
      let h : f x ≡ f w = ap f (some-injective x w d) in let k = total_at f xs i v e in omega arith
  total_two f (x ∷ xs) (suc i) (suc j) v w n e d = let h = total_two f xs i j v w (λ q. n (ap suc q)) e d in omega arith

  pub each_set : (P : A → Type 0) (vs : List A) (id : ℕ) (w : A) → P w → ((j : ℕ) (u : A) → j ≢ id → get_elem? vs j ≡ some u → P u)
      → (j : ℕ) (u : A) → get_elem? (set vs id w) j ≡ some u → P u
  each_set P vs id w mine others j u e =
      ⊎_elim (λ (t : (j ≡ id) × (w ≡ u)). subst P t.1 mine) (λ (t : (j ≢ id) × (get_elem? vs j ≡ some u)). others j u t.0 t.1)
      (at_set vs id j w u e)

  pub each_snoc : (P : A → Type 0) (vs : List A) (w : A) → P w → ((j : ℕ) (u : A) → get_elem? vs j ≡ some u → P u)
      → (j : ℕ) (u : A) → get_elem? (vs ++ w ∷ []) j ≡ some u → P u
  each_snoc P vs w mine others j u e = ⊎_elim (others j u) (λ (t : w ≡ u). subst P t mine) (at_snoc vs w u j e)

pub rises_wide : (low : ℕ) (ps : List ℕ) (n m : ℕ) → RisesTo low ps n → n ≤ m → RisesTo low ps m
rises_wide low [] n m r l = omega arith
rises_wide low (p ∷ ps) n m r l = (r.0, rises_wide (suc p) ps n m r.1 l)

pub rises_low : (low : ℕ) (ps : List ℕ) (n : ℕ) → RisesTo low ps n → low ≤ n
rises_low low [] n r = r
rises_low low (p ∷ ps) n r = let a = r.0 in let b = rises_low (suc p) ps n r.1 in omega arith

pub rises_snoc : (low : ℕ) (ps : List ℕ) (n : ℕ) → RisesTo low ps n → RisesTo low (ps ++ n ∷ []) (n + 1)
rises_snoc low [] n r = (r, omega arith)
rises_snoc low (p ∷ ps) n r = (r.0, rises_snoc (suc p) ps n r.1)

pub rises_below : (low : ℕ) (ps : List ℕ) (n p : ℕ) → RisesTo low ps n → Among p ps → p < n
rises_below low [] n p r a = absurd a
rises_below low (q ∷ qs) n p r a =
    let b = rises_low (suc q) qs n r.1 in ⊎_elim (λ (e : p ≡ q). omega arith) (λ t. rises_below (suc q) qs n p r.1 t) a

pub among_snoc : (ps : List ℕ) (n p : ℕ) → Among p (ps ++ n ∷ []) → Among p ps ⊎ (p ≡ n)
among_snoc [] n p a = ⊎_elim inr (λ x. absurd x) a
among_snoc (q ∷ qs) n p a = ⊎_elim (λ e. inl (inl e)) (λ t. ⊎_elim (λ h. inl (inr h)) inr (among_snoc qs n p t)) a

tested : (m n : ℕ) (b : Bool) → ltb m n ≡ b → n ≤ m → ltb m n ≡ false
tested m n true e l = let h = ltb→lt m n (subst T (sym e) tt) in absurd (omega arith)
tested m n false e l = e

pub ltb_no : (m n : ℕ) → n ≤ m → ltb m n ≡ false
ltb_no m n l = tested m n (ltb m n) refl l

tested_yes : (m n : ℕ) (b : Bool) → ltb m n ≡ b → m < n → ltb m n ≡ true
tested_yes m n true e l = e
tested_yes m n false e l = absurd (subst T e (lt→ltb m n l))

pub ltb_yes : (m n : ℕ) → m < n → ltb m n ≡ true
ltb_yes m n l = tested_yes m n (ltb m n) refl l

few_places : (n : ℕ) (b : Bool) → length (cond b (n ∷ []) []) ≤ 1
few_places n true = omega arith
few_places n false = omega arith

module _ {A : Type 0} where
  pub total_some : (f : A → ℕ) (vs : List A) → 0 < total f vs → (i : ℕ) × (v : A) × (get_elem? vs i ≡ some v) × (0 < f v)
  total_some f [] l = absurd (omega arith)
  total_some f (x ∷ xs) l = dite (ℕ_discrete (f x) 0)
      (λ z. let h = total_some f xs (omega arith) in (suc h.0, h.1, h.2, h.3))
      (λ n. (0, x, refl, omega arith))

  pub gained_none : (l : List A) → gained l l ≡ []
  gained_none l = ap (λ b. cond b (length l ∷ []) []) (ltb_no (length l) (length l) (omega arith))

  pub gained_one : (l : List A) (e : A) → gained l (l ++ e ∷ []) ≡ length l ∷ []
  gained_one l e =
      let n : length (l ++ e ∷ []) ≡ length l + 1 = length-append l (e ∷ []) in
      ap (λ b. cond b (length l ∷ []) []) (ltb_yes (length l) (length (l ++ e ∷ [])) (omega arith))

  pub gained_most : (l d : List A) → length (gained l d) ≤ 1
  gained_most l d = few_places (length l) (ltb (length l) (length d))

  -- of two beginnings of one list the shorter begins the longer
  pub common : (a b r q : List A) → a ++ r ≡ b ++ q → length a ≤ length b → Begins a b
  common [] b r q e l = (b, refl)
  common (x ∷ a) [] r q e l = absurd (omega arith)
  common (x ∷ a) (y ∷ b) r q e l = let h = common a b r q (tail-eq_of_cons-eq e) (omega arith) in
      let p : y ≡ x = sym (head-eq_of_cons-eq e) in (h.0, λ i. p i ∷ h.1 i)

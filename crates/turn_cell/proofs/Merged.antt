-- Two rising lists of places made one, and the longer of two lists.
use Rattle.std.proofs.Common.{◌≡◌, ℕ, suc, ◌+◌, ◌<◌, ◌≤◌, ◌⊎◌, List, [], ◌∷◌, length, cond, not, Bool, true, false, sym, refl, subst, inl}
use Rattle.std.proofs.Common.{inr, ⊎_elim, arith}
use lib.Dec.{T, ltb, ltb→lt, nltb→le}
use mathlib.Core.Logic.{dite}
use native.Mathlib.Decide.{ℕ_discrete, dec_lt}
use Rattle.turn_cell.specs.Lists.{Begins, RisesTo, Among, insert, merge, longer}
use Rattle.turn_cell.proofs.Places.{rises_low}

length_cond : {A : Type 0} (b : Bool) (xs ys : List A) (n : ℕ) → length xs ≡ n → length ys ≡ n → length (cond b xs ys) ≡ n
length_cond true xs ys n e f = e
length_cond false xs ys n e f = f

length_insert : (p : ℕ) (qs : List ℕ) → length (insert p qs) ≡ length qs + 1
length_insert p [] = refl
length_insert p (q ∷ qs) =
    let h = length_insert p qs in length_cond (ltb p q) (p ∷ q ∷ qs) (q ∷ insert p qs) (length (q ∷ qs) + 1) (omega arith) (omega arith)

pub length_merge : (ps qs : List ℕ) → length (merge ps qs) ≡ length ps + length qs
length_merge [] qs = omega arith
length_merge (p ∷ ps) qs = let a = length_insert p (merge ps qs) in let b = length_merge ps qs in omega arith

among_cond : (a : ℕ) (b : Bool) (xs ys : List ℕ) (G : Type 0) → (Among a xs → G) → (Among a ys → G) → Among a (cond b xs ys) → G
among_cond a true xs ys G f g h = f h
among_cond a false xs ys G f g h = g h

cond_among : (a : ℕ) (b : Bool) (p q : ℕ) (qs : List ℕ) → (a ≡ p) ⊎ Among a (q ∷ qs)
    → ((a ≡ p) ⊎ Among a qs → Among a (insert p qs)) → Among a (cond b (p ∷ q ∷ qs) (q ∷ insert p qs))
cond_among a true p q qs h f = h
cond_among a false p q qs h f = ⊎_elim (λ e. inr (f (inl e))) (λ k. ⊎_elim inl (λ z. inr (f (inr z))) k) h

among_insert : (a p : ℕ) (qs : List ℕ) → Among a (insert p qs) → (a ≡ p) ⊎ Among a qs
among_insert a p [] h = ⊎_elim inl (λ x. absurd x) h
among_insert a p (q ∷ qs) h = among_cond a (ltb p q) (p ∷ q ∷ qs) (q ∷ insert p qs) ((a ≡ p) ⊎ Among a (q ∷ qs))
    (λ k. k)
    (λ k. ⊎_elim (λ (e : a ≡ q). inr (inl e)) (λ t. ⊎_elim inl (λ z. inr (inr z)) (among_insert a p qs t)) k)
    h

pub among_merge : (a : ℕ) (ps qs : List ℕ) → Among a (merge ps qs) → Among a ps ⊎ Among a qs
among_merge a [] qs h = inr h
among_merge a (p ∷ ps) qs h =
    ⊎_elim (λ (e : a ≡ p). inl (inl e)) (λ t. ⊎_elim (λ k. inl (inr k)) inr (among_merge a ps qs t)) (among_insert a p (merge ps qs) h)

insert_among : (a p : ℕ) (qs : List ℕ) → (a ≡ p) ⊎ Among a qs → Among a (insert p qs)
insert_among a p [] h = ⊎_elim inl (λ x. absurd x) h
insert_among a p (q ∷ qs) h = cond_among a (ltb p q) p q qs h (λ k. insert_among a p qs k)

pub merge_among : (a : ℕ) (ps qs : List ℕ) → Among a ps ⊎ Among a qs → Among a (merge ps qs)
merge_among a [] qs h = ⊎_elim (λ x. absurd x) (λ k. k) h
merge_among a (p ∷ ps) qs h = insert_among a p (merge ps qs)
    (⊎_elim (λ k. ⊎_elim inl (λ z. inr (merge_among a ps qs (inl z))) k) (λ k. inr (merge_among a ps qs (inr k))) h)

rises_under : (low deep : ℕ) (ps : List ℕ) (n : ℕ) → deep ≤ low → RisesTo low ps n → RisesTo deep ps n
rises_under low deep [] n l r = omega arith
rises_under low deep (p ∷ ps) n l r = let a = r.0 in (omega arith, r.1)

insert_at : (low p q : ℕ) (qs : List ℕ) (n : ℕ) (b : Bool) → ltb p q ≡ b → RisesTo low (q ∷ qs) n → low ≤ p → p < n → ¬ (Among p (q ∷ qs))
    → RisesTo (suc q) (insert p qs) n ⊎ (p < q) → RisesTo low (cond b (p ∷ q ∷ qs) (q ∷ insert p qs)) n
insert_at low p q qs n true e r l m away rec = let h = ltb→lt p q (subst T (sym e) tt) in (l, (omega arith, r.1))
insert_at low p q qs n false e r l m away rec =
    ⊎_elim (λ h. (r.0, h)) (λ (h : p < q). let k = nltb→le p q (subst (λ z. T (not z)) (sym e) tt) in absurd (omega arith)) rec

insert_rises : (low p : ℕ) (qs : List ℕ) (n : ℕ) → RisesTo low qs n → low ≤ p → p < n → ¬ (Among p qs) → RisesTo low (insert p qs) n
insert_rises low p [] n r l m away = (l, omega arith)
insert_rises low p (q ∷ qs) n r l m away = insert_at low p q qs n (ltb p q) refl r l m away
    (dite (dec_lt p q) inr (λ le. inl (insert_rises (suc q) p qs n r.1
    (dite (ℕ_discrete p q) (λ e. absurd (away (inl e))) (λ ne. omega arith)) m (λ k. away (inr k)))))

rises_above : (low : ℕ) (ps : List ℕ) (n p : ℕ) → RisesTo low ps n → Among p ps → low ≤ p
rises_above low [] n p r h = absurd h
rises_above low (q ∷ qs) n p r h =
    let a = r.0 in ⊎_elim (λ (e : p ≡ q). omega arith) (λ k. let b = rises_above (suc q) qs n p r.1 k in omega arith) h

pub rises_most : (low : ℕ) (ps : List ℕ) (n : ℕ) → RisesTo low ps n → length ps + low ≤ n
rises_most low [] n r = omega arith
rises_most low (p ∷ ps) n r = let a = r.0 in let b = rises_most (suc p) ps n r.1 in omega arith

pub merge_rises : (low : ℕ) (ps qs : List ℕ) (n : ℕ) → RisesTo low ps n → RisesTo low qs n → ((p : ℕ) → Among p ps → ¬ (Among p qs))
    → RisesTo low (merge ps qs) n
merge_rises low [] qs n r s apart = s
merge_rises low (p ∷ ps) qs n r s apart =
    let a = r.0 in let under = rises_low (suc p) ps n r.1 in
    let rest = merge_rises low ps qs n (rises_under (suc p) low ps n (omega arith) r.1) s (λ x k. apart x (inr k)) in
    insert_rises low p (merge ps qs) n rest a (omega arith)
    (λ k. ⊎_elim (λ h. let z : suc p ≤ p = rises_above (suc p) ps n p r.1 h in omega arith)
    (λ h. apart p (inl refl) h) (among_merge p ps qs k))

-- where there are as many places as there are numbers from low to top, each is there
pub rises_all : (low : ℕ) (ps : List ℕ) (top : ℕ) → RisesTo low ps top → length ps + low ≡ top → (p : ℕ) → low ≤ p → p < top → Among p ps
rises_all low [] top r e p l m = absurd (omega arith)
rises_all low (q ∷ qs) top r e p l m = let a = r.0 in let b = rises_most (suc q) qs top r.1 in
    dite (ℕ_discrete p q) inl (λ n. inr (rises_all (suc q) qs top r.1 (omega arith) p (omega arith) m))

module _ {A : Type 0} where
  long_at : (xs ys : List A) (b : Bool) → ltb (length xs) (length ys) ≡ b
      → (length xs ≤ length (cond b ys xs)) × (length ys ≤ length (cond b ys xs))
  long_at xs ys true e = let h = ltb→lt (length xs) (length ys) (subst T (sym e) tt) in (omega arith, omega arith)
  long_at xs ys false e = let h = nltb→le (length xs) (length ys) (subst (λ z. T (not z)) (sym e) tt) in (omega arith, h)

  pub longer_long : (xs ys : List A) → (length xs ≤ length (longer xs ys)) × (length ys ≤ length (longer xs ys))
  longer_long xs ys = long_at xs ys (ltb (length xs) (length ys)) refl

  begins_cond : (xs ys zs : List A) (b : Bool) → Begins xs zs → Begins ys zs → Begins (cond b ys xs) zs
  begins_cond xs ys zs true a c = c
  begins_cond xs ys zs false a c = a

  pub longer_begins : (xs ys zs : List A) → Begins xs zs → Begins ys zs → Begins (longer xs ys) zs
  longer_begins xs ys zs a c = begins_cond xs ys zs (ltb (length xs) (length ys)) a c

-- The first of faults and of doubled signals is that of least place.
use Rattle.std.proofs.Common.{◌≡◌, refl, sym, ap, ◌∙◌, ℕ, ◌+◌, ◌*◌, ◌<◌, Bool, true, false, cond}
use Rattle.std.proofs.Common.{◌&&◌, ◌||◌, ◌==◌, Option, Some, None, List, [], ◌∷◌, map, arith, eqb-true}
use Rattle.std.specs.Prelude.{nat_lt, min, fold}
use Rattle.std.specs.List.{AllByRecursion}
use Rattle.std.proofs.lemmas.Bool.{ltb-true, ltb-false, eqb-false}
use Rattle.hh_base.specs.declared.value.Pos.{Pos}
use Rattle.hh_base.specs.declared.value.FaultKind.{FaultKind}
use Rattle.hh_base.specs.declared.value.FaultKind.TheVariants.{Divide, Overflow, TextLong}
use Rattle.hh_term.specs.MustCan.{Table}
use Rattle.hh_term.specs.Reaction.{fault_rank, is_earlier, earlier, first_declared}
use Rattle.last_walk.specs.LastWalk.{least, fault_place, place_of_fault, signal_place, place_of_signal}

small : (k : FaultKind) → fault_rank k < 3
small Divide = omega arith
small Overflow = omega arith
small TextLong = omega arith

rank_tells : (k l : FaultKind) → fault_rank k ≡ fault_rank l → k ≡ l
rank_tells Divide Divide e = refl
rank_tells Divide Overflow e = absurd (omega (arith, e))
rank_tells Divide TextLong e = absurd (omega (arith, e))
rank_tells Overflow Divide e = absurd (omega (arith, e))
rank_tells Overflow Overflow e = refl
rank_tells Overflow TextLong e = absurd (omega (arith, e))
rank_tells TextLong Divide e = absurd (omega (arith, e))
rank_tells TextLong Overflow e = absurd (omega (arith, e))
rank_tells TextLong TextLong e = refl

same_place : (m n r q : ℕ) → r < 3 → q < 3 → m * 3 + r ≡ n * 3 + q → m ≡ n
same_place m n r q h g e = omega (arith, h, g, e)

pub place_tells : (f g : Pos × FaultKind) → fault_place f ≡ fault_place g → f ≡ g
place_tells f g e =
    let at : f.0.0 ≡ g.0.0 =
    same_place f.0.0 g.0.0 (fault_rank f.1) (fault_rank g.1) (small f.1) (small g.1) e in
    let kind : f.1 ≡ g.1 = rank_tells f.1 g.1 (omega (arith, e, at)) in
    λ i. (record { 0 = at i }, kind i)

-- ---- of two

least_of : (m n r q : ℕ) → r < 3 → q < 3 → (b c d : Bool) → nat_lt n m ≡ b → (n == m) ≡ c → nat_lt q r ≡ d →
    cond (b || c && d) (n * 3 + q) (m * 3 + r) ≡ min (m * 3 + r) (n * 3 + q)
least_of m n r q h g true c d e f k =
    let lt = ltb-true n m e in
    omega (arith, h, g, lt)
least_of m n r q h g false true true e f k =
    let same = eqb-true n m f in
    let lt = ltb-true q r k in
    omega (arith, same, lt)
least_of m n r q h g false true false e f k =
    let same = eqb-true n m f in
    let le = ltb-false q r k in
    omega (arith, same, le)
least_of m n r q h g false false d e f k =
    let le = ltb-false n m e in
    let other = eqb-false n m f in
    omega (arith, h, g, le, other)

earlier_place : (f g : Pos × FaultKind) → fault_place (earlier f g) ≡ min (fault_place f) (fault_place g)
earlier_place f g =
    choice (is_earlier g f)
    ∙ least_of f.0.0 g.0.0 (fault_rank f.1) (fault_rank g.1) (small f.1) (small g.1) (nat_lt g.0.0 f.0.0)
    (g.0.0 == f.0.0) (nat_lt (fault_rank g.1) (fault_rank f.1)) refl refl refl
  where
    choice : (b : Bool) → fault_place (cond b g f) ≡ cond b (fault_place g) (fault_place f)
    choice true = refl
    choice false = refl

least_declared : (T : Table) (s t : ℕ) → signal_place T (first_declared T s t) ≡ min (signal_place T s) (signal_place T t)
least_declared T s t = at_test (nat_lt (signal_place T t) (signal_place T s)) refl
  where
    at_test : (b : Bool) → nat_lt (signal_place T t) (signal_place T s) ≡ b → signal_place T (cond b t s)
        ≡ min (signal_place T s) (signal_place T t)
    at_test true e = let lt = ltb-true (signal_place T t) (signal_place T s) e in omega (arith, lt)
    at_test false e = let le = ltb-false (signal_place T t) (signal_place T s) e in omega (arith, le)

-- ---- of all

fold_place : {A : Type 0} (place : A → ℕ) (first : A → A → A) → ((x y : A) → place (first x y) ≡ min (place x) (place y))
    → (x : A) (xs : List A) → least (Some (place x)) (map place xs) ≡ Some (place (fold first x xs))
fold_place place first h x [] = refl
fold_place place first h x (y ∷ ys) =
    ap (λ n. least (Some n) (map place ys)) (sym (h x y)) ∙ fold_place place first h (first x y) ys

no_place : (f : Pos × FaultKind) → Some (fault_place f) ≡ None → ⊥
no_place f e = cc

inside : (m n : ℕ) → Some m ≡ Some n → m ≡ n
inside m n e = cc

pub first_fault : (o : Option (Pos × FaultKind)) (f : Pos × FaultKind) (fs : List (Pos × FaultKind)) →
    place_of_fault o ≡ least None (map fault_place (f ∷ fs)) → o ≡ Some (fold earlier f fs)
first_fault None f fs e = absurd (none_some (e ∙ fold_place fault_place earlier earlier_place f fs))
  where
    none_some : {n : ℕ} → None ≡ Some n → ⊥
    none_some q = cc
first_fault (Some g) f fs e =
    ap Some (place_tells g (fold earlier f fs)
    (inside (fault_place g) (fault_place (fold earlier f fs))
    (e ∙ fold_place fault_place earlier earlier_place f fs)))

pub no_fault : (o : Option (Pos × FaultKind)) → place_of_fault o ≡ None → o ≡ None
no_fault None e = refl
no_fault (Some f) e = absurd (no_place f e)

pub no_signal : (T : Table) (o : Option ℕ) → place_of_signal T o ≡ None → o ≡ None
no_signal T None e = refl
no_signal T (Some s) e = cc

pub first_signal : (T : Table) (o : Option ℕ) (s : ℕ) (ss : List ℕ) →
    place_of_signal T o ≡ least None (map (signal_place T) (s ∷ ss)) →
    (t : ℕ) × (o ≡ Some t) × (signal_place T t ≡ signal_place T (fold (first_declared T) s ss))
first_signal T None s ss e = absurd (none_some (e ∙ fold_place (signal_place T) (first_declared T) (least_declared T) s ss))
  where
    none_some : {n : ℕ} → None ≡ Some n → ⊥
    none_some q = cc
first_signal T (Some t) s ss e = (
  t,
  refl,
  inside (signal_place T t) (signal_place T (fold (first_declared T) s ss))
      (e ∙ fold_place (signal_place T) (first_declared T) (least_declared T) s ss),
)

-- what holds of all of them holds of the first
pub first_of : (T : Table) (P : ℕ → Type 0) (s : ℕ) (ss : List ℕ) → P s → AllByRecursion P ss → P
    (fold (first_declared T) s ss)
first_of T P s [] p h = p
first_of T P s (t ∷ ts) p h = first_of T P (first_declared T s t) ts (choice (nat_lt (signal_place T t) (signal_place T s))) h.1
  where
    choice : (b : Bool) → P (cond b t s)
    choice true = h.0
    choice false = p

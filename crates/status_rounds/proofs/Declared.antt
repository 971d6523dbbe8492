-- What a program keeps gives what rounds over it need: each local is declared once, and the table has a place
-- for it at each level.
use Rattle.std.proofs.Common.{◌≡◌, refl, sym, subst, ℕ, zero, suc, ◌+◌, ◌<◌, ◌≤◌, List, [], ◌∷◌, ◌++◌}
use Rattle.std.proofs.Common.{◌⊎◌, inl, inr, ⊎_elim, arith}
use Rattle.std.proofs.Common.{◌-◌, length}
use Rattle.std.specs.List.{range_with_len}
use Rattle.std.proofs.Math.Logic.{∥∥₁_elim}
use Rattle.std.proofs.Math.Bridge.{le_prop}
use Rattle.std.proofs.Math.Nat.{ℕ_set}
use mathlib.Core.List.{is_set}
use Rattle.hh_term.specs.IsProgram.{IsProgram}
use Rattle.hh_term.specs.Kernel.{Kernel}
use Rattle.hh_term.specs.Statement.{Statement, If, Suspend, Seq, Par, Loop, Trap}
use Rattle.hh_term.specs.Statement.{Local}
use Rattle.hh_term.specs.Scopes.{locals_of}
use Rattle.hh_term.specs.Sizes.{height_of}
use Rattle.status_table.specs.Moving.{Has, Apart, Unique}
use Rattle.status_table.specs.Walking.{Fits}
use Rattle.status_rounds.specs.Loops.{loops_round}

-- ---- lists in which no number stands twice

abbrev pub Member : ℕ → List ℕ → Type 0
Member s [] = ⊥
Member s (x ∷ xs) = (s ≡ x) ⊎ Member s xs

abbrev pub Distinct : List ℕ → Type 0
Distinct [] = Unit {0}
Distinct (x ∷ xs) = (Member x xs → ⊥) × Distinct xs

in_left : (s : ℕ) (xs ys : List ℕ) → Member s xs → Member s (xs ++ ys)
in_left s [] ys h = absurd h
in_left s (x ∷ xs) ys (inl e) = inl e
in_left s (x ∷ xs) ys (inr h) = inr (in_left s xs ys h)

in_right : (s : ℕ) (xs ys : List ℕ) → Member s ys → Member s (xs ++ ys)
in_right s [] ys h = h
in_right s (x ∷ xs) ys h = inr (in_right s xs ys h)

record Parts (xs ys : List ℕ) : Type 0 where
  pub first : Distinct xs
  pub second : Distinct ys
  pub apart : (s : ℕ) → Member s xs → Member s ys → ⊥

distinct_parts : (xs ys : List ℕ) → Distinct (xs ++ ys) → Parts xs ys
distinct_parts [] ys h = record { first = tt; second = h; apart = λ s a b. absurd a }
distinct_parts (x ∷ xs) ys h =
    let r = distinct_parts xs ys h.1 in
    record {
      first = (λ m. h.0 (in_left x xs ys m), r.first);
      second = r.second;
      apart = λ s a b. ⊎_elim (λ e. h.0 (in_right x xs ys (subst (λ z. Member z ys) e b)))
          (λ m. r.apart s m b) a;
    }

in_range : (s a n : ℕ) → Member s (range_with_len a n) → (a ≤ s) × (s < a + n)
in_range s a zero h = absurd h
in_range s a (suc n) (inl e) = (omega (arith, e), omega (arith, e))
in_range s a (suc n) (inr h) = let r = in_range s (a + 1) n h in (omega (arith, r.0), omega (arith, r.1))

range_distinct : (a n : ℕ) → Distinct (range_with_len a n)
range_distinct a zero = tt
range_distinct a (suc n) =
    (λ m. let r = (in_range a (a + 1) n m).0 in absurd (omega (arith, r)), range_distinct (a + 1) n)

-- ---- the locals of a statement

pub has_member : (p : Statement) (s : ℕ) → Has p s → Member s (locals_of p)
has_member (If e p q) s (inl h) = in_left s (locals_of p) (locals_of q) (has_member p s h)
has_member (If e p q) s (inr h) = in_right s (locals_of p) (locals_of q) (has_member q s h)
has_member (Suspend e p) s h = has_member p s h
has_member (Seq p q) s (inl h) = in_left s (locals_of p) (locals_of q) (has_member p s h)
has_member (Seq p q) s (inr h) = in_right s (locals_of p) (locals_of q) (has_member q s h)
has_member (Par p q) s (inl h) = in_left s (locals_of p) (locals_of q) (has_member p s h)
has_member (Par p q) s (inr h) = in_right s (locals_of p) (locals_of q) (has_member q s h)
has_member (Loop p) s h = has_member p s h
has_member (Trap p) s h = has_member p s h
has_member (Local u p) s (inl e) = inl e
has_member (Local u p) s (inr h) = inr (has_member p s h)
has_member _ s h = absurd h

apart_parts : (p q : Statement) → Parts (locals_of p) (locals_of q) → Apart p q
apart_parts p q r s a b = r.apart s (has_member p s a) (has_member q s b)

pub unique_locals : (p : Statement) → Distinct (locals_of p) → Unique p
unique_locals (If e p q) h =
    let r = distinct_parts (locals_of p) (locals_of q) h in
    (unique_locals p r.first, unique_locals q r.second, apart_parts p q r)
unique_locals (Suspend e p) h = unique_locals p h
unique_locals (Seq p q) h =
    let r = distinct_parts (locals_of p) (locals_of q) h in
    (unique_locals p r.first, unique_locals q r.second, apart_parts p q r)
unique_locals (Par p q) h =
    let r = distinct_parts (locals_of p) (locals_of q) h in
    (unique_locals p r.first, unique_locals q r.second, apart_parts p q r)
unique_locals (Loop p) h = unique_locals p h
unique_locals (Trap p) h = unique_locals p h
unique_locals (Local u p) h = (λ m. h.0 (has_member p u m), unique_locals p h.1)
unique_locals _ h = tt

-- ---- the places of a table

record Below (S : ℕ) (p : Statement) : Type 0 where
  pub at : (s : ℕ) → Has p s → s < S

pub fits_table : (S N d : ℕ) (p : Statement) → ((s : ℕ) → Has p s → s < S) → d + loops_round p < N → Fits S N
    d
    p
fits_table S N d (If e p q) h le = (
  fits_table S N d p (λ s a. h s (inl a)) (omega arith),
  fits_table S N d q (λ s a. h s (inr a))
      (omega arith),
)
fits_table S N d (Suspend e p) h le = fits_table S N d p h le
fits_table S N d (Seq p q) h le = (
  fits_table S N d p (λ s a. h s (inl a)) (omega arith),
  fits_table S N d q (λ s a. h s (inr a))
      (omega arith),
)
fits_table S N d (Par p q) h le = (
  fits_table S N d p (λ s a. h s (inl a)) (omega arith),
  fits_table S N d q (λ s a. h s (inr a))
      (omega arith),
)
fits_table S N d (Loop p) h le = (omega arith, fits_table S N (suc d) p h (omega arith))
fits_table S N d (Trap p) h le = fits_table S N d p h le
fits_table S N d (Local u p) h le = (h u (inl refl), fits_table S N d p (λ s a. h s (inr a)) le)
fits_table S N d _ h le = tt

pub loops_height : (p : Statement) → loops_round p ≤ height_of p
loops_height (If e p q) = let a = loops_height p in let b = loops_height q in omega (arith, a, b)
loops_height (Suspend e p) = let a = loops_height p in omega (arith, a)
loops_height (Seq p q) = let a = loops_height p in let b = loops_height q in omega (arith, a, b)
loops_height (Par p q) = let a = loops_height p in let b = loops_height q in omega (arith, a, b)
loops_height (Loop p) = let a = loops_height p in omega (arith, a)
loops_height (Trap p) = let a = loops_height p in omega (arith, a)
loops_height (Local u p) = let a = loops_height p in omega (arith, a)
loops_height _ = omega arith

-- the locals of a program are numbered from its interface on
pub unique_program : (p : Statement) (a n : ℕ) → locals_of p ≡ range_with_len a n → Unique p
unique_program p a n e = unique_locals p (subst Distinct (sym e) (range_distinct a n))

pub fits_program : (p : Statement) (a n S N : ℕ) → locals_of p ≡ range_with_len a n → a + n ≤ S → loops_round
    p
    < N → Fits S N 0 p
fits_program p a n S N e le lt = fits_table S N 0 p
    (λ s h. let m = (in_range s a n (subst (Member s) e (has_member p s h))).1 in omega (arith, m, le))
    (omega (arith, lt))

-- ---- what the rules of a program give

order_prop : (xs ys : List ℕ) → IsProp (xs ≡ ys)
order_prop xs ys = is_set ℕ_set xs ys

rules_order : (K : Kernel) → ∥ IsProgram K ∥₁ → locals_of K.statement ≡ range_with_len K.interface
    (length K.signals - K.interface)
rules_order K rules = ∥∥₁_elim rules
    (order_prop (locals_of K.statement) (range_with_len K.interface (length K.signals - K.interface)))
    (λ r. r.locals_in_order)

pub rules_declared : (K : Kernel) → ∥ IsProgram K ∥₁ → K.interface ≤ length K.signals
rules_declared K rules = ∥∥₁_elim rules le_prop (λ r. r.interface_declared)

pub rules_height : (K : Kernel) → ∥ IsProgram K ∥₁ → height_of K.statement ≤ 1024
rules_height K rules = ∥∥₁_elim rules le_prop (λ r. r.within_limits.height)

pub rules_unique : (K : Kernel) → ∥ IsProgram K ∥₁ → Unique K.statement
rules_unique K rules = unique_program K.statement K.interface (length K.signals - K.interface)
    (rules_order K rules)

pub rules_fit : (K : Kernel) → ∥ IsProgram K ∥₁ → Fits (length K.signals) (loops_round K.statement + 1) 0
    K.statement
rules_fit K rules =
    let d = rules_declared K rules in
    fits_program K.statement K.interface (length K.signals - K.interface) (length K.signals)
    (loops_round K.statement + 1) (rules_order K rules) (omega (arith, d)) (omega arith)

-- How many numbers below a bound pass a test.
use Rattle.std.proofs.Common.{◌≡◌, ℕ, zero, suc, ◌<◌, ◌≤◌, Bool, true, false, cond, ◌⊎◌, inl, inr, refl, ap}
use Rattle.std.proofs.Common.{subst, arith}

pub below : (ℕ → Bool) → ℕ → ℕ
below p zero = 0
below p (suc n) = cond (p n) (suc (below p n)) (below p n)

most_step : (a : Bool) (x n : ℕ) → x ≤ n → cond a (suc x) x ≤ suc n
most_step true x n le = omega arith
most_step false x n le = omega arith

pub below_most : (p : ℕ → Bool) (n : ℕ) → below p n ≤ n
unfolding below
below_most p zero = omega arith
below_most p (suc n) = most_step (p n) (below p n) n (below_most p n)

more_step : (a b : Bool) (x y : ℕ) → (a ≡ true → b ≡ true) → x ≤ y → cond a (suc x) x ≤ cond b (suc y) y
more_step true true x y f le = omega arith
more_step true false x y f le = absurd (let no : false ≡ true = f refl in let bad : ⊥ = cc in bad)
more_step false true x y f le = omega arith
more_step false false x y f le = le

pub below_more : (p q : ℕ → Bool) → ((m : ℕ) → p m ≡ true → q m ≡ true) → (n : ℕ) → below p n ≤ below q n
unfolding below
below_more p q f zero = omega arith
below_more p q f (suc n) = more_step (p n) (q n) (below p n) (below q n) (f n) (below_more p q f n)

strict_step : (a b : Bool) (x y : ℕ) → (a ≡ true → b ≡ true) → suc x ≤ y
    → suc (cond a (suc x) x) ≤ cond b (suc y) y
strict_step true true x y f le = omega arith
strict_step true false x y f le = absurd (let no : false ≡ true = f refl in let bad : ⊥ = cc in bad)
strict_step false true x y f le = omega arith
strict_step false false x y f le = le

at_step : (a b : Bool) (x y : ℕ) → a ≡ false → b ≡ true → x ≤ y → suc (cond a (suc x) x) ≤ cond b (suc y) y
at_step false true x y p q le = omega arith
at_step true b x y p q le = absurd (let bad : ⊥ = cc in bad)
at_step false false x y p q le = absurd (let bad : ⊥ = cc in bad)

last_or_before : (m n : ℕ) → m < suc n → (m ≡ n) ⊎ (m < n)
last_or_before zero zero lt = inl refl
last_or_before zero (suc n) lt = inr (omega arith)
last_or_before (suc m) zero lt = let no : ⊥ = omega arith in absurd no
last_or_before (suc m) (suc n) lt = elim (last_or_before m n (omega arith)) [
  | inl e ↦ inl (ap suc e)
  | inr less ↦ inr (omega arith)
]

-- one more where one more passes
pub below_strict : (p q : ℕ → Bool) → ((m : ℕ) → p m ≡ true → q m ≡ true) → (m : ℕ) → p m ≡ false
    → q m ≡ true → (n : ℕ) → m < n → suc (below p n) ≤ below q n
unfolding below
below_strict p q f m out inside zero lt = let no : ⊥ = omega arith in absurd no
below_strict p q f m out inside (suc n) lt =
    elim (last_or_before m n lt) [
      | inl e ↦ at_step (p n) (q n) (below p n) (below q n) (subst (λ z. p z ≡ false) e out)
          (subst (λ z. q z ≡ true) e inside) (below_more p q f n)
      | inr before ↦ strict_step (p n) (q n) (below p n) (below q n) (f n)
          (below_strict p q f m out inside n before)
    ]

-- The two levels at which leaves and operators are counted: inside an expression by marks, around
-- expressions by ranks.
use Rattle.std.proofs.Common.{◌≡◌, ℕ, zero, suc, ◌+◌, ◌<◌, ◌≤◌, List, [], ◌∷◌, ◌++◌, length, refl, ap, ◌∙◌}
use Rattle.std.proofs.Common.{arith}
use Rattle.std.specs.List.{AllByRecursion}
use Rattle.grammar.specs.Tokens.{Alphabet}
use Rattle.grammar.specs.Language.{ranks}
use Rattle.grammar.specs.Texts.{Few}
use Rattle.grammar.proofs.Bundle.{Level}

-- how many are marked
abbrev pub marked : List ℕ → ℕ
marked [] = 0
marked (zero ∷ ms) = marked ms
marked (suc m ∷ ms) = suc (marked ms)

pub marked-append : (p q : List ℕ) → marked (p ++ q) ≡ marked p + marked q
marked-append [] q = omega arith
marked-append (zero ∷ p) q = marked-append p q
marked-append (suc m ∷ p) q = omega (arith, marked-append p q)

module _ {X : Type 0} (P : X → Type 0) where
  pub all-append : (p q : List X) → AllByRecursion P p → AllByRecursion P q → AllByRecursion P (p ++ q)
  all-append [] q h g = g
  all-append (x ∷ p) q h g = (h.0, all-append p q h.1 g)

  pub all_left : (p q : List X) → AllByRecursion P (p ++ q) → AllByRecursion P p
  all_left [] q h = tt
  all_left (x ∷ p) q h = (h.0, all_left p q h.1)

  pub all_right : (p q : List X) → AllByRecursion P (p ++ q) → AllByRecursion P q
  all_right [] q h = h
  all_right (x ∷ p) q h = all_right p q h.1

module _ {K : Type 0} (al : Alphabet K) where
  -- inside an expression
  unfoldable pub inner_level : Level
  inner_level = record {
    after = λ c ms d. (d ≡ c + marked ms) × (c ≤ al.most_counted → d ≤ al.most_counted);
    over = λ c ms. al.most_counted < c + marked ms;
    full = λ c x. (x ≡ 1) × (al.most_counted ≤ c);
    after_nil = λ c. (omega arith, λ le. le);
    after_zero = λ c. (omega arith, λ le. le);
    after_seq = λ c d e p q y z. (omega (arith, y.0, z.0, marked-append p q), λ le. z.1 (y.1 le));
    over_left = λ c p q y. omega (arith, y, marked-append p q);
    over_right = λ c d p q y z. omega (arith, y.0, z, marked-append p q);
  }

  -- around expressions
  unfoldable pub outer_level : Level
  outer_level = record {
    after = λ c ks d. Few al ks;
    over = λ c ks. Few al ks → ⊥;
    full = λ c k. k ≡ suc al.most_counted;
    after_nil = λ c. tt;
    after_zero = λ c. (omega arith, tt);
    after_seq = λ c d e p q y z. all-append (λ k. k ≤ al.most_counted) p q y z;
    over_left = λ c p q y h. y (all_left (λ k. k ≤ al.most_counted) p q h);
    over_right = λ c d p q y z h. z (all_right (λ k. k ≤ al.most_counted) p q h);
  }

  -- ---- the ranks of marked tokens

  pub few_ranks : (c : ℕ) (ms : List ℕ) → c + marked ms ≤ al.most_counted → Few al (ranks c ms)
  few_ranks c [] le = tt
  few_ranks c (zero ∷ ms) le = (omega arith, few_ranks c ms le)
  few_ranks c (suc m ∷ ms) le = (omega (arith, le), few_ranks (suc c) ms (omega (arith, le)))

  pub many_ranks : (c : ℕ) (ms : List ℕ) → c ≤ al.most_counted → al.most_counted < c + marked ms
      → Few al (ranks c ms) → ⊥
  many_ranks c [] le lt h = let no : ⊥ = omega (arith, le, lt) in no
  many_ranks c (zero ∷ ms) le lt h = many_ranks c ms le lt h.1
  many_ranks c (suc m ∷ ms) le lt h = many_ranks (suc c) ms h.0 (omega (arith, lt)) h.1

pub ranks-append : (c : ℕ) (p q : List ℕ) → ranks c (p ++ q) ≡ ranks c p ++ ranks (c + marked p) q
ranks-append c [] q = ap (λ n. ranks n q) (let e : c ≡ c + 0 = omega arith in e)
ranks-append c (zero ∷ p) q = ap (λ l. 0 ∷ l) (ranks-append c p q)
ranks-append c (suc m ∷ p) q = ap (λ l. suc c ∷ l) (ranks-append (suc c) p q
    ∙ ap (λ n. ranks (suc c) p ++ ranks n q) (let e : suc c + marked p ≡ c + suc (marked p) =
    omega arith in e))

pub length-ranks : (c : ℕ) (ms : List ℕ) → length (ranks c ms) ≡ length ms
length-ranks c [] = refl
length-ranks c (zero ∷ ms) = ap (λ n. suc n) (length-ranks c ms)
length-ranks c (suc m ∷ ms) = ap (λ n. suc n) (length-ranks (suc c) ms)

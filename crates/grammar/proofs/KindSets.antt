-- Sets of kinds: a test of all kinds, one after the other, says what holds of any kind.
use Rattle.std.proofs.Common.{◌≡◌, ℕ, zero, suc, Bool, true, false, List, [], ◌∷◌, Option, Some, None, refl}
use Rattle.std.proofs.Common.{sym, ap, ◌∙◌}
use Rattle.std.specs.Prelude.{not, ◌||◌, ◌&&◌, unwrap_or}
use Rattle.std.proofs.lemmas.Bool.{eqb-true, eq-eqb}
use Rattle.grammar.specs.Tokens.{Alphabet, nth, is, passes}

abbrev all_of : {K : Type 0} → (K → Bool) → List K → Bool
all_of h [] = true
all_of h (x ∷ xs) = h x && all_of h xs

-- the test holds at each kind
abbrev pub every : {K : Type 0} → Alphabet K → (K → Bool) → Bool
every al h = all_of h al.kinds

-- each kind of the first set is of the second; none is
abbrev pub subset : {K : Type 0} → Alphabet K → (K → Bool) → (K → Bool) → Bool
subset al a b = every al (λ k. not (a k) || b k)

abbrev pub disjoint : {K : Type 0} → Alphabet K → (K → Bool) → (K → Bool) → Bool
disjoint al a b = every al (λ k. not (a k) || not (b k))

pub both : (a b : Bool) → (a && b) ≡ true → (a ≡ true) × (b ≡ true)
both true b e = (refl, e)
both false b e = absurd cc

pub implies_of : (a b : Bool) → (not a || b) ≡ true → a ≡ true → b ≡ true
implies_of true b e h = e
implies_of false b e h = absurd (let no : ⊥ = cc in no)

pub or_left : (a b : Bool) → a ≡ true → (a || b) ≡ true
or_left true b e = refl
or_left false b e = absurd cc

pub or_right : (a b : Bool) → b ≡ true → (a || b) ≡ true
or_right true b e = refl
or_right false b e = e

apart_of : (a b : Bool) → (not a || not b) ≡ true → a ≡ true → b ≡ false
apart_of true true e h = absurd cc
apart_of true false e h = refl
apart_of false b e h = absurd cc

within_of : (a b : Bool) → (not a || b) ≡ true → b ≡ false → a ≡ false
within_of true true e h = absurd cc
within_of true false e h = absurd cc
within_of false b e h = refl

pub not_true : (b : Bool) → not b ≡ true → b ≡ false
not_true true e = absurd (let no : ⊥ = cc in no)
not_true false e = refl

all_holds : {K : Type 0} (h : K → Bool) → ((k : K) → h k ≡ true) → (ks : List K) → all_of h ks ≡ true
all_holds h e [] = refl
all_holds h e (x ∷ xs) = rw (e x) (all_holds h e xs)

module _ {K : Type 0} (al : Alphabet K) where
  -- a test that holds at any kind holds at each
  pub every_by : (h : K → Bool) → ((k : K) → h k ≡ true) → every al h ≡ true
  every_by h e = all_holds h e al.kinds

  pick : (h : K → Bool) (ks : List K) (n : ℕ) (a : K) → nth ks n ≡ Some a → all_of h ks ≡ true → h a ≡ true
  pick h [] n a e d = absurd (let no : ⊥ = cc in no)
  pick h (x ∷ xs) zero a e d = sym (ap (passes h) e) ∙ (both (h x) (all_of h xs) d).0
  pick h (x ∷ xs) (suc n) a e d = pick h xs n a e (both (h x) (all_of h xs) d).1

  pub at_each : (h : K → Bool) → every al h ≡ true → (a : K) → h a ≡ true
  at_each h e a = pick h al.kinds (al.class a) a (al.is_listed a) e

  pub implied : (a b : K → Bool) → subset al a b ≡ true → (k : K) → a k ≡ true → b k ≡ true
  implied a b e k h = implies_of (a k) (b k) (at_each (λ k. not (a k) || b k) e k) h

  pub within : (a b : K → Bool) → subset al a b ≡ true → (k : K) → b k ≡ false → a k ≡ false
  within a b e k h = within_of (a k) (b k) (at_each (λ k. not (a k) || b k) e k) h

  pub apart : (a b : K → Bool) → disjoint al a b ≡ true → (k : K) → a k ≡ true → b k ≡ false
  apart a b e k h = apart_of (a k) (b k) (at_each (λ k. not (a k) || not (b k)) e k) h

  -- the same of the next token, which may be the end
  pub within_next : (a b : K → Bool) → ((k : K) → b k ≡ false → a k ≡ false) → (o : Option K)
      → passes b o ≡ false → passes a o ≡ false
  within_next a b h None e = refl
  within_next a b h (Some k) e = h k e

  kind_from : K → Option K → K
  kind_from a o = unwrap_or o a

  -- kinds are told apart by their numbers
  pub is_kind : (a b : K) → is al a b ≡ true → b ≡ a
  unfolding kind_from
  is_kind a b e = ap (kind_from b) (sym (al.is_listed b)
      ∙ ap (nth al.kinds) (eqb-true (al.class b) (al.class a) e) ∙ al.is_listed a)

  pub is_self : (a : K) → is al a a ≡ true
  is_self a = eq-eqb (al.class a) (al.class a) refl

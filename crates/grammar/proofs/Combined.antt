-- Steps that many rules take: a part of which something is made, and a part with more of them behind it.
use Rattle.std.proofs.Common.{◌≡◌, ℕ, Bool, true, false, List, refl}
use Rattle.std.specs.Prelude.{not, ◌||◌, ◌&&◌}
use Rattle.grammar.specs.Tokens.{Alphabet, never}
use Rattle.grammar.specs.Language as l
use Rattle.grammar.specs.Language.{Lang}
use Rattle.grammar.specs.Parser.{Parser, ◌>>=◌, pure, many}
use Rattle.grammar.proofs.KindSets.{every, every_by, or_right}
use Rattle.grammar.proofs.Bundle.{Level, Good}
use Rattle.grammar.proofs.Sequences.{good_seq, good_then, good_pure, fit, or_then}
use Rattle.grammar.proofs.Choices.{good_list, repeats}

joined : {a b : Bool} → a ≡ true → b ≡ true → (a && b) ≡ true
joined e h = rw (e, h) refl

or_not : (b : Bool) → (not b || b) ≡ true
or_not true = refl
or_not false = refl

module _ {K : Type 0} (al : Alphabet K) where
  -- anything may stand behind the first
  pub fit_any : (empty : Bool) (f2 c2 : K → Bool) → fit al empty f2 never c2 ≡ true
  fit_any empty f2 c2 = joined (every_by al (λ k. not (f2 k) || true)
      (λ k. or_right (not (f2 k)) true refl)) (or_right (not empty) (every al (λ k. true))
      (every_by al (λ k. true) (λ k. refl)))

  -- the second is empty
  pub fit_same : (c : K → Bool) → fit al true never c c ≡ true
  fit_same c = joined (every_by al (λ k. true) (λ k. refl))
      (every_by al (λ k. not (c k) || c k) (λ k. or_not (c k)))

-- what is made of a part
pub good_made : {K A B : Type 0} {al : Alphabet K} {x : ℕ} {v : Level} {n m : ℕ} {p : Parser K A}
    {s : Lang K A} {first cont : K → Bool} (f : A → B) → Good al x v n m p s false first cont
    → Good al x v n m (p >>= λ a. pure (f a)) (l.◌>>=◌ s (λ a. l.pure (f a))) false first cont
good_made {al = al} {cont = cont} f g = good_then g (λ a. good_pure (f a) cont) (fit_same al cont)

-- one, and any number of others behind it
pub good_several : {K A B C : Type 0} {al : Alphabet K} {x : ℕ} {v : Level} {n : ℕ} {p : Parser K A}
    {s : Lang K A} {q : Parser K B} {t : Lang K B} {first c1 f2 c2 : K → Bool} (f : A → List B → C)
    (starts cont : K → Bool)
    → Good al x v n n p s false first c1 → Good al x v n n q t false f2 c2
    → repeats al starts f2 c2 cont ≡ true → fit al true (or_then true f2 never) c1 cont ≡ true
    → Good al x v n n (p >>= λ a. many starts q >>= λ bs. pure (f a bs))
    (l.◌>>=◌ s (λ a. l.◌>>=◌ (l.many t) (λ bs. l.pure (f a bs)))) false first cont
good_several {al = al} f starts cont g h e1 e2 = good_then g
    (λ a. good_seq (good_list starts cont h e1) (λ bs. good_pure (f a bs) cont) (fit_same al cont)) e2

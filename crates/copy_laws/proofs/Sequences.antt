-- How a sequence's steps and the wrappings of marks go together.
use Rattle.std.proofs.Common.{◌≡◌, Bool, true, false, cond, eqb, Option, Some, None, refl, sym, ap, ◌∙◌}
use Rattle.hh_term.specs.Selection.{Selection}
use Rattle.hh_term.specs.Step.{Stepped, ◌>>=◌, mark_map, wrapped, wrap, joined, then_start}

composed : (f g : Selection → Selection) (o : Option Selection) → mark_map f (mark_map g o)
    ≡ mark_map (λ m. f (g m)) o
composed f g None = refl
composed f g (Some m) = refl

wrapped_twice : (f g : Selection → Selection) (a : Stepped) → wrapped f (wrapped g a)
    ≡ wrapped (λ m. f (g m)) a
wrapped_twice f g a = ap (λ o. record a { next = o }) (composed f g a.next)

pub wrap_twice : (f g : Selection → Selection) (x : Option Stepped)
    → wrap f (wrap g x) ≡ wrap (λ m. f (g m)) x
wrap_twice f g None = refl
wrap_twice f g (Some a) = ap Some (wrapped_twice f g a)

pub wrap_then : (h f g : Selection → Selection) (P Q : Option Stepped)
    → wrap h (then_start f g P Q) ≡ then_start (λ m. h (f m)) (λ m. h (g m)) P Q
wrap_then h f g None Q = refl
wrap_then h f g (Some a) Q = at_test (eqb a.code 0) Q
  where
    at_test : (t : Bool) (Q : Option Stepped)
        → wrap h (cond t (Q >>= (λ x. Some (joined a (wrapped g x)))) (Some (wrapped f a)))
        ≡ cond t (Q >>= (λ x. Some (joined a (wrapped (λ m. h (g m)) x)))) (Some (wrapped (λ m. h (f m)) a))
    at_test true None = refl
    at_test true (Some x) =
        ap (λ o. Some (record (joined a (wrapped g x)) { next = o })) (composed h g x.next)
    at_test false Q = ap Some (wrapped_twice h f a)

pub then_of_wrapped : (f g h : Selection → Selection) (P Q : Option Stepped)
    → then_start f g (wrap h P) Q ≡ then_start (λ m. f (h m)) g P Q
then_of_wrapped f g h None Q = refl
then_of_wrapped f g h (Some a) Q =
    ap (λ y. cond (eqb a.code 0) (Q >>= (λ x. Some (joined a (wrapped g x)))) (Some y)) (wrapped_twice f h a)

pub then_to_wrapped : (f g h : Selection → Selection) (P Q : Option Stepped)
    → then_start f g P (wrap h Q) ≡ then_start f (λ m. g (h m)) P Q
then_to_wrapped f g h None Q = refl
then_to_wrapped f g h (Some a) None = refl
then_to_wrapped f g h (Some a) (Some b) =
    ap (λ y. cond (eqb a.code 0) (Some (joined a y)) (Some (wrapped f a))) (wrapped_twice g h b)

-- what does not end is not followed

pub not_followed : (f g : Selection → Selection) (P Q : Option Stepped)
    → ((b : Stepped) → P ≡ Some b → eqb b.code 0 ≡ false)
    → then_start f g P Q ≡ wrap f P
not_followed f g None Q h = refl
not_followed f g (Some a) Q h =
    ap (λ t. cond t (Q >>= (λ x. Some (joined a (wrapped g x)))) (Some (wrapped f a))) (h a refl)

some_inv : {A : Type 0} (a b : A) → Some a ≡ Some b → a ≡ b
some_inv a b h = cc

-- a sequence whose second part does not end does not end
pub then_no_end : (f g : Selection → Selection) (P Q : Option Stepped)
    → ((c : Stepped) → Q ≡ Some c → eqb c.code 0 ≡ false)
    → (b : Stepped) → then_start f g P Q ≡ Some b → eqb b.code 0 ≡ false
then_no_end f g None Q h b e = absurd (let no : ⊥ = cc in no)
then_no_end f g (Some a) Q h b e = at_test (eqb a.code 0) refl Q h e
  where
    at_test : (t : Bool) → eqb a.code 0 ≡ t → (Q : Option Stepped)
        → ((c : Stepped) → Q ≡ Some c → eqb c.code 0 ≡ false)
        → cond t (Q >>= (λ x. Some (joined a (wrapped g x)))) (Some (wrapped f a)) ≡ Some b
        → eqb b.code 0 ≡ false
    at_test true t None h e = absurd (let no : ⊥ = cc in no)
    at_test true t (Some x) h e =
        ap (λ (y : Stepped). eqb y.code 0) (sym (some_inv (joined a (wrapped g x)) b e)) ∙ h x refl
    at_test false t Q h e = ap (λ (x : Stepped). eqb x.code 0) (sym (some_inv (wrapped f a) b e)) ∙ t

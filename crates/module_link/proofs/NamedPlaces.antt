-- What is found by its name is what stands at the first place of the name.
use Rattle.std.proofs.Common.{◌≡◌, ℕ, ◌+◌, Bool, true, false, cond, List, [], ◌∷◌, map, Option, Some, None}
use Rattle.std.proofs.Common.{option_map, refl, sym, ap, ◌∙◌, arith, Bor}
use Rattle.std.specs.Prelude.{slice_get}
use Rattle.std.specs.Option.{option_copied}
use Rattle.std.specs.List.{find}
use Rattle.std.specs.Str.{bytes_eq}
use Rattle.link_faults.specs.Named.{Name, place_from, place_of}
use Rattle.module_link.proofs.Distinct.{place_found}
use Rattle.module_link.proofs.Lists.{get_of_map}

abbrev pub standing : {A : Type 0} → List A → Option ℕ → Option A
standing xs None = None
standing xs (Some k) = slice_get xs k

not_placed : {A : Type 0} (f : A → Name) (n : ℕ) (xs : List A) (name : Name)
    → find (λ a. bytes_eq (f a) name) xs ≡ None → place_from n (map f xs) name ≡ None
not_placed f n [] name e = refl
not_placed f n (y ∷ ys) name e = by (not_placed f (n + 1) ys name) (bytes_eq (f y) name) e
  where
    by : (find (λ a. bytes_eq (f a) name) ys ≡ None → place_from (n + 1) (map f ys) name ≡ None) → (b : Bool)
        → cond b (Some y) (find (λ a. bytes_eq (f a) name) ys) ≡ None
        → cond b (Some n) (place_from (n + 1) (map f ys) name) ≡ None
    by others false e = others e
    by others true e = absurd (wrong e)
      where
        wrong : Some y ≡ None → ⊥
        wrong e = cc

pub find_standing : {A : Type 0} (f : A → Name) (xs : List A) (name : Name)
    → find (λ a. bytes_eq (f a) name) xs ≡ standing xs (place_of (map f xs) name)
find_standing {A} f xs name = by (find (λ a. bytes_eq (f a) name) xs) refl
  where
    by : (o : Option A) → find (λ a. bytes_eq (f a) name) xs ≡ o
        → find (λ a. bytes_eq (f a) name) xs ≡ standing xs (place_of (map f xs) name)
    by None e = e ∙ ap (standing xs) (sym (not_placed f 0 xs name e))
    by (Some x) e =
        let q = place_found f 0 xs name x e in
        let same : q.index ≡ 0 + q.index = omega arith in
        e ∙ sym q.stands ∙ ap (slice_get xs) same ∙ ap (standing xs) (sym q.place_is)

copied_is : {A : Type 0} (o : Option (Bor A)) → option_copied o ≡ option_map (λ (b : Bor A). b.now) o
copied_is None = refl
copied_is (Some b) = refl

-- through references to the elements
pub copied_standing : {A : Type 0} (refs : List (Bor A)) (xs : List A) (k : ℕ) (r : Option (Bor A))
    → map (λ (b : Bor A). b.now) refs ≡ xs → r ≡ slice_get refs k → option_copied r ≡ slice_get xs k
copied_standing {A} refs xs k r same e =
    copied_is r ∙ ap (option_map (λ (b : Bor A). b.now)) e
    ∙ sym (get_of_map (λ (b : Bor A). b.now) refs k) ∙ ap (λ ys. slice_get ys k) same

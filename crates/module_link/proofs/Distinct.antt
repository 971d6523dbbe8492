-- Lists in which no name stands twice: each element is the first of its name.
use Rattle.std.proofs.Common.{◌≡◌, ℕ, suc, ◌+◌, Bool, true, false, cond, List, [], ◌∷◌, map}
use Rattle.std.proofs.Common.{Option, Some, None, refl, ap, ◌∙◌, arith}
use Rattle.std.specs.Prelude.{not, slice_get}
use Rattle.std.specs.List.{AllByRecursion, find, list_any}
use Rattle.std.specs.Str.{bytes_eq}
use Rattle.std.proofs.lemmas.Bool.{or_parts, or_from, and_from, not_from_false}
use Rattle.std.proofs.lemmas.Slice.Eq.{bytes_eq-Decides}
use Rattle.module_tree.specs.declared.source.NameAt.{NameAt}
use Rattle.module_tree.specs.Scopes.{Signal}
use Rattle.module_tree.specs.LinkedFacts.{names_differ}
use Rattle.link_faults.specs.Named.{Name, is_named, first_ones, place_from}
use Rattle.link_faults.specs.Rows.{repeated_behind, repeated, here_if, name_of_signal}
use Rattle.module_link.proofs.Lists.{append_empty, all_weaker, all_both}
use Rattle.module_link.proofs.Meanings.{nothing_here}

pub same_name : (n : Name) → bytes_eq n n ≡ true
same_name n = (bytes_eq-Decides n n).1 refl

pub equal_names : (n m : Name) → bytes_eq n m ≡ true → n ≡ m
equal_names n m e = (bytes_eq-Decides n m).0 e

module _ {A : Type 0} (g : A → NameAt Name) where
  -- none of them is named before
  pub apart : (before : List Name) (xs : List A) → repeated_behind before (map g xs) ≡ []
      → AllByRecursion (λ x. is_named before (g x).name ≡ false) xs
  apart before [] e = tt
  apart before (x ∷ xs) e =
      let q = append_empty (here_if (is_named before (g x).name) (g x).pos) (repeated_behind
      ((g x).name ∷ before) (map g xs)) e in (
        nothing_here (is_named before (g x).name) (g x).pos q.0,
        all_weaker (λ y. is_named ((g x).name ∷ before) (g y).name ≡ false)
            (λ y. is_named before (g y).name ≡ false)
            (λ y h. (or_parts (bytes_eq (g x).name (g y).name) (is_named before (g y).name) h).1) xs
            (apart ((g x).name ∷ before) xs q.1),
      )

  -- each is the first of its name
  pub find_own : (before : List Name) (xs : List A) → repeated_behind before (map g xs) ≡ []
      → AllByRecursion (λ x. find (λ t. bytes_eq (g t).name (g x).name) xs ≡ Some x) xs
  find_own before [] e = tt
  find_own before (x ∷ xs) e =
      let q = append_empty (here_if (is_named before (g x).name) (g x).pos) (repeated_behind
      ((g x).name ∷ before) (map g xs)) e in (
        ap (λ b. cond b (Some x) (find (λ t. bytes_eq (g t).name (g x).name) xs)) (same_name (g x).name),
        all_weaker (λ y. (is_named ((g x).name ∷ before) (g y).name ≡ false)
            × (find (λ t. bytes_eq (g t).name (g y).name) xs ≡ Some y))
            (λ y. cond (bytes_eq (g x).name (g y).name) (Some x) (find (λ t. bytes_eq (g t).name (g y).name) xs)
            ≡ Some y)
            (λ y h. ap (λ b. cond b (Some x) (find (λ t. bytes_eq (g t).name (g y).name) xs))
            (or_parts (bytes_eq (g x).name (g y).name) (is_named before (g y).name) h.0).0 ∙ h.1) xs
            (all_both _ _ xs (apart ((g x).name ∷ before) xs q.1) (find_own ((g x).name ∷ before) xs q.1)),
      )

-- what is found by its name stands at the first place of the name
pub record AtPlace {A : Type 0} (xs : List A) (x : A) (place : Option ℕ) (n : ℕ) : Type 0 where
  pub index : ℕ
  pub place_is : place ≡ Some (n + index)
  pub stands : slice_get xs index ≡ Some x

pub place_found : {A : Type 0} (f : A → Name) (n : ℕ) (xs : List A) (name : Name) (x : A)
    → find (λ a. bytes_eq (f a) name) xs ≡ Some x → AtPlace xs x (place_from n (map f xs) name) n
place_found f n [] name x e = absurd (absent e)
  where
    absent : None ≡ Some x → ⊥
    absent e = cc
place_found f n (y ∷ ys) name x e = by (place_found f (n + 1) ys name x) (bytes_eq (f y) name) e
  where
    by : (find (λ a. bytes_eq (f a) name) ys ≡ Some x → AtPlace ys x (place_from (n + 1) (map f ys) name)
        (n + 1)) → (b : Bool) → cond b (Some y) (find (λ a. bytes_eq (f a) name) ys) ≡ Some x
        → AtPlace (y ∷ ys) x (cond b (Some n) (place_from (n + 1) (map f ys) name)) n
    by others true e =
        let here : n ≡ n + 0 = omega arith in
        record { index = 0; place_is = ap Some here; stands = e }
    by others false e =
        let q = others e in
        let there : (n + 1) + q.index ≡ n + suc q.index = omega arith in
        record { index = suc q.index; place_is = q.place_is ∙ ap Some there; stands = q.stands }

pub all_first : (before : List Name) (signals : List Signal)
    → repeated_behind before (map (λ (s : Signal). name_of_signal s.signal) signals) ≡ []
    → first_ones before signals ≡ signals
all_first before [] e = refl
all_first before (s ∷ others) e =
    let q = append_empty (here_if (is_named before s.signal.name) s.signal.pos) (repeated_behind
    (s.signal.name ∷ before) (map (λ (s : Signal). name_of_signal s.signal) others)) e in
    ap (λ b. cond b (first_ones before others) (s ∷ first_ones (s.signal.name ∷ before) others))
    (nothing_here (is_named before s.signal.name) s.signal.pos q.0)
    ∙ ap (λ ss. s ∷ ss) (all_first (s.signal.name ∷ before) others q.1)

-- ---- names of the same lists, as they are judged in the resolved tree

map_same : (ns : List (NameAt Name)) → map (λ (n : NameAt Name). n) ns ≡ ns
map_same [] = refl
map_same (n ∷ ns) = ap (λ ms. n ∷ ms) (map_same ns)

none_is : (test : Name → Bool) (ns : List (NameAt Name))
    → AllByRecursion (λ (n : NameAt Name). test n.name ≡ false) ns
    → list_any test (map (λ (n : NameAt Name). n.name) ns) ≡ false
none_is test [] h = refl
none_is test (n ∷ ns) h = or_from (test n.name) (list_any test (map (λ (n : NameAt Name). n.name) ns)) h.0
    (none_is test ns h.1)

differ_by : (before : List Name) (ns : List (NameAt Name)) → repeated_behind before ns ≡ []
    → names_differ (map (λ (n : NameAt Name). n.name) ns) ≡ true
differ_by before [] e = refl
differ_by before (n ∷ ns) e =
    let names = map (λ (n : NameAt Name). n.name) ns in
    let q = append_empty (here_if (is_named before n.name) n.pos) (repeated_behind (n.name ∷ before) ns) e in
    let others = all_weaker (λ (m : NameAt Name). is_named (n.name ∷ before) m.name ≡ false)
    (λ (m : NameAt Name). bytes_eq n.name m.name ≡ false)
    (λ m h. (or_parts (bytes_eq n.name m.name) (is_named before m.name) h).0) ns
    (apart (λ (m : NameAt Name). m) (n.name ∷ before) ns
    (ap (repeated_behind (n.name ∷ before)) (map_same ns) ∙ q.1)) in
    and_from (not (list_any (bytes_eq n.name) names)) (names_differ names)
    (not_from_false (list_any (bytes_eq n.name) names) (none_is (bytes_eq n.name) ns others))
    (differ_by (n.name ∷ before) ns q.1)

pub no_name_twice : (ns : List (NameAt Name)) → repeated ns ≡ []
    → names_differ (map (λ (n : NameAt Name). n.name) ns) ≡ true
no_name_twice ns e = differ_by [] ns e

-- Lists: where nothing is in them, what holds of all, and what stands at a place.
use Rattle.std.proofs.Common.{◌≡◌, ℕ, zero, suc, Bool, true, false, cond, List, [], ◌∷◌, ◌++◌, map}
use Rattle.std.proofs.Common.{length, Some, None, option_map, refl, subst, arith}
use Rattle.std.specs.Prelude.{slice_get}
use Rattle.std.specs.List.{AllByRecursion, Contains, flat_map, list_all, find}
use Rattle.std.proofs.lemmas.Bool.{and_from, and_parts}

-- ---- nothing in a list

pub nothing_first : {A : Type 0} (x : A) (xs : List A) → x ∷ xs ≡ [] → ⊥
nothing_first x xs e = cc

pub append_empty : {A : Type 0} (xs ys : List A) → xs ++ ys ≡ [] → (xs ≡ []) × (ys ≡ [])
append_empty [] ys e = (refl, e)
append_empty (x ∷ xs) ys e = absurd (nothing_first x (xs ++ ys) e)

pub contains_nothing : {A : Type 0} (xs : List A) → ((x : A) → Contains xs x → ⊥) → xs ≡ []
contains_nothing [] h = refl
contains_nothing (x ∷ xs) h = absurd (h x (0, omega arith, refl))

pub flat_map_empty : {A B : Type 0} (f : A → List B) (xs : List A) → flat_map f xs ≡ []
    → AllByRecursion (λ x. f x ≡ []) xs
flat_map_empty f [] e = tt
flat_map_empty f (x ∷ xs) e = let q = append_empty (f x) (flat_map f xs) e in (q.0, flat_map_empty f xs q.1)

-- ---- what holds of all

pub all_split : {A : Type 0} (P : A → Type 0) (xs ys : List A) → AllByRecursion P (xs ++ ys)
    → AllByRecursion P xs × AllByRecursion P ys
all_split P [] ys h = (tt, h)
all_split P (x ∷ xs) ys h = let q = all_split P xs ys h.1 in ((h.0, q.0), q.1)

pub all_append : {A : Type 0} (P : A → Type 0) (xs ys : List A) → AllByRecursion P xs → AllByRecursion P ys
    → AllByRecursion P (xs ++ ys)
all_append P [] ys h g = g
all_append P (x ∷ xs) ys h g = (h.0, all_append P xs ys h.1 g)

pub all_weaker : {A : Type 0} (P Q : A → Type 0) → ((x : A) → P x → Q x) → (xs : List A)
    → AllByRecursion P xs → AllByRecursion Q xs
all_weaker P Q f [] h = tt
all_weaker P Q f (x ∷ xs) h = (f x h.0, all_weaker P Q f xs h.1)

pub all_both : {A : Type 0} (P Q : A → Type 0) (xs : List A) → AllByRecursion P xs → AllByRecursion Q xs
    → AllByRecursion (λ x. P x × Q x) xs
all_both P Q [] h g = tt
all_both P Q (x ∷ xs) h g = ((h.0, g.0), all_both P Q xs h.1 g.1)

pub all_of_map : {A B : Type 0} (P : B → Type 0) (f : A → B) (xs : List A)
    → AllByRecursion (λ x. P (f x)) xs → AllByRecursion P (map f xs)
all_of_map P f [] h = tt
all_of_map P f (x ∷ xs) h = (h.0, all_of_map P f xs h.1)

pub all_from_map : {A B : Type 0} (P : B → Type 0) (f : A → B) (xs : List A)
    → AllByRecursion P (map f xs) → AllByRecursion (λ x. P (f x)) xs
all_from_map P f [] h = tt
all_from_map P f (x ∷ xs) h = (h.0, all_from_map P f xs h.1)

pub all_tests : {A : Type 0} (test : A → Bool) (xs : List A) → AllByRecursion (λ x. test x ≡ true) xs
    → list_all test xs ≡ true
all_tests test [] h = refl
all_tests test (x ∷ xs) h = and_from (test x) (list_all test xs) h.0 (all_tests test xs h.1)

pub tests_all : {A : Type 0} (test : A → Bool) (xs : List A) → list_all test xs ≡ true
    → AllByRecursion (λ x. test x ≡ true) xs
tests_all test [] h = tt
tests_all test (x ∷ xs) h = let q = and_parts (test x) (list_all test xs) h in (q.0, tests_all test xs q.1)

-- what is found is in the list, and passes the test
pub all_found : {A : Type 0} (P : A → Type 0) (test : A → Bool) (xs : List A) (x : A) → AllByRecursion P xs
    → find test xs ≡ Some x → P x × (test x ≡ true)
all_found P test [] x h e = absurd (nothing e)
  where
    nothing : None ≡ Some x → ⊥
    nothing e = cc
all_found {A} P test (y ∷ ys) x h e = by (all_found P test ys x h.1) (test y) refl e
  where
    by : (find test ys ≡ Some x → P x × (test x ≡ true)) → (b : Bool) → test y ≡ b
        → cond b (Some y) (find test ys) ≡ Some x → P x × (test x ≡ true)
    by others true is found = let same : y ≡ x = cc in (subst P same h.0, subst (λ (z : A). test z ≡ true) same is)
    by others false is found = others found

-- ---- places

pub get_of_map : {A B : Type 0} (f : A → B) (xs : List A) (k : ℕ) → slice_get (map f xs) k ≡ option_map f
    (slice_get xs k)
get_of_map f [] k = refl
get_of_map f (x ∷ xs) zero = refl
get_of_map f (x ∷ xs) (suc k) = get_of_map f xs k

pub behind : {A : Type 0} (xs : List A) (x : A) (ys : List A) → slice_get (xs ++ x ∷ ys) (length xs) ≡ Some x
behind [] x ys = refl
behind (z ∷ zs) x ys = behind zs x ys

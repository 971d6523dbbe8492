-- What holds of each item of a list, lists one behind the other, and lists that have another one from a place on.
use Rattle.std.proofs.Common.{◌≡◌, ℕ, zero, suc, ◌+◌, ◌<◌, ◌≤◌, List, [], ◌∷◌, ◌++◌, map, refl, ap, subst, ◌∙◌, arith}
use Rattle.std.proofs.Common.{Option, Some, None, length, take, drop, length-append}
use Rattle.std.proofs.lemmas.List.{append_assoc}
use Rattle.std.specs.Prelude.{slice_get, option_to_list, option_map}
use Rattle.std.specs.List.{AllByRecursion, range_with_len}
use Rattle.loop_copy.specs.Copies.{items_at}

module _ {A : Type 0} (P : A → Type 0) where
  pub both_all : (xs ys : List A) → AllByRecursion P (xs ++ ys) → AllByRecursion P xs × AllByRecursion P ys
  both_all [] ys h = (tt, h)
  both_all (x ∷ xs) ys h = let q = both_all xs ys h.1 in ((h.0, q.0), q.1)

  pub all_both : (xs ys : List A) → AllByRecursion P xs → AllByRecursion P ys → AllByRecursion P (xs ++ ys)
  all_both [] ys h k = k
  all_both (x ∷ xs) ys h k = (h.0, all_both xs ys h.1 k)

  pub all_map : (Q : A → Type 0) → ((x : A) → P x → Q x) → (xs : List A) → AllByRecursion P xs → AllByRecursion Q xs
  all_map Q f [] h = tt
  all_map Q f (x ∷ xs) h = (f x h.0, all_map Q f xs h.1)

  pub all_zip : (Q : A → Type 0) (xs : List A) → AllByRecursion P xs → AllByRecursion Q xs → AllByRecursion (λ x. P x × Q x) xs
  all_zip Q [] h k = tt
  all_zip Q (x ∷ xs) h k = ((h.0, k.0), all_zip Q xs h.1 k.1)

  pub all_take : (n : ℕ) (xs : List A) → AllByRecursion P xs → AllByRecursion P (take n xs)
  all_take zero xs h = tt
  all_take (suc n) [] h = tt
  all_take (suc n) (x ∷ xs) h = (h.0, all_take n xs h.1)

  pub all_at : (xs : List A) (i : ℕ) (x : A) → AllByRecursion P xs → slice_get xs i ≡ Some x → P x
  all_at [] i x h e = absurd (let no : ⊥ = cc in no)
  all_at (y ∷ xs) zero x h e = (let same : y ≡ x = cc in subst P same h.0)
  all_at (y ∷ xs) (suc i) x h e = all_at xs i x h.1 e

  pub all_at_drop : (k : ℕ) (xs : List A) (i : ℕ) (x : A) → AllByRecursion P (drop k xs) → k ≤ i → slice_get xs i ≡ Some x → P x
  all_at_drop zero xs i x h l e = all_at xs i x h e
  all_at_drop (suc k) [] i x h l e = absurd (let no : ⊥ = cc in no)
  all_at_drop (suc k) (y ∷ xs) zero x h l e = absurd (let no : ⊥ = omega (arith, l) in no)
  all_at_drop (suc k) (y ∷ xs) (suc i) x h l e = all_at_drop k xs i x h (omega (arith, l)) e

  pub all_items : (xs : List A) (is : List ℕ) → AllByRecursion (λ i. (x : A) → slice_get xs i ≡ Some x → P x) is
      → AllByRecursion P (items_at xs is)
  all_items xs [] h = tt
  all_items xs (i ∷ is) h = by_item (all_items xs is h.1) (slice_get xs i) refl
    where
      by_item : AllByRecursion P (items_at xs is) → (o : Option A) → slice_get xs i ≡ o
          → AllByRecursion P (option_to_list o ++ items_at xs is)
      by_item k None e = k
      by_item k (Some x) e = (h.0 x e, k)

pub all_any : {A : Type 0} (P : A → Type 0) → ((x : A) → P x) → (xs : List A) → AllByRecursion P xs
all_any P f [] = tt
all_any P f (x ∷ xs) = (f x, all_any P f xs)

pub all_range : (P : ℕ → Type 0) (a n : ℕ) → ((i : ℕ) → a ≤ i → i < a + n → P i) → AllByRecursion P (range_with_len a n)
all_range P a zero f = tt
all_range P a (suc n) f = (f a (omega arith) (omega arith), all_range P (a + 1) n (λ i h k. f i (omega (arith, h)) (omega (arith, k))))

pub range_append : (a m n : ℕ) → range_with_len a m ++ range_with_len (a + m) n ≡ range_with_len a (m + n)
range_append a zero n =
    let front : a + 0 ≡ a = omega arith in
    let whole : n ≡ 0 + n = omega arith in
    λ i. range_with_len (front i) (whole i)
range_append a (suc m) n =
    let next : a + suc m ≡ (a + 1) + m = omega arith in
    let many : suc (m + n) ≡ suc m + n = omega arith in
    ap (λ k. a ∷ (range_with_len (a + 1) m ++ range_with_len k n)) next ∙ ap (λ ks. a ∷ ks) (range_append (a + 1) m n)
    ∙ ap (range_with_len a) many

pub got : {A : Type 0} (xs : List A) (i : ℕ) → i < length xs → (x : A) × (slice_get xs i ≡ Some x)
got [] i h = absurd (let no : ⊥ = omega (arith, h) in no)
got (x ∷ xs) zero h = (x, refl)
got (x ∷ xs) (suc i) h = got xs i (omega (arith, h))

pub got_map : {A B : Type 0} (f : A → B) (xs : List A) (i : ℕ) → slice_get (map f xs) i ≡ option_map f (slice_get xs i)
got_map f [] i = refl
got_map f (x ∷ xs) zero = refl
got_map f (x ∷ xs) (suc i) = got_map f xs i

pub got_front : {A : Type 0} (xs ys zs : List A) (i : ℕ) → i < length xs → slice_get (xs ++ ys) i ≡ slice_get (xs ++ zs) i
got_front [] ys zs i h = absurd (let no : ⊥ = omega (arith, h) in no)
got_front (x ∷ xs) ys zs zero h = refl
got_front (x ∷ xs) ys zs (suc i) h = got_front xs ys zs i (omega (arith, h))

pub got_behind : {A : Type 0} (xs ys : List A) (y : A) → slice_get (xs ++ y ∷ ys) (length xs) ≡ Some y
got_behind [] ys y = refl
got_behind (x ∷ xs) ys y = got_behind xs ys y

-- the second list stands in the first one from place n on
abbrev pub Holds : {A : Type 0} → List A → ℕ → List A → Type 0
Holds xs n [] = Unit {0}
Holds xs n (y ∷ ys) = (slice_get xs n ≡ Some y) × Holds xs (suc n) ys

pub holds_both : {A : Type 0} (xs : List A) (n : ℕ) (ys zs : List A) → Holds xs n (ys ++ zs)
    → Holds xs n ys × Holds xs (n + length ys) zs
holds_both xs n [] zs h = (tt, (let here : n ≡ n + 0 = omega arith in subst (λ k. Holds xs k zs) here h))
holds_both xs n (y ∷ ys) zs h =
    let q = holds_both xs (suc n) ys zs h.1 in
    let next : suc n + length ys ≡ n + suc (length ys) = omega arith in
    ((h.0, q.0), subst (λ k. Holds xs k zs) next q.1)

pub holds_behind : {A : Type 0} (xs ys : List A) → Holds (xs ++ ys) (length xs) ys
holds_behind xs [] = tt
holds_behind xs (y ∷ ys) =
    let next : length (xs ++ y ∷ []) ≡ suc (length xs) = length-append xs (y ∷ []) ∙ (let one : length xs + 1 ≡ suc (length xs) = omega arith in one) in (
      got_behind xs ys y,
      subst (λ k. Holds (xs ++ y ∷ ys) k ys) next
          (subst (λ zs. Holds zs (length (xs ++ y ∷ [])) ys) (append_assoc xs (y ∷ []) ys) (holds_behind (xs ++ y ∷ []) ys)),
    )

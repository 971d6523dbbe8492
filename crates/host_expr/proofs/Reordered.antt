-- Combining does not see the order of the emissions.
use Rattle.std.proofs.Common.{◌≡◌, refl, ap, ◌∙◌, Bool, true, false, cond, ◌&&◌, ◌||◌, Option, Some, None}
use Rattle.std.proofs.Common.{List, [], ◌∷◌, arith}
use Rattle.std.specs.Prelude.{ℤ, pos, ◌+ℤ◌, if◌then◌else◌}
use Rattle.std.specs.Int.{int_min, int_max}
use Rattle.std.proofs.lemmas.Int.{ints}
use Rattle.hh_base.specs.declared.value.Kind.{Kind}
use Rattle.hh_base.specs.declared.value.Value.{Value}
use Rattle.hh_base.specs.declared.value.Value.TheVariants as value
use Rattle.hh_base.specs.declared.value.CombineWord.{CombineWord}
use Rattle.hh_base.specs.declared.value.CombineWord.TheVariants as word
use Rattle.host_expr.specs.Combination.{in_range, numbers_in, truths_in, whole_sum, least_of, greatest_of}
use Rattle.host_expr.specs.Combination.{all_of, any_of, number_or_zero, combined_by, combined, is_several}
use Rattle.host_expr.specs.Combination.{is_overflowed}
use Rattle.host_expr.specs.Reordering.{Reordering, none, keep, swap, after, CombinedInAnyOrder}
use Rattle.host_expr.specs.Reordering.{SeveralInAnyOrder, OverflowedInAnyOrder}

-- ---- operations that may be swapped

sum_swap : (x y b : ℤ) → x +ℤ (y +ℤ b) ≡ y +ℤ (x +ℤ b)
sum_swap x y b = omega (arith, ints)

least_swap : (x y b : ℤ) → int_min x (int_min y b) ≡ int_min y (int_min x b)
least_swap x y b = grind (arith, ints)

greatest_swap : (x y b : ℤ) → int_max x (int_max y b) ≡ int_max y (int_max x b)
greatest_swap x y b = grind (arith, ints)

least_comm : (x y : ℤ) → int_min x y ≡ int_min y x
least_comm x y = grind (arith, ints)

greatest_comm : (x y : ℤ) → int_max x y ≡ int_max y x
greatest_comm x y = grind (arith, ints)

and_swap : (x y b : Bool) → (x && (y && b)) ≡ (y && (x && b))
and_swap true y b = refl
and_swap false true b = refl
and_swap false false b = refl

or_swap : (x y b : Bool) → (x || (y || b)) ≡ (y || (x || b))
or_swap false y b = refl
or_swap true true b = refl
or_swap true false b = refl

-- ---- numbers and truths

sum_same : {xs ys : List ℤ} → Reordering xs ys → whole_sum xs ≡ whole_sum ys
sum_same none = refl
sum_same (keep x p) = ap (λ z. x +ℤ z) (sum_same p)
sum_same (swap {xs = xs} x y p) = sum_swap x y (whole_sum xs) ∙ ap (λ z. y +ℤ (x +ℤ z)) (sum_same p)
sum_same (after p q) = sum_same p ∙ sum_same q

all_same : {xs ys : List Bool} → Reordering xs ys → all_of xs ≡ all_of ys
all_same none = refl
all_same (keep x p) = ap (λ z. x && z) (all_same p)
all_same (swap {xs = xs} x y p) = and_swap x y (all_of xs) ∙ ap (λ z. y && (x && z)) (all_same p)
all_same (after p q) = all_same p ∙ all_same q

any_same : {xs ys : List Bool} → Reordering xs ys → any_of xs ≡ any_of ys
any_same none = refl
any_same (keep x p) = ap (λ z. x || z) (any_same p)
any_same (swap {xs = xs} x y p) = or_swap x y (any_of xs) ∙ ap (λ z. y || (x || z)) (any_same p)
any_same (after p q) = any_same p ∙ any_same q

-- the least of m, n and a list is the least of n, m and the list
least_turn : (m n : ℤ) (ns : List ℤ) → least_of m (n ∷ ns) ≡ least_of n (m ∷ ns)
least_turn m n [] = least_comm m n
least_turn m n (k ∷ ns) = least_swap m n (least_of k ns)

greatest_turn : (m n : ℤ) (ns : List ℤ) → greatest_of m (n ∷ ns) ≡ greatest_of n (m ∷ ns)
greatest_turn m n [] = greatest_comm m n
greatest_turn m n (k ∷ ns) = greatest_swap m n (greatest_of k ns)

least_same : {xs ys : List ℤ} (m : ℤ) → Reordering xs ys → least_of m xs ≡ least_of m ys
least_same m none = refl
least_same m (keep x p) = ap (int_min m) (least_same x p)
least_same m (swap {xs = xs} x y p) =
    ap (int_min m) (least_turn x y xs ∙ ap (λ z. int_min y z) (least_same x p))
least_same m (after p q) = least_same m p ∙ least_same m q

greatest_same : {xs ys : List ℤ} (m : ℤ) → Reordering xs ys → greatest_of m xs ≡ greatest_of m ys
greatest_same m none = refl
greatest_same m (keep x p) = ap (int_max m) (greatest_same x p)
greatest_same m (swap {xs = xs} x y p) =
    ap (int_max m) (greatest_turn x y xs ∙ ap (λ z. int_max y z) (greatest_same x p))
greatest_same m (after p q) = greatest_same m p ∙ greatest_same m q

least_number : {xs ys : List ℤ} → Reordering xs ys → number_or_zero least_of xs ≡ number_or_zero least_of ys
least_number none = refl
least_number (keep x p) = ap (λ z. value.Int z) (least_same x p)
least_number (swap {xs = xs} x y p) =
    ap (λ z. value.Int z) (least_turn x y xs ∙ ap (λ z. int_min y z) (least_same x p))
least_number (after p q) = least_number p ∙ least_number q

greatest_number : {xs ys : List ℤ} → Reordering xs ys
    → number_or_zero greatest_of xs ≡ number_or_zero greatest_of ys
greatest_number none = refl
greatest_number (keep x p) = ap (λ z. value.Int z) (greatest_same x p)
greatest_number (swap {xs = xs} x y p) =
    ap (λ z. value.Int z) (greatest_turn x y xs ∙ ap (λ z. int_max y z) (greatest_same x p))
greatest_number (after p q) = greatest_number p ∙ greatest_number q

-- ---- the numbers and the truths of a reordered list are reordered

numbers_keep : (x : Value) (vs us : List Value) → Reordering (numbers_in vs) (numbers_in us)
    → Reordering (numbers_in (x ∷ vs)) (numbers_in (x ∷ us))
numbers_keep (value.Int n) vs us p = keep n p
numbers_keep value.Unit vs us p = p
numbers_keep (value.Bool b) vs us p = p
numbers_keep (value.Text t) vs us p = p

numbers_swap : (x y : Value) (vs us : List Value) → Reordering (numbers_in vs) (numbers_in us)
    → Reordering (numbers_in (x ∷ y ∷ vs)) (numbers_in (y ∷ x ∷ us))
numbers_swap (value.Int m) (value.Int n) vs us p = swap m n p
numbers_swap (value.Int m) value.Unit vs us p = keep m p
numbers_swap (value.Int m) (value.Bool b) vs us p = keep m p
numbers_swap (value.Int m) (value.Text t) vs us p = keep m p
numbers_swap value.Unit y vs us p = numbers_keep y vs (value.Unit ∷ us) p
numbers_swap (value.Bool b) y vs us p = numbers_keep y vs (value.Bool b ∷ us) p
numbers_swap (value.Text t) y vs us p = numbers_keep y vs (value.Text t ∷ us) p

numbers_reordered : {vs us : List Value} → Reordering vs us → Reordering (numbers_in vs) (numbers_in us)
numbers_reordered none = none
numbers_reordered (keep {xs = vs} {ys = us} x p) = numbers_keep x vs us (numbers_reordered p)
numbers_reordered (swap {xs = vs} {ys = us} x y p) = numbers_swap x y vs us (numbers_reordered p)
numbers_reordered (after p q) = after (numbers_reordered p) (numbers_reordered q)

truths_keep : (x : Value) (vs us : List Value) → Reordering (truths_in vs) (truths_in us)
    → Reordering (truths_in (x ∷ vs)) (truths_in (x ∷ us))
truths_keep (value.Bool b) vs us p = keep b p
truths_keep value.Unit vs us p = p
truths_keep (value.Int n) vs us p = p
truths_keep (value.Text t) vs us p = p

truths_swap : (x y : Value) (vs us : List Value) → Reordering (truths_in vs) (truths_in us)
    → Reordering (truths_in (x ∷ y ∷ vs)) (truths_in (y ∷ x ∷ us))
truths_swap (value.Bool a) (value.Bool b) vs us p = swap a b p
truths_swap (value.Bool a) value.Unit vs us p = keep a p
truths_swap (value.Bool a) (value.Int n) vs us p = keep a p
truths_swap (value.Bool a) (value.Text t) vs us p = keep a p
truths_swap value.Unit y vs us p = truths_keep y vs (value.Unit ∷ us) p
truths_swap (value.Int n) y vs us p = truths_keep y vs (value.Int n ∷ us) p
truths_swap (value.Text t) y vs us p = truths_keep y vs (value.Text t ∷ us) p

truths_reordered : {vs us : List Value} → Reordering vs us → Reordering (truths_in vs) (truths_in us)
truths_reordered none = none
truths_reordered (keep {xs = vs} {ys = us} x p) = truths_keep x vs us (truths_reordered p)
truths_reordered (swap {xs = vs} {ys = us} x y p) = truths_swap x y vs us (truths_reordered p)
truths_reordered (after p q) = after (truths_reordered p) (truths_reordered q)

by_word : (w : CombineWord) {vs us : List Value} → Reordering vs us → combined_by w vs ≡ combined_by w us
by_word word.Plus p = ap (λ n. value.Int (if in_range n then n else pos 0)) (sum_same (numbers_reordered p))
by_word word.Min p = least_number (numbers_reordered p)
by_word word.Max p = greatest_number (numbers_reordered p)
by_word word.And p = ap (λ b. value.Bool b) (all_same (truths_reordered p))
by_word word.Or p = ap (λ b. value.Bool b) (any_same (truths_reordered p))

-- ---- none, one or several: a reordered list is of the same length, and of one element it is the same

pub data Shape : List Value → List Value → Type 0 where
  empty : Shape [] []
  single : (v : Value) → Shape (v ∷ []) (v ∷ [])
  several : (v w x y : Value) (vs us : List Value) → Shape (v ∷ w ∷ vs) (x ∷ y ∷ us)

shape_keep : (x : Value) {vs us : List Value} → Shape vs us → Shape (x ∷ vs) (x ∷ us)
shape_keep x empty = single x
shape_keep x (single v) = several x v x v [] []
shape_keep x (several v w y z vs us) = several x v x y (w ∷ vs) (z ∷ us)

shape_after : {vs us ts : List Value} → Shape vs us → Shape us ts → Shape vs ts
shape_after empty q = q
shape_after (single v) q = q
shape_after (several v w x y vs us) (several _ _ x' y' _ ts) = several v w x' y' vs ts

shape : {vs us : List Value} → Reordering vs us → Shape vs us
shape none = empty
shape (keep x p) = shape_keep x (shape p)
shape (swap {xs = xs} {ys = ys} x y p) = several x y y x xs ys
shape (after p q) = shape_after (shape p) (shape q)

-- ---- the laws

pub combined_in_any_order : CombinedInAnyOrder
combined_in_any_order k w vs us p = by_shape k w (shape p) p
  where
    by_shape : (k : Kind) (w : Option CombineWord) {vs us : List Value} → Shape vs us → Reordering vs us
        → combined k w vs ≡ combined k w us
    by_shape k w empty p = refl
    by_shape k w (single v) p = refl
    by_shape k None (several v w x y vs us) p = refl
    by_shape k (Some word) (several v w x y vs us) p = by_word word p

pub several_in_any_order : SeveralInAnyOrder
several_in_any_order k w vs us p = by_shape k w (shape p)
  where
    by_shape : (k : Kind) (w : Option CombineWord) {vs us : List Value} → Shape vs us
        → is_several k w vs ≡ is_several k w us
    by_shape k w empty = refl
    by_shape k w (single v) = refl
    by_shape k None (several v w x y vs us) = refl
    by_shape k (Some word) (several v w x y vs us) = refl

pub overflowed_in_any_order : OverflowedInAnyOrder
overflowed_in_any_order w vs us p = by_shape w (shape p) p
  where
    by_shape : (w : Option CombineWord) {vs us : List Value} → Shape vs us → Reordering vs us
        → is_overflowed w vs ≡ is_overflowed w us
    by_shape w empty p = refl
    by_shape w (single v) p = refl
    by_shape None (several v w x y vs us) p = refl
    by_shape (Some word.Plus) (several v w x y vs us) p =
        ap (λ n. cond (in_range n) false true) (sum_same (numbers_reordered p))
    by_shape (Some word.Min) (several v w x y vs us) p = refl
    by_shape (Some word.Max) (several v w x y vs us) p = refl
    by_shape (Some word.And) (several v w x y vs us) p = refl
    by_shape (Some word.Or) (several v w x y vs us) p = refl

-- Walks over the values of a bag: what was met so far, and what is still to come.
use Rattle.std.proofs.Common.{◌≡◌, refl, sym, ◌∙◌, ap, ℕ, suc, ◌+◌, ◌<◌, true, false, not, ◌||◌, List, []}
use Rattle.std.proofs.Common.{◌∷◌, length, get_or, drop, arith, add-one}
use Rattle.std.specs.Prelude.{ℤ, ◌+ℤ◌}
use Rattle.std.specs.Int.{int_min, int_max}
use Rattle.std.specs.List.{list_any, list_all}
use Rattle.std.proofs.lemmas.Int.{ints}
use Rattle.std.proofs.Math.Seq.{drop-cons}
use Rattle.hh_base.specs.declared.value.Value.{Value}
use Rattle.hh_base.specs.declared.value.Value.TheVariants as value
use Rattle.signal_bank.specs.Truth.{is_true, is_false}
use Rattle.host_expr.specs.Combination.{numbers_in, truths_in, whole_sum, least_of, greatest_of, all_of}
use Rattle.host_expr.specs.Combination.{any_of}

-- ---- truths

pub any_is : (vs : List Value) → list_any is_true vs ≡ any_of (truths_in vs)
any_is [] = refl
any_is (value.Bool b ∷ vs) = ap (λ c. b || c) (any_is vs)
any_is (value.Unit ∷ vs) = any_is vs
any_is (value.Int n ∷ vs) = any_is vs
any_is (value.Text t ∷ vs) = any_is vs

pub all_is : (vs : List Value) → list_all (λ v. not (is_false v)) vs ≡ all_of (truths_in vs)
all_is [] = refl
all_is (value.Bool true ∷ vs) = all_is vs
all_is (value.Bool false ∷ vs) = refl
all_is (value.Unit ∷ vs) = all_is vs
all_is (value.Int n ∷ vs) = all_is vs
all_is (value.Text t ∷ vs) = all_is vs

-- ---- the numbers from a place on

drop_here : (vs : List Value) (i : ℕ) (v : Value) → i < length vs → v ≡ get_or vs i v
    → drop i vs ≡ v ∷ drop (i + 1) vs
drop_here vs i v within here = rw add-one (drop-cons vs i v within ∙ ap (λ u. u ∷ drop (suc i) vs) (sym here))

pub numbers_here : (vs : List Value) (i : ℕ) (v : Value) → i < length vs → v ≡ get_or vs i v → (n : ℤ)
    → v ≡ value.Int n → numbers_in (drop i vs) ≡ n ∷ numbers_in (drop (i + 1) vs)
numbers_here vs i v within here n is =
    ap numbers_in (drop_here vs i v within here ∙ ap (λ u. u ∷ drop (i + 1) vs) is)

no_number : (v : Value) (vs : List Value) → ((n : ℤ) → v ≡ value.Int n → ⊥)
    → numbers_in (v ∷ vs) ≡ numbers_in vs
no_number (value.Int n) vs not = absurd (not n refl)
no_number value.Unit vs not = refl
no_number (value.Bool b) vs not = refl
no_number (value.Text t) vs not = refl

pub numbers_past : (vs : List Value) (i : ℕ) (v : Value) → i < length vs → v ≡ get_or vs i v
    → ((n : ℤ) → v ≡ value.Int n → ⊥) → numbers_in (drop i vs) ≡ numbers_in (drop (i + 1) vs)
numbers_past vs i v within here not =
    ap numbers_in (drop_here vs i v within here) ∙ no_number v (drop (i + 1) vs) not

-- ---- one more number

sum_turn : (a n b : ℤ) → (a +ℤ n) +ℤ b ≡ a +ℤ (n +ℤ b)
sum_turn a n b = omega (arith, ints)

pub sum_met : (a n r t : ℤ) (xs ns : List ℤ) → a +ℤ whole_sum xs ≡ t → xs ≡ n ∷ ns → r ≡ a +ℤ n
    → r +ℤ whole_sum ns ≡ t
sum_met a n r t xs ns whole here new =
    ap (λ m. m +ℤ whole_sum ns) new ∙ sum_turn a n (whole_sum ns) ∙ ap (λ l. a +ℤ whole_sum l) (sym here)
    ∙ whole

least_turn : (m n k : ℤ) → int_min (int_min m n) k ≡ int_min m (int_min n k)
least_turn m n k = grind (arith, ints)

least_step : (m n : ℤ) (ns : List ℤ) → least_of (int_min m n) ns ≡ least_of m (n ∷ ns)
least_step m n [] = refl
least_step m n (k ∷ ns) = least_turn m n (least_of k ns)

pub least_met : (m n r t : ℤ) (xs ns : List ℤ) → least_of m xs ≡ t → xs ≡ n ∷ ns → r ≡ int_min m n
    → least_of r ns ≡ t
least_met m n r t xs ns whole here new =
    ap (λ k. least_of k ns) new ∙ least_step m n ns ∙ ap (least_of m) (sym here) ∙ whole

greatest_turn : (m n k : ℤ) → int_max (int_max m n) k ≡ int_max m (int_max n k)
greatest_turn m n k = grind (arith, ints)

greatest_step : (m n : ℤ) (ns : List ℤ) → greatest_of (int_max m n) ns ≡ greatest_of m (n ∷ ns)
greatest_step m n [] = refl
greatest_step m n (k ∷ ns) = greatest_turn m n (greatest_of k ns)

pub greatest_met : (m n r t : ℤ) (xs ns : List ℤ) → greatest_of m xs ≡ t → xs ≡ n ∷ ns → r ≡ int_max m n
    → greatest_of r ns ≡ t
greatest_met m n r t xs ns whole here new =
    ap (λ k. greatest_of k ns) new ∙ greatest_step m n ns ∙ ap (greatest_of m) (sym here) ∙ whole

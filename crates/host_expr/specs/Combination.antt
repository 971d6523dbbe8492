-- Several emissions of a signal in one reaction make one value, whatever their order. (This project's
-- own, after the combine functions of Esterel and HipHop.js.)
use Rattle.std.specs.Prelude.{◌^◌, Bool, true, false, ◌&&◌, ◌||◌, cond, nat_lt, Option, Some, None, List}
use Rattle.std.specs.Prelude.{[], ◌∷◌, ℤ, pos, negsuc, ◌+ℤ◌, if◌then◌else◌}
use Rattle.std.specs.Int.{int_min, int_max}
use Rattle.hh_base.specs.declared.value.Kind.{Kind}
use Rattle.hh_base.specs.declared.value.Value.{Value}
use Rattle.hh_base.specs.declared.value.Value.TheVariants as value
use Rattle.hh_base.specs.Value.{default_of, is_valued}
use Rattle.hh_base.specs.Value.{default_of, is_valued}
use Rattle.hh_base.specs.declared.value.CombineWord.{CombineWord}
use Rattle.hh_base.specs.declared.value.CombineWord.TheVariants as word
use Rattle.host_expr.specs.declared.cell.Cell.{Cell}
use Rattle.host_expr.specs.declared.cell.Cell.TheVariants as cell

-- a fault counts as the kind's default
abbrev pub counts_as : Kind → Cell → Value
counts_as k (cell.Known v) = v
counts_as k _ = default_of k

-- within 64 bits
abbrev pub in_range : ℤ → Bool
in_range (pos n) = nat_lt n (2 ^ 63)
in_range (negsuc n) = nat_lt n (2 ^ 63)

abbrev pub numbers_in : List Value → List ℤ
numbers_in [] = []
numbers_in (value.Int n ∷ vs) = n ∷ numbers_in vs
numbers_in (_ ∷ vs) = numbers_in vs

abbrev pub truths_in : List Value → List Bool
truths_in [] = []
truths_in (value.Bool b ∷ vs) = b ∷ truths_in vs
truths_in (_ ∷ vs) = truths_in vs

abbrev pub whole_sum : List ℤ → ℤ
whole_sum [] = pos 0
whole_sum (n ∷ ns) = n +ℤ whole_sum ns

abbrev pub least_of : ℤ → List ℤ → ℤ
least_of m [] = m
least_of m (n ∷ ns) = int_min m (least_of n ns)

abbrev pub greatest_of : ℤ → List ℤ → ℤ
greatest_of m [] = m
greatest_of m (n ∷ ns) = int_max m (greatest_of n ns)

abbrev pub all_of : List Bool → Bool
all_of [] = true
all_of (b ∷ bs) = b && all_of bs

abbrev pub any_of : List Bool → Bool
any_of [] = false
any_of (b ∷ bs) = b || any_of bs

abbrev pub number_or_zero : (ℤ → List ℤ → ℤ) → List ℤ → Value
number_or_zero f [] = value.Int (pos 0)
number_or_zero f (n ∷ ns) = value.Int (f n ns)

-- two or more values by a word
abbrev pub combined_by : CombineWord → List Value → Value
combined_by word.Plus vs = value.Int (let n = whole_sum (numbers_in vs) in if in_range n then n else pos 0)
combined_by word.Min vs = number_or_zero least_of (numbers_in vs)
combined_by word.Max vs = number_or_zero greatest_of (numbers_in vs)
combined_by word.And vs = value.Bool (all_of (truths_in vs))
combined_by word.Or vs = value.Bool (any_of (truths_in vs))

-- one value is itself; several without a word count as the kind's default
abbrev pub combined : Kind → Option CombineWord → List Value → Value
combined k w [] = default_of k
combined k w (v ∷ []) = v
combined k None (v ∷ u ∷ vs) = default_of k
combined k (Some w) (v ∷ u ∷ vs) = combined_by w (v ∷ u ∷ vs)

-- two or more values of a valued signal without a word
abbrev pub is_several : Kind → Option CombineWord → List Value → Bool
is_several k None (v ∷ u ∷ vs) = is_valued k
is_several k _ _ = false

-- a sum outside 64 bits
abbrev pub is_overflowed : Option CombineWord → List Value → Bool
is_overflowed (Some word.Plus) (v ∷ u ∷ vs) = cond (in_range (whole_sum (numbers_in (v ∷ u ∷ vs)))) false true
is_overflowed _ _ = false

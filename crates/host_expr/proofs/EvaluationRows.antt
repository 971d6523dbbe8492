-- Worked expressions and combinations, by computation from the definitions alone.
use Rattle.std.proofs.Common.{◌≡◌, refl, ℕ, Bool, true, false, Some, None, List, [], ◌∷◌}
use Rattle.std.specs.Prelude.{ℤ, pos, negsuc, replicate}
use Rattle.hh_base.specs.declared.value.Tri.TheVariants.{One}
use Rattle.hh_base.specs.declared.value.Kind.TheVariants as kind
use Rattle.hh_base.specs.declared.value.Value.{Value}
use Rattle.hh_base.specs.declared.value.Value.TheVariants as value
use Rattle.hh_base.specs.declared.value.FaultKind.{FaultKind}
use Rattle.hh_base.specs.declared.value.FaultKind.TheVariants.{Divide, Overflow, TextLong}
use Rattle.hh_base.specs.declared.value.CombineWord.TheVariants as word
use Rattle.host_expr.specs.declared.cell.Cell.{Cell}
use Rattle.host_expr.specs.declared.cell.Cell.TheVariants as cell
use Rattle.host_expr.specs.declared.expr.Op.{Op}
use Rattle.host_expr.specs.declared.expr.Op.TheVariants.{Add, Sub, Mul, Div, Rem}
use Rattle.host_expr.specs.declared.expr.Rel.TheVariants.{Eq, Ne, Lt, Le, Gt}
use Rattle.host_expr.specs.Expression.{Expression, Int, Flag, Text, Now, Pre, NowVal, PreVal, Arg, Not}
use Rattle.host_expr.specs.Expression.{Neg, Arith, Compare, And, Or, Choose}
use Rattle.host_expr.specs.Environment.{Env, unsolved, put, blank}
use Rattle.host_expr.specs.Evaluation.{eval_of}
use Rattle.host_expr.specs.Combination.{combined, is_several, is_overflowed}

-- signal 0 is unknown, was present before, and had the value 3; signal 1 is present with the value 5; an
-- argument is 8
abbrev signals : Env
signals = put (put blank 0 (unsolved true (value.Int (pos 3)))) 1
    (record {
      status = One;
      value = cell.Known (value.Int (pos 5));
      pre = false;
      preval = value.Int (pos 0);
    })

abbrev evaluated : Expression → Cell
evaluated e = eval_of e signals (value.Int (pos 8) ∷ [])

abbrev number : ℤ → Cell
number n = cell.Known (value.Int n)

abbrev flag : Bool → Cell
flag b = cell.Known (value.Bool b)

abbrev fault : ℕ → FaultKind → Cell
fault p k = cell.Faulted (record { 0 = p }) k

-- two numbers and an operator at this position
abbrev at : ℕ → Op → ℤ → ℤ → Expression
at p op x y = Arith (record { 0 = p }) op (Int x) (Int y)

abbrev greatest : ℤ
greatest = pos 9223372036854775807

abbrev least : ℤ
least = negsuc 9223372036854775807

-- ---- what is read

reads_the_present : evaluated (Arith (record { 0 = 1 }) Add (NowVal 1) (Arg 0)) ≡ number (pos 13)
reads_the_present = refl

reads_the_past : evaluated (And (Pre 0) (Compare Eq (PreVal 0) (Int (pos 3)))) ≡ flag true
reads_the_past = refl

-- a part that is not taken is waited for
waits_for_all : evaluated (And (Flag false) (Now 0)) ≡ cell.Unknown
waits_for_all = refl

waits_for_both_choices : evaluated (Choose (Now 1) (Int (pos 1)) (NowVal 0)) ≡ cell.Unknown
waits_for_both_choices = refl

-- ---- what is taken

skips_a_conjunct : evaluated (And (Flag false) (Compare Eq (at 1 Div (pos 1) (pos 0)) (Int (pos 1))))
    ≡ flag false
skips_a_conjunct = refl

skips_a_disjunct : evaluated (Or (Now 1) (Compare Eq (at 1 Div (pos 1) (pos 0)) (Int (pos 1)))) ≡ flag true
skips_a_disjunct = refl

skips_a_choice : evaluated (Choose (Now 1) (Int (pos 2)) (at 1 Div (pos 1) (pos 0))) ≡ number (pos 2)
skips_a_choice = refl

-- the first fault from the left, also where the one on the right stands earlier in the text
first_fault :
    evaluated (Arith (record { 0 = 1 }) Add (at 9 Add greatest (pos 1)) (at 5 Div (pos 1) (pos 0)))
    ≡ fault 9 Overflow
first_fault = refl

fault_of_a_test :
    evaluated (Choose (Compare Lt (at 7 Rem (pos 1) (pos 0)) (Int (pos 1))) (Int (pos 1)) (Int (pos 2)))
    ≡ fault 7 Divide
fault_of_a_test = refl

-- ---- arithmetic of 64 bits

truncates : evaluated (at 1 Div (pos 7) (negsuc 1)) ≡ number (negsuc 2)
truncates = refl

truncates_a_negative : evaluated (at 1 Div (negsuc 6) (pos 2)) ≡ number (negsuc 2)
truncates_a_negative = refl

sign_of_the_dividend : evaluated (at 1 Rem (negsuc 6) (pos 2)) ≡ number (negsuc 0)
sign_of_the_dividend = refl

sign_of_the_divisor_is_not : evaluated (at 1 Rem (pos 7) (negsuc 1)) ≡ number (pos 1)
sign_of_the_divisor_is_not = refl

least_by_minus_one : evaluated (at 4 Div least (negsuc 0)) ≡ fault 4 Overflow
least_by_minus_one = refl

remainder_of_least : evaluated (at 4 Rem least (negsuc 0)) ≡ fault 4 Overflow
remainder_of_least = refl

remainder_by_zero : evaluated (at 4 Rem least (pos 0)) ≡ fault 4 Divide
remainder_by_zero = refl

negation_overflows : evaluated (Neg (record { 0 = 6 }) (Int least)) ≡ fault 6 Overflow
negation_overflows = refl

greatest_is_reached : evaluated (at 1 Sub (negsuc 0) least) ≡ number greatest
greatest_is_reached = refl

product_overflows : evaluated (at 2 Mul (pos 4294967296) (pos 2147483648)) ≡ fault 2 Overflow
product_overflows = refl

product_reaches_least : evaluated (at 2 Mul (pos 4294967296) (negsuc 2147483647)) ≡ number least
product_reaches_least = refl

-- ---- comparisons and texts

compares_numbers :
    evaluated (And (Compare Le (Int (negsuc 0)) (Int (pos 0))) (Compare Gt (Int (pos 0)) (Int (negsuc 4))))
    ≡ flag true
compares_numbers = refl

compares_texts : evaluated (Compare Ne (Text (97 ∷ [])) (Text (97 ∷ 98 ∷ []))) ≡ flag true
compares_texts = refl

compares_truths : evaluated (Compare Eq (Flag false) (Not (Now 1))) ≡ flag true
compares_truths = refl

joins_texts :
    evaluated (Arith (record { 0 = 1 }) Add (Text (97 ∷ [])) (Text (98 ∷ [])))
    ≡ cell.Known (value.Text (97 ∷ 98 ∷ []))
joins_texts = refl

text_too_long :
    evaluated (Arith (record { 0 = 3 }) Add (Text (replicate 4000 97)) (Text (replicate 97 97)))
    ≡ fault 3 TextLong
text_too_long = refl

-- ---- combinations

abbrev some_numbers : List Value
some_numbers = value.Int (pos 2) ∷ value.Int (negsuc 4) ∷ value.Int (pos 9) ∷ []

sum_of_all : combined kind.Int (Some word.Plus) some_numbers ≡ value.Int (pos 6)
sum_of_all = refl

least_of_all : combined kind.Int (Some word.Min) some_numbers ≡ value.Int (negsuc 4)
least_of_all = refl

greatest_of_all : combined kind.Int (Some word.Max) some_numbers ≡ value.Int (pos 9)
greatest_of_all = refl

conjunction_of_all : combined kind.Bool (Some word.And) (value.Bool true ∷ value.Bool false ∷ [])
    ≡ value.Bool false
conjunction_of_all = refl

disjunction_of_all : combined kind.Bool (Some word.Or) (value.Bool true ∷ value.Bool false ∷ [])
    ≡ value.Bool true
disjunction_of_all = refl

one_is_itself : combined kind.Text None (value.Text (97 ∷ []) ∷ []) ≡ value.Text (97 ∷ [])
one_is_itself = refl

several_count_as_default : combined kind.Text None (value.Text (97 ∷ []) ∷ value.Text (98 ∷ []) ∷ [])
    ≡ value.Text []
several_count_as_default = refl

several_are_marked : is_several kind.Text None (value.Text (97 ∷ []) ∷ value.Text (98 ∷ []) ∷ []) ≡ true
several_are_marked = refl

pure_signals_are_not : is_several kind.Pure None (value.Unit ∷ value.Unit ∷ []) ≡ false
pure_signals_are_not = refl

overflow_is_marked : is_overflowed (Some word.Plus) (value.Int least ∷ value.Int (negsuc 0) ∷ []) ≡ true
overflow_is_marked = refl

overflow_counts_as_default :
    combined kind.Int (Some word.Plus) (value.Int least ∷ value.Int (negsuc 0) ∷ [])
    ≡ value.Int (pos 0)
overflow_counts_as_default = refl

greatest_does_not_overflow : is_overflowed (Some word.Max) (value.Int greatest ∷ value.Int greatest ∷ [])
    ≡ false
greatest_does_not_overflow = refl

-- What an expression gives in an environment. (This project's own.)
use Rattle.std.specs.Prelude.{ℕ, zero, Bool, true, false, not, cond, ◌&&◌, ◌==◌, nat_le, Option, Some}
use Rattle.std.specs.Prelude.{None, List, [], ◌∷◌, ◌++◌, length, slice_get, ℤ, pos, ◌+ℤ◌, ◌-ℤ◌, ◌*ℤ◌}
use Rattle.std.specs.Prelude.{int_lt, int_le, int_div, int_rem, if◌then◌else◌}
use Rattle.std.specs.Str.{bytes_eq}
use Rattle.hh_base.specs.declared.text.TheConstants.{TEXT_LIMIT}
use Rattle.hh_base.specs.declared.value.Pos.{Pos}
use Rattle.hh_base.specs.declared.value.Value.{Value}
use Rattle.hh_base.specs.declared.value.Value.TheVariants as value
use Rattle.hh_base.specs.declared.value.FaultKind.TheVariants.{Divide, Overflow, TextLong}
use Rattle.host_expr.specs.declared.expr.Op.{Op}
use Rattle.host_expr.specs.declared.expr.Op.TheVariants.{Add, Sub, Mul, Div, Rem}
use Rattle.host_expr.specs.declared.expr.Rel.{Rel}
use Rattle.host_expr.specs.declared.expr.Rel.TheVariants.{Eq, Ne, Lt, Le, Gt, Ge}
use Rattle.host_expr.specs.declared.cell.Cell.{Cell}
use Rattle.host_expr.specs.declared.cell.Cell.TheVariants as cell
use Rattle.host_expr.specs.Expression.{Expression, Int, Flag, Text, Now, Pre, NowVal, PreVal, Arg, Not}
use Rattle.host_expr.specs.Expression.{Neg, Arith, Compare, And, Or, Choose}
use Rattle.host_expr.specs.Environment.{Env, is_known, is_decided, is_present}
use Rattle.host_expr.specs.Combination.{in_range}

-- each status and value that the expression reads is known, also in a part that is not taken
abbrev pub reads_known : Expression → Env → Bool
reads_known (Int n) E = true
reads_known (Flag b) E = true
reads_known (Text t) E = true
reads_known (Now s) E = is_decided (E s).status
reads_known (Pre s) E = true
reads_known (NowVal s) E = is_known (E s).value
reads_known (PreVal s) E = true
reads_known (Arg n) E = true
reads_known (Not a) E = reads_known a E
reads_known (Neg p a) E = reads_known a E
reads_known (Arith p op a b) E = reads_known a E && reads_known b E
reads_known (Compare rel a b) E = reads_known a E && reads_known b E
reads_known (And a b) E = reads_known a E && reads_known b E
reads_known (Or a b) E = reads_known a E && reads_known b E
reads_known (Choose a b c) E = reads_known a E && reads_known b E && reads_known c E

-- goes on with a value; a fault stays
abbrev pub then_with : Cell → (Value → Cell) → Cell
then_with (cell.Known v) f = f v
then_with (cell.Faulted p k) f = cell.Faulted p k
then_with cell.Unknown f = cell.Unknown

abbrev pub truth : Value → Bool
truth (value.Bool b) = b
truth _ = false

-- a whole number within 64 bits, or the fault at the operator
abbrev pub number_at : Pos → ℤ → Cell
number_at p z = if in_range z then cell.Known (value.Int z) else cell.Faulted p Overflow

abbrev pub is_zero : ℤ → Bool
is_zero (pos zero) = true
is_zero _ = false

-- two numbers; division truncates toward zero, the remainder has the sign of the dividend and overflows
-- where the quotient does
abbrev pub calculated : Pos → Op → ℤ → ℤ → Cell
calculated p Add x y = number_at p (x +ℤ y)
calculated p Sub x y = number_at p (x -ℤ y)
calculated p Mul x y = number_at p (x *ℤ y)
calculated p Div x y = if is_zero y then cell.Faulted p Divide else number_at p (int_div x y)
calculated p Rem x y =
    if is_zero y then cell.Faulted p Divide
    else (if in_range (int_div x y) then cell.Known (value.Int (int_rem x y))
    else cell.Faulted p Overflow)

-- two texts; `+` joins them, and no other operator takes any
abbrev pub joined : Pos → Op → List ℕ → List ℕ → Cell
joined p Add s t =
    if nat_le (length (s ++ t)) TEXT_LIMIT then cell.Known (value.Text (s ++ t))
    else cell.Faulted p TextLong
joined p _ s t = cell.Unknown

abbrev pub arith : Pos → Op → Value → Value → Cell
arith p op (value.Int x) (value.Int y) = calculated p op x y
arith p op (value.Text s) (value.Text t) = joined p op s t
arith p op _ _ = cell.Unknown

abbrev pub same_truth : Bool → Bool → Bool
same_truth true b = b
same_truth false b = not b

abbrev pub same_value : Value → Value → Bool
same_value value.Unit value.Unit = true
same_value (value.Int x) (value.Int y) = int_le x y && int_le y x
same_value (value.Bool x) (value.Bool y) = same_truth x y
same_value (value.Text x) (value.Text y) = bytes_eq x y
same_value _ _ = false

-- whole numbers in order; other values only as equal or not
abbrev pub is_before : Value → Value → Bool
is_before (value.Int x) (value.Int y) = int_lt x y
is_before _ _ = false

abbrev pub compared : Rel → Value → Value → Bool
compared Eq v w = same_value v w
compared Ne v w = not (same_value v w)
compared Lt v w = is_before v w
compared Le v w = not (is_before w v)
compared Gt v w = is_before w v
compared Ge v w = not (is_before v w)

abbrev pub negated : Pos → Value → Cell
negated p (value.Int x) = number_at p (pos 0 -ℤ x)
negated p _ = cell.Unknown

abbrev pub argument : Option Value → Cell
argument (Some v) = cell.Known v
argument None = cell.Unknown

-- from left to right, up to the first fault; `&&`, `||` and `? :` skip the part that is not taken
abbrev pub run : Expression → Env → List Value → Cell
run (Int n) E args = cell.Known (value.Int n)
run (Flag b) E args = cell.Known (value.Bool b)
run (Text t) E args = cell.Known (value.Text t)
run (Now s) E args = cell.Known (value.Bool (is_present (E s).status))
run (Pre s) E args = cell.Known (value.Bool (E s).pre)
run (NowVal s) E args = (E s).value
run (PreVal s) E args = cell.Known (E s).preval
run (Arg n) E args = argument (slice_get args n)
run (Not a) E args = then_with (run a E args) (λ v. cell.Known (value.Bool (not (truth v))))
run (Neg p a) E args = then_with (run a E args) (negated p)
run (Arith p op a b) E args = then_with (run a E args) (λ v. then_with (run b E args) (arith p op v))
run (Compare rel a b) E args =
    then_with (run a E args)
    (λ v. then_with (run b E args) (λ w. cell.Known (value.Bool (compared rel v w))))
run (And a b) E args =
    then_with (run a E args) (λ v. cond (truth v) (run b E args) (cell.Known (value.Bool false)))
run (Or a b) E args =
    then_with (run a E args) (λ v. cond (truth v) (cell.Known (value.Bool true)) (run b E args))
run (Choose a b c) E args = then_with (run a E args) (λ v. cond (truth v) (run b E args) (run c E args))

-- unknown exactly where something that it reads is unknown; else the value or the first fault
abbrev pub eval_of : Expression → Env → List Value → Cell
eval_of e E args = cond (reads_known e E) (run e E args) cell.Unknown

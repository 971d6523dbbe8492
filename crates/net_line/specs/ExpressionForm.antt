-- What the form of a line asks of an expression: numbers of 32 bits and literals that can be written. (This
-- project's own.)
use Rattle.std.specs.Prelude.{◌≡◌, ℕ, ◌≤◌, true}
use Rattle.hh_base.specs.declared.value.Value.TheVariants as value
use Rattle.host_expr.specs.declared.expr.Expr.{Expr}
use Rattle.host_expr.specs.declared.expr.TheConstants.{EXPRESSION_LIMIT}
use Rattle.host_expr.specs.Expression.{Expression, Int, Flag, Text, Now, Pre, NowVal, PreVal, Arg, Not, Neg}
use Rattle.host_expr.specs.Expression.{Arith, Compare, And, Or, Choose}
use Rattle.net_line.specs.Formed.{IsSmall, IsLiteralForm}

abbrev pub IsExpressionForm : Expression → Type 0
IsExpressionForm (Int z) = IsLiteralForm (value.Int z)
IsExpressionForm (Flag b) = Unit {0}
IsExpressionForm (Text t) = IsLiteralForm (value.Text t)
IsExpressionForm (Now s) = IsSmall s
IsExpressionForm (Pre s) = IsSmall s
IsExpressionForm (NowVal s) = IsSmall s
IsExpressionForm (PreVal s) = IsSmall s
IsExpressionForm (Arg n) = IsSmall n
IsExpressionForm (Not a) = IsExpressionForm a
IsExpressionForm (Neg p a) = IsSmall p.0 × IsExpressionForm a
IsExpressionForm (Arith p op a b) = IsSmall p.0 × IsExpressionForm a × IsExpressionForm b
IsExpressionForm (Compare rel a b) = IsExpressionForm a × IsExpressionForm b
IsExpressionForm (And a b) = IsExpressionForm a × IsExpressionForm b
IsExpressionForm (Or a b) = IsExpressionForm a × IsExpressionForm b
IsExpressionForm (Choose a b c) = IsExpressionForm a × IsExpressionForm b × IsExpressionForm c

-- Expressions and async sites whose signals have other numbers. (This project's own.)
use Rattle.std.specs.Prelude.{ℕ, Option, Some, None, List, map, option_map, slice_get}
use Rattle.host_expr.specs.declared.expr.Expr.{Expr, roll-Expr}
use Rattle.host_expr.specs.declared.expr.ExprNode.{ExprNode, roll-ExprNode}
use Rattle.host_expr.specs.declared.expr.ExprNode.TheOpen as e
use Rattle.host_expr.specs.declared.expr.ExprNode.TheFolds.{fold-Expr, fold-ExprNode}
use Rattle.host_expr.specs.Expression.{Expression, Int, Flag, Text, Now, Pre, NowVal, PreVal, Arg, Not, Neg}
use Rattle.host_expr.specs.Expression.{Arith, Compare, And, Or, Choose}
use Rattle.hh_term.specs.Kernel.{AsyncSite}

-- signal s has the number f s
abbrev pub renamed : (ℕ → ℕ) → Expression → Expression
renamed f (Int n) = Int n
renamed f (Flag b) = Flag b
renamed f (Text t) = Text t
renamed f (Now s) = Now (f s)
renamed f (Pre s) = Pre (f s)
renamed f (NowVal s) = NowVal (f s)
renamed f (PreVal s) = PreVal (f s)
renamed f (Arg n) = Arg n
renamed f (Not a) = Not (renamed f a)
renamed f (Neg p a) = Neg p (renamed f a)
renamed f (Arith p op a b) = Arith p op (renamed f a) (renamed f b)
renamed f (Compare rel a b) = Compare rel (renamed f a) (renamed f b)
renamed f (And a b) = And (renamed f a) (renamed f b)
renamed f (Or a b) = Or (renamed f a) (renamed f b)
renamed f (Choose a b c) = Choose (renamed f a) (renamed f b) (renamed f c)

abbrev pub renamed_site : (ℕ → ℕ) → AsyncSite → AsyncSite
renamed_site f a = record a { signal = option_map f a.signal; args = map (renamed f) a.args }

-- the same of an expression of the code, by one layer
abbrev pub renamed_layer : {A B : Type 0} → (ℕ → ℕ) → e.ExprNode-F ℕ A B → e.ExprNode-F ℕ A B
renamed_layer f (e.Now s) = e.Now (f s)
renamed_layer f (e.Pre s) = e.Pre (f s)
renamed_layer f (e.NowVal s) = e.NowVal (f s)
renamed_layer f (e.PreVal s) = e.PreVal (f s)
renamed_layer f x = x

unfoldable pub renamed_expr : (ℕ → ℕ) → Expr ℕ → Expr ℕ
renamed_expr f = fold-Expr ℕ (ExprNode ℕ) (Expr ℕ) (λ x. roll-ExprNode ℕ (renamed_layer f x))
    (λ x. roll-Expr ℕ x)

unfoldable pub renamed_node : (ℕ → ℕ) → ExprNode ℕ → ExprNode ℕ
renamed_node f = fold-ExprNode ℕ (ExprNode ℕ) (Expr ℕ) (λ x. roll-ExprNode ℕ (renamed_layer f x))
    (λ x. roll-Expr ℕ x)

-- the numbers of the signals by the list of all; one that is not in the list keeps its own
abbrev pub number_or : ℕ → Option ℕ → ℕ
number_or s (Some n) = n
number_or s None = s

abbrev pub numbers_in : List ℕ → ℕ → ℕ
numbers_in numbers s = number_or s (slice_get numbers s)

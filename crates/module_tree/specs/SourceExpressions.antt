-- What an outermost expression of a module text keeps: its words, its size and its nesting. This project's
-- own.
use Rattle.std.specs.Prelude.{ℕ, suc, ◌+◌, ◌&&◌, Bool, true, List, nat_le, max}
use Rattle.host_expr.specs.declared.expr.Expr.{Expr}
use Rattle.host_expr.specs.declared.expr.ExprNode.TheOpen as e
use Rattle.host_expr.specs.declared.expr.ExprNode.TheFolds.{fold-Expr}
use Rattle.host_expr.specs.declared.expr.TheConstants.{EXPRESSION_LIMIT}
use Rattle.module_tree.specs.Parentheses.{levelled}
use Rattle.module_tree.specs.SourceWords.{is_written_name, is_written_number, is_written_text}

-- by one layer, with what its parts gave in their places: whether a text can write its names, numbers and
-- texts
abbrev pub words_step : e.ExprNode-F (List ℕ) Bool Bool → Bool
words_step (e.Int n) = is_written_number n
words_step (e.Bool b) = true
words_step (e.Text t) = is_written_text t
words_step (e.Now n) = is_written_name n
words_step (e.Pre n) = is_written_name n
words_step (e.NowVal n) = is_written_name n
words_step (e.PreVal n) = is_written_name n
words_step (e.Arg n) = is_written_name n
words_step (e.Not a) = a
words_step (e.Neg a) = a
words_step (e.Arith op a b) = a && b
words_step (e.Compare rel a b) = a && b
words_step (e.And a b) = a && b
words_step (e.Or a b) = a && b
words_step (e.Choose a b c) = a && b && c

abbrev pub has_written_words : Expr (List ℕ) → Bool
has_written_words = fold-Expr (List ℕ) Bool Bool words_step (λ x. x.node)

abbrev pub size_step : e.ExprNode-F (List ℕ) ℕ ℕ → ℕ
size_step (e.Not a) = 1 + a
size_step (e.Neg a) = 1 + a
size_step (e.Arith op a b) = 1 + a + b
size_step (e.Compare rel a b) = 1 + a + b
size_step (e.And a b) = 1 + a + b
size_step (e.Or a b) = 1 + a + b
size_step (e.Choose a b c) = 1 + a + b + c
size_step _ = 1

-- how many leaves and operators it has
abbrev pub size_of : Expr (List ℕ) → ℕ
size_of = fold-Expr (List ℕ) ℕ ℕ size_step (λ x. x.node)

-- what is open at once in a node, given that in its operands as they stand in the text
abbrev pub nesting_step : e.ExprNode-F (List ℕ) ℕ ℕ → ℕ
nesting_step (e.Not a) = a
nesting_step (e.Neg a) = a
nesting_step (e.Arith op a b) = max a b
nesting_step (e.Compare rel a b) = max a b
nesting_step (e.And a b) = max a b
nesting_step (e.Or a b) = max a b
nesting_step (e.Choose a b c) = max a (max b c)
nesting_step _ = 0

-- how many parentheses are open at once in it, where only those are written that it needs
abbrev pub nesting_of : Expr (List ℕ) → ℕ
nesting_of x = (levelled suc nesting_step x).value

-- an outermost expression that a text can write, but for its nesting
abbrev pub is_written_expression : Expr (List ℕ) → Bool
is_written_expression x = has_written_words x && nat_le (size_of x) EXPRESSION_LIMIT

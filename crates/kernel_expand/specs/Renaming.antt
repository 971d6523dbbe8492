-- An expression with its signals replaced. (This project's own.)
use Rattle.std.specs.Prelude.{ℕ}
use Rattle.host_expr.specs.declared.expr.Expr.{Expr, roll-Expr}
use Rattle.host_expr.specs.declared.expr.ExprNode.{ExprNode, roll-ExprNode}
use Rattle.host_expr.specs.declared.expr.ExprNode.TheOpen as e
use Rattle.host_expr.specs.declared.expr.ExprNode.TheFolds.{fold-Expr}

-- by one layer
abbrev pub replace_step : {A B : Type 0} → (ℕ → ℕ) → e.ExprNode-F ℕ A B → e.ExprNode-F ℕ A B
replace_step f (e.Now s) = e.Now (f s)
replace_step f (e.Pre s) = e.Pre (f s)
replace_step f (e.NowVal s) = e.NowVal (f s)
replace_step f (e.PreVal s) = e.PreVal (f s)
replace_step f x = x

unfoldable pub renamed : (ℕ → ℕ) → Expr ℕ → Expr ℕ
renamed f = fold-Expr ℕ (ExprNode ℕ) (Expr ℕ) (λ x. roll-ExprNode ℕ (replace_step f x)) (λ x. roll-Expr ℕ x)

-- A node of an expression with its signals replaced. (This project's own.)
use Rattle.std.specs.Prelude.{ℕ}
use Rattle.host_expr.specs.declared.expr.Expr.{Expr, roll-Expr}
use Rattle.host_expr.specs.declared.expr.ExprNode.{ExprNode, roll-ExprNode}
use Rattle.host_expr.specs.declared.expr.ExprNode.TheFolds.{fold-ExprNode}
use Rattle.kernel_expand.specs.Renaming.{replace_step}

unfoldable pub renamed_node : (ℕ → ℕ) → ExprNode ℕ → ExprNode ℕ
renamed_node f = fold-ExprNode ℕ (ExprNode ℕ) (Expr ℕ) (λ x. roll-ExprNode ℕ (replace_step f x))
    (λ x. roll-Expr ℕ x)

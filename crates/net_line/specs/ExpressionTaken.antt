-- What the reading of an expression promises. (This project's own.)
use Rattle.std.specs.Prelude.{◌≡◌, ℕ, ◌+◌, ◌≤◌, List, ◌++◌, Result, Ok, Err}
use Rattle.host_expr.specs.declared.expr.Expr.{Expr}
use Rattle.host_expr.specs.Expression.{Expression, expression_of}
use Rattle.host_expr.specs.Measures.{leaves_and_operators}
use Rattle.net_text.specs.ExpressionText.{expression_text}
use Rattle.net_line.specs.declared.fault.LineFault.{LineFault}
use Rattle.net_line.specs.declared.fault.LineFault.TheVariants.{Formless}
use Rattle.net_line.specs.ExpressionForm.{IsExpressionForm}
use Rattle.net_line.specs.Reading.{Ends}

-- the text begins with this tree, which has its form and at most so many leaves and operators
pub record BeginsWith (size : ℕ) (text : List ℕ) (x : Expression) (left : List ℕ) : Type 0 where
  pub whole : text ≡ expression_text x ++ left
  pub form : IsExpressionForm x
  pub small : leaves_and_operators x ≤ size
  pub ended : Ends left

-- the text begins with this expression, of whose room so much is left, and with no other one
pub record IsExpressionTaken (size : ℕ) (text : List ℕ) (e : Expr ℕ) (room : ℕ) (left : List ℕ) : Type 0 where
  pub whole : text ≡ expression_text (expression_of e) ++ left
  pub form : IsExpressionForm (expression_of e)
  pub counted : room + leaves_and_operators (expression_of e) ≡ size
  pub only : (x : Expression) (rest : List ℕ) → BeginsWith size text x rest → (x ≡ expression_of e) × (rest
      ≡ left)

abbrev pub TakesExpression : ℕ → List ℕ → Result (Expr ℕ × ℕ) LineFault → List ℕ → Type 0
TakesExpression size text (Ok e) left = IsExpressionTaken size text e.0 e.1 left
TakesExpression size text (Err fault) left =
    fault ≡ Formless → (x : Expression) (rest : List ℕ) → BeginsWith size text x rest → ⊥

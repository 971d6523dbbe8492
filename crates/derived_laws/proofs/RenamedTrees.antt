-- What replaces the signals of the text's expressions replaces those of what they mean.
use Rattle.std.proofs.Common.{◌≡◌, ℕ, refl, sym, ap, subst, ◌∙◌}
use Rattle.hh_base.specs.declared.value.Pos.{Pos}
use Rattle.host_expr.specs.declared.expr.Expr.{Expr, roll-Expr}
use Rattle.host_expr.specs.declared.expr.ExprNode.{ExprNode, roll-ExprNode}
use Rattle.host_expr.specs.declared.expr.ExprNode.TheOpen as e
use Rattle.host_expr.specs.declared.expr.ExprNode.TheFolds.{fold-ExprNode, fold-roll-Expr, fold-roll-ExprNode}
use Rattle.host_expr.specs.declared.expr.ExprNode.TheFolds.{ind-Expr, map-ExprNode, map-Expr}
use Rattle.host_expr.specs.Expression.{Expression, Not, Neg, Arith, Compare, And, Or, Choose}
use Rattle.host_expr.specs.Expression.{node_expression, expression_at, expression_of}
use Rattle.kernel_expand.specs.Renaming.{replace_step, renamed}
use Rattle.derived_laws.specs.Replacements.{expression_with}

abbrev Layer : Type 0
Layer = e.ExprNode-F ℕ (ExprNode ℕ) (Expr ℕ)

module _ (f : ℕ → ℕ) where
  of_node : ExprNode ℕ → Pos → Expression
  of_node = fold-ExprNode ℕ (Pos → Expression) Expression node_expression expression_at

  renamed_node : ExprNode ℕ → ExprNode ℕ
  renamed_node = fold-ExprNode ℕ (ExprNode ℕ) (Expr ℕ) (λ x. roll-ExprNode ℕ (replace_step f x))
      (λ x. roll-Expr ℕ x)

  abbrev IsReplaced : Expr ℕ → Type 0
  IsReplaced x = expression_of (renamed f x) ≡ expression_with f (expression_of x)

  abbrev IsReplacedNode : ExprNode ℕ → Type 0
  IsReplacedNode x = (p : Pos) → of_node (renamed_node x) p ≡ expression_with f (of_node x p)

  abbrev Node : Type 0
  Node = (x : ExprNode ℕ) × IsReplacedNode x

  abbrev Part : Type 0
  Part = (x : Expr ℕ) × IsReplaced x

  expressions_in : Layer → e.ExprNode-F ℕ (Pos → Expression) Expression
  expressions_in = map-ExprNode ℕ (ExprNode ℕ) (Expr ℕ) (Pos → Expression) Expression of_node expression_of

  renamed_in : Layer → Layer
  renamed_in = map-ExprNode ℕ (ExprNode ℕ) (Expr ℕ) (ExprNode ℕ) (Expr ℕ) renamed_node (renamed f)

  by_layer : (y : Layer) → ((p : Pos) → node_expression (expressions_in (replace_step f (renamed_in y))) p
      ≡ expression_with f (node_expression (expressions_in y) p)) → IsReplacedNode (roll-ExprNode ℕ y)
  unfolding of_node renamed_node expressions_in renamed_in renamed
  by_layer y h p =
      ap (λ z. of_node z p) (fold-roll-ExprNode ℕ (ExprNode ℕ) (Expr ℕ)
      (λ x. roll-ExprNode ℕ (replace_step f x)) (λ x. roll-Expr ℕ x) y)
      ∙ ap (λ (z : Pos → Expression). z p)
      (fold-roll-ExprNode ℕ (Pos → Expression) Expression node_expression expression_at
      (replace_step f (renamed_in y)))
      ∙ h p
      ∙ sym (ap (λ (z : Pos → Expression). expression_with f (z p))
      (fold-roll-ExprNode ℕ (Pos → Expression) Expression node_expression expression_at y))

  node_replaced : (y : e.ExprNode-F ℕ Node Part) → IsReplacedNode
      (roll-ExprNode ℕ (map-ExprNode ℕ Node Part (ExprNode ℕ) (Expr ℕ) (λ n. n.0) (λ n. n.0) y))
  unfolding expressions_in renamed_in
  node_replaced (e.Int n) = by_layer (e.Int n) (λ p. refl)
  node_replaced (e.Bool b) = by_layer (e.Bool b) (λ p. refl)
  node_replaced (e.Text t) = by_layer (e.Text t) (λ p. refl)
  node_replaced (e.Now s) = by_layer (e.Now s) (λ p. refl)
  node_replaced (e.Pre s) = by_layer (e.Pre s) (λ p. refl)
  node_replaced (e.NowVal s) = by_layer (e.NowVal s) (λ p. refl)
  node_replaced (e.PreVal s) = by_layer (e.PreVal s) (λ p. refl)
  node_replaced (e.Arg s) = by_layer (e.Arg s) (λ p. refl)
  node_replaced (e.Not a) = by_layer (e.Not a.0) (λ p i. Not (a.1 i))
  node_replaced (e.Neg a) = by_layer (e.Neg a.0) (λ p i. Neg p (a.1 i))
  node_replaced (e.Arith op a b) = by_layer (e.Arith op a.0 b.0) (λ p i. Arith p op (a.1 i) (b.1 i))
  node_replaced (e.Compare rel a b) = by_layer (e.Compare rel a.0 b.0) (λ p i. Compare rel (a.1 i) (b.1 i))
  node_replaced (e.And a b) = by_layer (e.And a.0 b.0) (λ p i. And (a.1 i) (b.1 i))
  node_replaced (e.Or a b) = by_layer (e.Or a.0 b.0) (λ p i. Or (a.1 i) (b.1 i))
  node_replaced (e.Choose a b c) = by_layer (e.Choose a.0 b.0 c.0) (λ p i. Choose (a.1 i) (b.1 i) (c.1 i))

  part_replaced : (y : e.Expr-F ℕ Node Part) → IsReplaced (roll-Expr ℕ
      (map-Expr ℕ Node Part (ExprNode ℕ) (Expr ℕ) (λ n. n.0) (λ n. n.0) y))
  unfolding of_node renamed_node renamed
  part_replaced y =
      let x : e.Expr-F ℕ (ExprNode ℕ) (Expr ℕ) = record { pos = y.pos; node = y.node.0 } in
      ap expression_of (fold-roll-Expr ℕ (ExprNode ℕ) (Expr ℕ) (λ x. roll-ExprNode ℕ (replace_step f x))
      (λ x. roll-Expr ℕ x) x)
      ∙ fold-roll-Expr ℕ (Pos → Expression) Expression node_expression expression_at
      (record { pos = y.pos; node = renamed_node y.node.0 })
      ∙ y.node.1 y.pos
      ∙ sym (ap (expression_with f) (fold-roll-Expr ℕ (Pos → Expression) Expression node_expression expression_at x))

  pub is_replaced : (x : Expr ℕ) → expression_of (renamed f x) ≡ expression_with f (expression_of x)
  is_replaced =
      ind-Expr ℕ IsReplacedNode IsReplaced
      (λ x y is. subst (λ (z : Layer). IsReplacedNode (roll-ExprNode ℕ z)) is (node_replaced y))
      (λ x y is. subst (λ (z : e.Expr-F ℕ (ExprNode ℕ) (Expr ℕ)). IsReplaced (roll-Expr ℕ z)) is
      (part_replaced y))

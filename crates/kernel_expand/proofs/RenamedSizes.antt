-- Replacing signals changes no size.
use Rattle.std.proofs.Common.{◌≡◌, ℕ, ◌+◌, List, [], ◌∷◌, map, refl, sym, ap, subst, ◌∙◌}
use Rattle.std.specs.Prelude.{sum_by}
use Rattle.std.specs.List.{fold}
use Rattle.hh_base.specs.declared.value.Pos.{Pos}
use Rattle.host_expr.specs.declared.expr.Expr.{Expr, roll-Expr}
use Rattle.host_expr.specs.declared.expr.ExprNode.{ExprNode, roll-ExprNode}
use Rattle.host_expr.specs.declared.expr.ExprNode.TheOpen as e
use Rattle.host_expr.specs.declared.expr.ExprNode.TheFolds.{fold-ExprNode, fold-roll-Expr, fold-roll-ExprNode}
use Rattle.host_expr.specs.declared.expr.ExprNode.TheFolds.{ind-Expr, map-ExprNode, map-Expr}
use Rattle.host_expr.specs.Expression.{Expression, node_expression, expression_at, expression_of}
use Rattle.host_expr.specs.Measures.{size_of_expression}
use Rattle.module_tree.specs.declared.source.ExprAt.{ExprAt}
use Rattle.kernel_expand.specs.Renaming.{replace_step, renamed}

abbrev Layer : Type 0
Layer = e.ExprNode-F ℕ (ExprNode ℕ) (Expr ℕ)

module _ (f : ℕ → ℕ) where
  of_node : ExprNode ℕ → Pos → Expression
  of_node = fold-ExprNode ℕ (Pos → Expression) Expression node_expression expression_at

  renamed_node : ExprNode ℕ → ExprNode ℕ
  renamed_node = fold-ExprNode ℕ (ExprNode ℕ) (Expr ℕ) (λ x. roll-ExprNode ℕ (replace_step f x))
      (λ x. roll-Expr ℕ x)

  abbrev IsSame : Expr ℕ → Type 0
  IsSame x = size_of_expression (expression_of (renamed f x)) ≡ size_of_expression (expression_of x)

  abbrev IsSameNode : ExprNode ℕ → Type 0
  IsSameNode x = (p : Pos) → size_of_expression (of_node (renamed_node x) p) ≡ size_of_expression
      (of_node x p)

  abbrev Node : Type 0
  Node = (x : ExprNode ℕ) × IsSameNode x

  abbrev Part : Type 0
  Part = (x : Expr ℕ) × IsSame x

  expressions_in : Layer → e.ExprNode-F ℕ (Pos → Expression) Expression
  expressions_in = map-ExprNode ℕ (ExprNode ℕ) (Expr ℕ) (Pos → Expression) Expression of_node expression_of

  renamed_in : Layer → Layer
  renamed_in = map-ExprNode ℕ (ExprNode ℕ) (Expr ℕ) (ExprNode ℕ) (Expr ℕ) renamed_node (renamed f)

  by_layer : (y : Layer) → ((p : Pos) → size_of_expression
      (node_expression (expressions_in (replace_step f (renamed_in y))) p) ≡ size_of_expression
      (node_expression (expressions_in y) p)) → IsSameNode (roll-ExprNode ℕ y)
  unfolding of_node renamed_node expressions_in renamed_in renamed
  by_layer y h p =
      ap (λ z. size_of_expression (of_node z p)) (fold-roll-ExprNode ℕ (ExprNode ℕ) (Expr ℕ)
      (λ x. roll-ExprNode ℕ (replace_step f x)) (λ x. roll-Expr ℕ x) y)
      ∙ ap (λ (z : Pos → Expression). size_of_expression (z p))
      (fold-roll-ExprNode ℕ (Pos → Expression) Expression node_expression expression_at
      (replace_step f (renamed_in y)))
      ∙ h p
      ∙ sym (ap (λ (z : Pos → Expression). size_of_expression (z p))
      (fold-roll-ExprNode ℕ (Pos → Expression) Expression node_expression expression_at y))

  node_same : (y : e.ExprNode-F ℕ Node Part) → IsSameNode
      (roll-ExprNode ℕ (map-ExprNode ℕ Node Part (ExprNode ℕ) (Expr ℕ) (λ n. n.0) (λ n. n.0) y))
  unfolding expressions_in renamed_in
  node_same (e.Int n) = by_layer (e.Int n) (λ p. refl)
  node_same (e.Bool b) = by_layer (e.Bool b) (λ p. refl)
  node_same (e.Text t) = by_layer (e.Text t) (λ p. refl)
  node_same (e.Now s) = by_layer (e.Now s) (λ p. refl)
  node_same (e.Pre s) = by_layer (e.Pre s) (λ p. refl)
  node_same (e.NowVal s) = by_layer (e.NowVal s) (λ p. refl)
  node_same (e.PreVal s) = by_layer (e.PreVal s) (λ p. refl)
  node_same (e.Arg s) = by_layer (e.Arg s) (λ p. refl)
  node_same (e.Not a) = by_layer (e.Not a.0) (λ p. ap (λ n. 1 + n) a.1)
  node_same (e.Neg a) = by_layer (e.Neg a.0) (λ p. ap (λ n. 1 + n) a.1)
  node_same (e.Arith op a b) = by_layer (e.Arith op a.0 b.0) (λ p i. 1 + a.1 i + b.1 i)
  node_same (e.Compare rel a b) = by_layer (e.Compare rel a.0 b.0) (λ p i. 1 + a.1 i + b.1 i)
  node_same (e.And a b) = by_layer (e.And a.0 b.0) (λ p i. 1 + a.1 i + b.1 i)
  node_same (e.Or a b) = by_layer (e.Or a.0 b.0) (λ p i. 1 + a.1 i + b.1 i)
  node_same (e.Choose a b c) = by_layer (e.Choose a.0 b.0 c.0) (λ p i. 1 + a.1 i + b.1 i + c.1 i)

  part_same : (y : e.Expr-F ℕ Node Part) → IsSame (roll-Expr ℕ
      (map-Expr ℕ Node Part (ExprNode ℕ) (Expr ℕ) (λ n. n.0) (λ n. n.0) y))
  unfolding of_node renamed_node renamed
  part_same y =
      let x : e.Expr-F ℕ (ExprNode ℕ) (Expr ℕ) = record { pos = y.pos; node = y.node.0 } in
      ap (λ z. size_of_expression (expression_of z))
      (fold-roll-Expr ℕ (ExprNode ℕ) (Expr ℕ) (λ x. roll-ExprNode ℕ (replace_step f x))
      (λ x. roll-Expr ℕ x) x)
      ∙ ap size_of_expression (fold-roll-Expr ℕ (Pos → Expression) Expression node_expression expression_at
      (record { pos = y.pos; node = renamed_node y.node.0 }))
      ∙ y.node.1 y.pos
      ∙ sym (ap size_of_expression (fold-roll-Expr ℕ (Pos → Expression) Expression node_expression
      expression_at x))

  pub same_size : (x : Expr ℕ) → size_of_expression (expression_of (renamed f x)) ≡ size_of_expression
      (expression_of x)
  same_size =
      ind-Expr ℕ IsSameNode IsSame
      (λ x y is. subst (λ (z : Layer). IsSameNode (roll-ExprNode ℕ z)) is (node_same y))
      (λ x y is. subst (λ (z : e.Expr-F ℕ (ExprNode ℕ) (Expr ℕ)). IsSame (roll-Expr ℕ z)) is (part_same y))

  same_fold : (xs : List (ExprAt ℕ)) (m n : ℕ) → m ≡ n
      → fold (λ (a : ℕ) (x : Expression). a + size_of_expression x) m
      (map (λ (x : ExprAt ℕ). expression_of (renamed f x.expr)) xs) ≡ fold
      (λ (a : ℕ) (x : ExprAt ℕ). a + size_of_expression (expression_of x.expr)) n xs
  same_fold [] m n e = e
  same_fold (x ∷ xs) m n e = same_fold xs (m + size_of_expression (expression_of (renamed f x.expr)))
      (n + size_of_expression (expression_of x.expr)) (λ i. e i + same_size x.expr i)

  pub same_arguments : (xs : List (ExprAt ℕ)) → sum_by size_of_expression
      (map (λ (x : ExprAt ℕ). expression_of (renamed f x.expr)) xs) ≡ sum_by
      (λ (x : ExprAt ℕ). size_of_expression (expression_of x.expr)) xs
  same_arguments xs = same_fold xs 0 0 refl

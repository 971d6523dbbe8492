-- What a recursion over a tree makes of one node: a step on what it makes of the node's parts.
use Rattle.std.proofs.Common.{◌≡◌, ℕ, sym, ap, ◌∙◌}
use Rattle.host_expr.specs.declared.expr.Expr.{Expr}
use Rattle.host_expr.specs.declared.expr.ExprNode.{ExprNode, roll-ExprNode}
use Rattle.host_expr.specs.declared.expr.ExprNode.TheOpen as e
use Rattle.host_expr.specs.declared.expr.ExprNode.TheFolds.{fold-Expr, fold-ExprNode, fold-roll-Expr, fold-roll-ExprNode, map-ExprNode}
use Rattle.expression_reader.specs.Trees.{Name, node, pos_at}

module _ {A : Type 0} (step : e.ExprNode-F Name A A → A) where
  abbrev pub of_expr : Expr Name → A
  of_expr = fold-Expr Name A A step (λ x. x.node)

  abbrev of_node : ExprNode Name → A
  of_node = fold-ExprNode Name A A step (λ x. x.node)

  -- the node's parts, with what the recursion makes of them in their places
  abbrev pub of_parts : e.ExprNode-F Name (ExprNode Name) (Expr Name) → e.ExprNode-F Name A A
  of_parts = map-ExprNode Name (ExprNode Name) (Expr Name) A A of_node of_expr

  pub expr_layer : (n : ℕ) (parts : e.ExprNode-F Name (ExprNode Name) (Expr Name)) {x : ExprNode Name}
      → roll-ExprNode Name parts ≡ x → of_expr (node n x) ≡ step (of_parts parts)
  expr_layer n parts {x} rolls = fold-roll-Expr Name A A step (λ x. x.node)
      (record { pos = pos_at n; node = x }) ∙ ap of_node (sym rolls)
      ∙ fold-roll-ExprNode Name A A step (λ x. x.node) parts

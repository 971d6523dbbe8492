-- The tree of an expression of the code, node by node.
use Rattle.std.proofs.Common.{◌≡◌, ℕ, Bool, List, sym, ap, ◌∙◌}
use Rattle.std.specs.Prelude.{ℤ}
use Rattle.hh_base.specs.declared.value.Pos.{Pos}
use Rattle.host_expr.specs.declared.expr.Op.{Op}
use Rattle.host_expr.specs.declared.expr.Rel.{Rel}
use Rattle.host_expr.specs.declared.expr.Expr.{Expr, roll-Expr}
use Rattle.host_expr.specs.declared.expr.ExprNode.{ExprNode}
use Rattle.host_expr.specs.declared.expr.ExprNode.TheVariants as node
use Rattle.host_expr.specs.declared.expr.ExprNode.TheOpen as layer
use Rattle.host_expr.specs.declared.expr.ExprNode.TheFolds.{fold-ExprNode, fold-roll-Expr, fold-roll-ExprNode}
use Rattle.host_expr.specs.Expression.{Expression, Int, Flag, Text, Now, Pre, NowVal, PreVal, Arg, Not}
use Rattle.host_expr.specs.Expression.{Neg, Arith, Compare, And, Or, Choose, node_expression}
use Rattle.host_expr.specs.Expression.{expression_at, expression_of}

-- an expression with this node at this position
abbrev pub expr : Pos → ExprNode ℕ → Expr ℕ
expr p x = roll-Expr ℕ (record { pos = p; node = x })

unfoldable pub of_node : ExprNode ℕ → Pos → Expression
of_node = fold-ExprNode ℕ (Pos → Expression) Expression node_expression expression_at

at_node : (p : Pos) (x : ExprNode ℕ) → expression_of (expr p x) ≡ of_node x p
unfolding of_node
at_node p x =
    fold-roll-Expr ℕ (Pos → Expression) Expression node_expression expression_at
    (record { pos = p; node = x })

pub expr-Int : (p : Pos) (z : ℤ) → expression_of (expr p (node.Int z)) ≡ Int z
unfolding of_node
expr-Int p z =
    at_node p (node.Int z) ∙ ap (λ x. of_node x p) (sym (node.rolls-Int z))
    ∙ ap (λ (g : Pos → Expression). g p)
    (fold-roll-ExprNode ℕ (Pos → Expression) Expression node_expression expression_at (layer.Int z))

pub expr-Bool : (p : Pos) (b : Bool) → expression_of (expr p (node.Bool b)) ≡ Flag b
unfolding of_node
expr-Bool p b =
    at_node p (node.Bool b) ∙ ap (λ x. of_node x p) (sym (node.rolls-Bool b))
    ∙ ap (λ (g : Pos → Expression). g p)
    (fold-roll-ExprNode ℕ (Pos → Expression) Expression node_expression expression_at (layer.Bool b))

pub expr-Text : (p : Pos) (t : List ℕ) → expression_of (expr p (node.Text t)) ≡ Text t
unfolding of_node
expr-Text p t =
    at_node p (node.Text t) ∙ ap (λ x. of_node x p) (sym (node.rolls-Text t))
    ∙ ap (λ (g : Pos → Expression). g p)
    (fold-roll-ExprNode ℕ (Pos → Expression) Expression node_expression expression_at (layer.Text t))

pub expr-Now : (p : Pos) (s : ℕ) → expression_of (expr p (node.Now s)) ≡ Now s
unfolding of_node
expr-Now p s =
    at_node p (node.Now s) ∙ ap (λ x. of_node x p) (sym (node.rolls-Now s))
    ∙ ap (λ (g : Pos → Expression). g p)
    (fold-roll-ExprNode ℕ (Pos → Expression) Expression node_expression expression_at (layer.Now s))

pub expr-Pre : (p : Pos) (s : ℕ) → expression_of (expr p (node.Pre s)) ≡ Pre s
unfolding of_node
expr-Pre p s =
    at_node p (node.Pre s) ∙ ap (λ x. of_node x p) (sym (node.rolls-Pre s))
    ∙ ap (λ (g : Pos → Expression). g p)
    (fold-roll-ExprNode ℕ (Pos → Expression) Expression node_expression expression_at (layer.Pre s))

pub expr-NowVal : (p : Pos) (s : ℕ) → expression_of (expr p (node.NowVal s)) ≡ NowVal s
unfolding of_node
expr-NowVal p s =
    at_node p (node.NowVal s) ∙ ap (λ x. of_node x p) (sym (node.rolls-NowVal s))
    ∙ ap (λ (g : Pos → Expression). g p)
    (fold-roll-ExprNode ℕ (Pos → Expression) Expression node_expression expression_at (layer.NowVal s))

pub expr-PreVal : (p : Pos) (s : ℕ) → expression_of (expr p (node.PreVal s)) ≡ PreVal s
unfolding of_node
expr-PreVal p s =
    at_node p (node.PreVal s) ∙ ap (λ x. of_node x p) (sym (node.rolls-PreVal s))
    ∙ ap (λ (g : Pos → Expression). g p)
    (fold-roll-ExprNode ℕ (Pos → Expression) Expression node_expression expression_at (layer.PreVal s))

pub expr-Arg : (p : Pos) (s : ℕ) → expression_of (expr p (node.Arg s)) ≡ Arg s
unfolding of_node
expr-Arg p s =
    at_node p (node.Arg s) ∙ ap (λ x. of_node x p) (sym (node.rolls-Arg s))
    ∙ ap (λ (g : Pos → Expression). g p)
    (fold-roll-ExprNode ℕ (Pos → Expression) Expression node_expression expression_at (layer.Arg s))

pub expr-Not : (p : Pos) (a : Expr ℕ) → expression_of (expr p (node.Not a)) ≡ Not (expression_of a)
unfolding of_node
expr-Not p a =
    at_node p (node.Not a) ∙ ap (λ x. of_node x p) (sym (node.rolls-Not a))
    ∙ ap (λ (g : Pos → Expression). g p)
    (fold-roll-ExprNode ℕ (Pos → Expression) Expression node_expression expression_at (layer.Not a))

pub expr-Neg : (p : Pos) (a : Expr ℕ) → expression_of (expr p (node.Neg a)) ≡ Neg p (expression_of a)
unfolding of_node
expr-Neg p a =
    at_node p (node.Neg a) ∙ ap (λ x. of_node x p) (sym (node.rolls-Neg a))
    ∙ ap (λ (g : Pos → Expression). g p)
    (fold-roll-ExprNode ℕ (Pos → Expression) Expression node_expression expression_at (layer.Neg a))

pub expr-Arith : (p : Pos) (op : Op) (a b : Expr ℕ)
    → expression_of (expr p (node.Arith op a b)) ≡ Arith p op (expression_of a) (expression_of b)
unfolding of_node
expr-Arith p op a b =
    at_node p (node.Arith op a b) ∙ ap (λ x. of_node x p) (sym (node.rolls-Arith op a b))
    ∙ ap (λ (g : Pos → Expression). g p)
    (fold-roll-ExprNode ℕ (Pos → Expression) Expression node_expression expression_at
    (layer.Arith op a b))

pub expr-Compare : (p : Pos) (rel : Rel) (a b : Expr ℕ)
    → expression_of (expr p (node.Compare rel a b)) ≡ Compare rel (expression_of a) (expression_of b)
unfolding of_node
expr-Compare p rel a b =
    at_node p (node.Compare rel a b) ∙ ap (λ x. of_node x p) (sym (node.rolls-Compare rel a b))
    ∙ ap (λ (g : Pos → Expression). g p)
    (fold-roll-ExprNode ℕ (Pos → Expression) Expression node_expression expression_at
    (layer.Compare rel a b))

pub expr-And : (p : Pos) (a b : Expr ℕ)
    → expression_of (expr p (node.And a b)) ≡ And (expression_of a) (expression_of b)
unfolding of_node
expr-And p a b =
    at_node p (node.And a b) ∙ ap (λ x. of_node x p) (sym (node.rolls-And a b))
    ∙ ap (λ (g : Pos → Expression). g p)
    (fold-roll-ExprNode ℕ (Pos → Expression) Expression node_expression expression_at (layer.And a b))

pub expr-Or : (p : Pos) (a b : Expr ℕ)
    → expression_of (expr p (node.Or a b)) ≡ Or (expression_of a) (expression_of b)
unfolding of_node
expr-Or p a b =
    at_node p (node.Or a b) ∙ ap (λ x. of_node x p) (sym (node.rolls-Or a b))
    ∙ ap (λ (g : Pos → Expression). g p)
    (fold-roll-ExprNode ℕ (Pos → Expression) Expression node_expression expression_at (layer.Or a b))

pub expr-Choose : (p : Pos) (a b c : Expr ℕ)
    → expression_of (expr p (node.Choose a b c))
    ≡ Choose (expression_of a) (expression_of b) (expression_of c)
unfolding of_node
expr-Choose p a b c =
    at_node p (node.Choose a b c) ∙ ap (λ x. of_node x p) (sym (node.rolls-Choose a b c))
    ∙ ap (λ (g : Pos → Expression). g p)
    (fold-roll-ExprNode ℕ (Pos → Expression) Expression node_expression expression_at
    (layer.Choose a b c))

-- The signals that an expression of the tree reads, with and without where they are read.
use Rattle.std.proofs.Common.{◌≡◌, ℕ, List, ◌++◌, map, refl, sym, ap, subst, ◌∙◌}
use Rattle.std.proofs.lemmas.List.{map-append}
use Rattle.hh_base.specs.declared.value.Pos.{Pos}
use Rattle.host_expr.specs.declared.expr.Expr.{Expr, roll-Expr}
use Rattle.host_expr.specs.declared.expr.ExprNode.{ExprNode, roll-ExprNode}
use Rattle.host_expr.specs.declared.expr.ExprNode.TheOpen as e
use Rattle.host_expr.specs.declared.expr.ExprNode.TheFolds.{fold-ExprNode, fold-roll-Expr, fold-roll-ExprNode}
use Rattle.host_expr.specs.declared.expr.ExprNode.TheFolds.{ind-Expr, map-ExprNode, map-Expr}
use Rattle.host_expr.specs.Expression.{Expression, node_expression, expression_at, expression_of}
use Rattle.host_expr.specs.Measures.{signals_read}
use Rattle.module_tree.specs.declared.source.NameAt.{NameAt}
use Rattle.module_tree.specs.Parts as parts
use Rattle.module_tree.specs.Parts.{read_step}

abbrev Layer : Type 0
Layer = e.ExprNode-F ℕ (ExprNode ℕ) (Expr ℕ)

abbrev Names : Type 0
Names = List (NameAt ℕ)

of_node : ExprNode ℕ → Pos → Expression
of_node = fold-ExprNode ℕ (Pos → Expression) Expression node_expression expression_at

read_in_node : ExprNode ℕ → Pos → Names
read_in_node = fold-ExprNode ℕ (Pos → Names) Names read_step (λ x. x.node x.pos)

abbrev pub places : Names → List ℕ
places = map (λ (n : NameAt ℕ). n.name)

abbrev IsRead : Expr ℕ → Type 0
IsRead x = places (parts.signals_read x) ≡ signals_read (expression_of x)

abbrev IsReadNode : ExprNode ℕ → Type 0
IsReadNode x = (p : Pos) → places (read_in_node x p) ≡ signals_read (of_node x p)

abbrev Node : Type 0
Node = (x : ExprNode ℕ) × IsReadNode x

abbrev Part : Type 0
Part = (x : Expr ℕ) × IsRead x

expressions_in : Layer → e.ExprNode-F ℕ (Pos → Expression) Expression
expressions_in = map-ExprNode ℕ (ExprNode ℕ) (Expr ℕ) (Pos → Expression) Expression of_node expression_of

reads_in : Layer → e.ExprNode-F ℕ (Pos → Names) Names
reads_in = map-ExprNode ℕ (ExprNode ℕ) (Expr ℕ) (Pos → Names) Names read_in_node parts.signals_read

by_layer : (y : Layer) → ((p : Pos) → places (read_step (reads_in y) p)
    ≡ signals_read (node_expression (expressions_in y) p)) → IsReadNode (roll-ExprNode ℕ y)
unfolding of_node read_in_node expressions_in reads_in
by_layer y h p =
    ap (λ (z : Pos → Names). places (z p))
    (fold-roll-ExprNode ℕ (Pos → Names) Names read_step (λ x. x.node x.pos) y)
    ∙ h p
    ∙ sym (ap (λ (z : Pos → Expression). signals_read (z p))
    (fold-roll-ExprNode ℕ (Pos → Expression) Expression node_expression expression_at y))

two : (xs ys : Names) (us vs : List ℕ) → places xs ≡ us → places ys ≡ vs → places (xs ++ ys) ≡ us ++ vs
two xs ys us vs p q = map-append (λ (n : NameAt ℕ). n.name) xs ys ∙ (λ i. p i ++ q i)

node_read : (y : e.ExprNode-F ℕ Node Part) → IsReadNode
    (roll-ExprNode ℕ (map-ExprNode ℕ Node Part (ExprNode ℕ) (Expr ℕ) (λ n. n.0) (λ n. n.0) y))
unfolding expressions_in reads_in
node_read (e.Int n) = by_layer (e.Int n) (λ p. refl)
node_read (e.Bool b) = by_layer (e.Bool b) (λ p. refl)
node_read (e.Text t) = by_layer (e.Text t) (λ p. refl)
node_read (e.Now s) = by_layer (e.Now s) (λ p. refl)
node_read (e.Pre s) = by_layer (e.Pre s) (λ p. refl)
node_read (e.NowVal s) = by_layer (e.NowVal s) (λ p. refl)
node_read (e.PreVal s) = by_layer (e.PreVal s) (λ p. refl)
node_read (e.Arg s) = by_layer (e.Arg s) (λ p. refl)
node_read (e.Not a) = by_layer (e.Not a.0) (λ p. a.1)
node_read (e.Neg a) = by_layer (e.Neg a.0) (λ p. a.1)
node_read (e.Arith op a b) = by_layer (e.Arith op a.0 b.0) (λ p. two _ _ _ _ a.1 b.1)
node_read (e.Compare rel a b) = by_layer (e.Compare rel a.0 b.0) (λ p. two _ _ _ _ a.1 b.1)
node_read (e.And a b) = by_layer (e.And a.0 b.0) (λ p. two _ _ _ _ a.1 b.1)
node_read (e.Or a b) = by_layer (e.Or a.0 b.0) (λ p. two _ _ _ _ a.1 b.1)
node_read (e.Choose a b c) = by_layer (e.Choose a.0 b.0 c.0)
    (λ p. two _ _ _ _ (two _ _ _ _ a.1 b.1) c.1)

part_read : (y : e.Expr-F ℕ Node Part) → IsRead (roll-Expr ℕ
    (map-Expr ℕ Node Part (ExprNode ℕ) (Expr ℕ) (λ n. n.0) (λ n. n.0) y))
unfolding of_node read_in_node
part_read y =
    let x : e.Expr-F ℕ (ExprNode ℕ) (Expr ℕ) = record { pos = y.pos; node = y.node.0 } in
    ap places (fold-roll-Expr ℕ (Pos → Names) Names read_step (λ x. x.node x.pos) x)
    ∙ y.node.1 y.pos
    ∙ sym (ap signals_read (fold-roll-Expr ℕ (Pos → Expression) Expression node_expression expression_at x))

pub same_reads : (x : Expr ℕ) → places (parts.signals_read x) ≡ signals_read (expression_of x)
same_reads =
    ind-Expr ℕ IsReadNode IsRead
    (λ x y is. subst (λ (z : Layer). IsReadNode (roll-ExprNode ℕ z)) is (node_read y))
    (λ x y is. subst (λ (z : e.Expr-F ℕ (ExprNode ℕ) (Expr ℕ)). IsRead (roll-Expr ℕ z)) is (part_read y))

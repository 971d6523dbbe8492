-- Expressions that are the same but for places, node by node.
use Rattle.std.proofs.Common.{◌≡◌, ℕ, refl, sym, ap, ◌∙◌, subst}
use Rattle.host_expr.specs.declared.expr.Expr.{Expr, roll-Expr}
use Rattle.host_expr.specs.declared.expr.ExprNode.{ExprNode, roll-ExprNode}
use Rattle.host_expr.specs.declared.expr.ExprNode.TheOpen as e
use Rattle.host_expr.specs.declared.expr.ExprNode.TheFolds.{fold-ExprNode, fold-roll-Expr, fold-roll-ExprNode, ind-Expr, map-ExprNode, map-Expr}
use Rattle.module_tree.specs.SourceExpressions.{size_step, size_of}
use Rattle.expression_reader.specs.declared.operator.Operator.{Operator}
use Rattle.expression_reader.specs.Trees.{Name, pos_at, node, binary_node, applied}
use Rattle.round_trip.specs.Places.{placeless_expr}
use Rattle.expression_reader.proofs.written.Layers.{expr_layer, of_parts}
use Rattle.round_trip.proofs.lifting.Lifting.{Same}

abbrev pub Parts : Type 0
Parts = e.ExprNode-F Name (ExprNode Name) (Expr Name)

abbrev placeless_node : ExprNode Name → ExprNode Name
placeless_node = fold-ExprNode Name (ExprNode Name) (Expr Name) (roll-ExprNode Name) (λ x. node 0 x.node)

abbrev pub placeless_parts : Parts → Parts
placeless_parts = map-ExprNode Name (ExprNode Name) (Expr Name) (ExprNode Name)
    (Expr Name) placeless_node placeless_expr

pub placeless_layer : (n : ℕ) (parts : Parts) {x : ExprNode Name} → roll-ExprNode Name parts ≡ x
    → placeless_expr (node n x) ≡ node 0 (roll-ExprNode Name (placeless_parts parts))
placeless_layer n parts {x} rolls =
    fold-roll-Expr Name (ExprNode Name) (Expr Name) (roll-ExprNode Name) (λ x. node 0 x.node)
    (record { pos = pos_at n; node = x }) ∙ ap (λ z. node 0 (placeless_node z)) (sym rolls)
    ∙ ap (λ z. node 0 z) (fold-roll-ExprNode Name (ExprNode Name) (Expr Name) (roll-ExprNode Name)
    (λ x. node 0 x.node) parts)

-- two nodes whose parts are
pub same_node : (n m : ℕ) (parts others : Parts) {x : ExprNode Name} → roll-ExprNode Name parts ≡ x
    → placeless_parts parts ≡ placeless_parts others → Same placeless_expr
    (node m (roll-ExprNode Name others)) (node n x)
same_node n m parts others rolls same = placeless_layer n parts rolls
    ∙ ap (λ z. node 0 (roll-ExprNode Name z)) same ∙ sym (placeless_layer m others refl)

-- two operands and their operator
pub same_joined : (op : Operator) (parts : Expr Name → Expr Name → Parts)
    → ((a b : Expr Name) → roll-ExprNode Name (parts a b) ≡ binary_node op a b)
    → ((a b : Expr Name) → placeless_parts (parts a b) ≡ parts (placeless_expr a) (placeless_expr b))
    → (place : ℕ) (x y a b : Expr Name) (z : ℕ × Operator) → z.1 ≡ op → Same placeless_expr x a
    → Same placeless_expr y b → Same placeless_expr (node place (roll-ExprNode Name (parts x y)))
    (applied a (z, b))
same_joined op parts rolls maps place x y a b z is h g =
    ap (λ q. placeless_expr (node z.0 (binary_node q a b))) is
    ∙ same_node z.0 place (parts a b) (parts x y) (rolls a b)
    (maps a b ∙ (λ i. parts (h i) (g i)) ∙ sym (maps x y))

-- ---- and have as many leaves and operators

abbrev IsSized : Expr Name → Type 0
IsSized x = size_of (placeless_expr x) ≡ size_of x

abbrev IsSizedNode : ExprNode Name → Type 0
IsSizedNode x = (n : ℕ) → IsSized (node n x)

abbrev Node : Type 0
Node = (x : ExprNode Name) × IsSizedNode x

abbrev Part : Type 0
Part = (x : Expr Name) × IsSized x

by_parts : (n : ℕ) (parts : Parts) → size_step (of_parts size_step (placeless_parts parts))
    ≡ size_step (of_parts size_step parts) → IsSized (node n (roll-ExprNode Name parts))
by_parts n parts h = ap size_of (placeless_layer n parts refl)
    ∙ expr_layer size_step 0 (placeless_parts parts) refl ∙ h ∙ sym (expr_layer size_step n parts refl)

node_sized : (y : e.ExprNode-F Name Node Part) → IsSizedNode
    (roll-ExprNode Name (map-ExprNode Name Node Part (ExprNode Name) (Expr Name) (λ z. z.0) (λ z. z.0) y))
node_sized (e.Int z) n = by_parts n (e.Int z) refl
node_sized (e.Bool b) n = by_parts n (e.Bool b) refl
node_sized (e.Text t) n = by_parts n (e.Text t) refl
node_sized (e.Now s) n = by_parts n (e.Now s) refl
node_sized (e.Pre s) n = by_parts n (e.Pre s) refl
node_sized (e.NowVal s) n = by_parts n (e.NowVal s) refl
node_sized (e.PreVal s) n = by_parts n (e.PreVal s) refl
node_sized (e.Arg s) n = by_parts n (e.Arg s) refl
node_sized (e.Not a) n = by_parts n (e.Not a.0) (rw a.1 refl)
node_sized (e.Neg a) n = by_parts n (e.Neg a.0) (rw a.1 refl)
node_sized (e.Arith o a b) n = by_parts n (e.Arith o a.0 b.0) (rw (a.1, b.1) refl)
node_sized (e.Compare r a b) n = by_parts n (e.Compare r a.0 b.0) (rw (a.1, b.1) refl)
node_sized (e.And a b) n = by_parts n (e.And a.0 b.0) (rw (a.1, b.1) refl)
node_sized (e.Or a b) n = by_parts n (e.Or a.0 b.0) (rw (a.1, b.1) refl)
node_sized (e.Choose a b c) n = by_parts n (e.Choose a.0 b.0 c.0) (rw (a.1, b.1, c.1) refl)

expr_sized : (y : e.Expr-F Name Node Part)
    → IsSized (roll-Expr Name (map-Expr Name Node Part (ExprNode Name) (Expr Name) (λ z. z.0) (λ z. z.0) y))
expr_sized y = y.node.1 y.pos.0

pub is_sized : (x : Expr Name) → IsSized x
is_sized =
    ind-Expr Name IsSizedNode IsSized
    (λ x y is. subst (λ (z : e.ExprNode-F Name (ExprNode Name) (Expr Name)). IsSizedNode
    (roll-ExprNode Name z)) is (node_sized y))
    (λ x y is. subst (λ (z : e.Expr-F Name (ExprNode Name) (Expr Name)). IsSized (roll-Expr Name z)) is
    (expr_sized y))

-- An expression in which only arithmetic has places is the one of its tree.
use Rattle.std.proofs.Common.{◌≡◌, ℕ, Bool, true, false, List, refl, sym, ap, ◌∙◌, subst, arith}
use Rattle.std.specs.Prelude.{ℤ, ◌&&◌, ◌==◌}
use Rattle.std.proofs.lemmas.Bool.Decides.{nat_tests}
use Rattle.hh_base.specs.declared.value.Pos.{Pos}
use Rattle.host_expr.specs.declared.expr.Expr.{Expr, roll-Expr}
use Rattle.host_expr.specs.declared.expr.ExprNode.{ExprNode, roll-ExprNode}
use Rattle.host_expr.specs.declared.expr.ExprNode.TheVariants as node
use Rattle.host_expr.specs.declared.expr.ExprNode.TheOpen as layer
use Rattle.host_expr.specs.declared.expr.ExprNode.TheFolds.{fold-Expr, fold-ExprNode, fold-roll-Expr, fold-roll-ExprNode}
use Rattle.host_expr.specs.declared.expr.ExprNode.TheFolds.{ind-Expr, map-ExprNode, map-Expr}
use Rattle.host_expr.specs.Expression.{Expression, Int, Flag, Text, Now, Pre, NowVal, PreVal, Arg, Not, Neg}
use Rattle.host_expr.specs.Expression.{Arith, Compare, And, Or, Choose, expression_of, node_expression, expression_at}
use Rattle.net_list.specs.Expressions.{node_placed, placed_here, only_arithmetic_placed}
use Rattle.net_line.specs.ExpressionReading.{at_pos}
use Rattle.net_line.proofs.Expressions.{expr_from}

abbrev Layer : Type 0
Layer = layer.ExprNode-F ℕ (ExprNode ℕ) (Expr ℕ)

abbrev at : ℕ → Pos
at n = record { 0 = n }

abbrev placed_node : ExprNode ℕ → Pos → Bool
placed_node = fold-ExprNode ℕ (Pos → Bool) Bool node_placed placed_here

abbrev tree_of : ExprNode ℕ → Pos → Expression
tree_of = fold-ExprNode ℕ (Pos → Expression) Expression node_expression expression_at

placed_layer : (y : Layer) (p : Pos)
    → placed_node (roll-ExprNode ℕ y) p
    ≡ node_placed (map-ExprNode ℕ (ExprNode ℕ) (Expr ℕ) (Pos → Bool) Bool placed_node only_arithmetic_placed y) p
placed_layer y p =
    ap (λ (g : Pos → Bool). g p) (fold-roll-ExprNode ℕ (Pos → Bool) Bool node_placed placed_here y)

placed_at : (n : ExprNode ℕ) (p : Pos)
    → only_arithmetic_placed (roll-Expr ℕ (record { pos = p; node = n })) ≡ placed_node n p
placed_at n p = fold-roll-Expr ℕ (Pos → Bool) Bool node_placed placed_here (record { pos = p; node = n })

by_layer : (y : Layer) (n : ExprNode ℕ) (p : Pos) → roll-ExprNode ℕ y ≡ n
    → only_arithmetic_placed (roll-Expr ℕ (record { pos = p; node = n }))
    ≡ node_placed (map-ExprNode ℕ (ExprNode ℕ) (Expr ℕ) (Pos → Bool) Bool placed_node only_arithmetic_placed y) p
by_layer y n p rolls = placed_at n p ∙ ap (λ m. placed_node m p) (sym rolls) ∙ placed_layer y p

pub from_placed : (x : Expression) → only_arithmetic_placed (expr_from x) ≡ true
from_placed (Int z) = by_layer (layer.Int z) (node.Int z) (at 0) (node.rolls-Int z)
from_placed (Flag b) = by_layer (layer.Bool b) (node.Bool b) (at 0) (node.rolls-Bool b)
from_placed (Text t) = by_layer (layer.Text t) (node.Text t) (at 0) (node.rolls-Text t)
from_placed (Now s) = by_layer (layer.Now s) (node.Now s) (at 0) (node.rolls-Now s)
from_placed (Pre s) = by_layer (layer.Pre s) (node.Pre s) (at 0) (node.rolls-Pre s)
from_placed (NowVal s) = by_layer (layer.NowVal s) (node.NowVal s) (at 0) (node.rolls-NowVal s)
from_placed (PreVal s) = by_layer (layer.PreVal s) (node.PreVal s) (at 0) (node.rolls-PreVal s)
from_placed (Arg n) = by_layer (layer.Arg n) (node.Arg n) (at 0) (node.rolls-Arg n)
from_placed (Not a) =
    by_layer (layer.Not (expr_from a)) (node.Not (expr_from a)) (at 0) (node.rolls-Not (expr_from a)) ∙ from_placed a
from_placed (Neg p a) =
    by_layer (layer.Neg (expr_from a)) (node.Neg (expr_from a)) p (node.rolls-Neg (expr_from a)) ∙ from_placed a
from_placed (Arith p o a b) =
    by_layer (layer.Arith o (expr_from a) (expr_from b)) (node.Arith o (expr_from a) (expr_from b)) p
    (node.rolls-Arith o (expr_from a) (expr_from b)) ∙ (λ i. from_placed a i && from_placed b i)
from_placed (Compare r a b) =
    by_layer (layer.Compare r (expr_from a) (expr_from b)) (node.Compare r (expr_from a) (expr_from b)) (at 0)
    (node.rolls-Compare r (expr_from a) (expr_from b)) ∙ (λ i. from_placed a i && from_placed b i)
from_placed (And a b) =
    by_layer (layer.And (expr_from a) (expr_from b)) (node.And (expr_from a) (expr_from b)) (at 0)
    (node.rolls-And (expr_from a) (expr_from b)) ∙ (λ i. from_placed a i && from_placed b i)
from_placed (Or a b) =
    by_layer (layer.Or (expr_from a) (expr_from b)) (node.Or (expr_from a) (expr_from b)) (at 0)
    (node.rolls-Or (expr_from a) (expr_from b)) ∙ (λ i. from_placed a i && from_placed b i)
from_placed (Choose a b c) =
    by_layer (layer.Choose (expr_from a) (expr_from b) (expr_from c)) (node.Choose (expr_from a) (expr_from b)
    (expr_from c)) (at 0) (node.rolls-Choose (expr_from a) (expr_from b) (expr_from c))
    ∙ (λ i. from_placed a i && from_placed b i && from_placed c i)

-- ---- and back

abbrev IsBackNode : ExprNode ℕ → Type 0
IsBackNode n = (p : Pos) → placed_node n p ≡ true
    → expr_from (tree_of n p) ≡ roll-Expr ℕ (record { pos = p; node = n })

abbrev IsBack : Expr ℕ → Type 0
IsBack e = only_arithmetic_placed e ≡ true → expr_from (expression_of e) ≡ e

abbrev Node : Type 0
Node = (n : ExprNode ℕ) × IsBackNode n

abbrev Part : Type 0
Part = (e : Expr ℕ) × IsBack e

both : (a b : Bool) → (a && b) ≡ true → (a ≡ true) × (b ≡ true)
both true b e = (refl, e)
both false b e = absurd cc

at_nought : (p : Pos) → (p.0 == 0) ≡ true → at 0 ≡ p
at_nought p h = (let is : 0 ≡ p.0 = grind (arith, nat_tests) in (λ i. record { 0 = is i }))

tree_layer : (y : Layer) (p : Pos)
    → tree_of (roll-ExprNode ℕ y) p
    ≡ node_expression (map-ExprNode ℕ (ExprNode ℕ) (Expr ℕ) (Pos → Expression) Expression tree_of expression_of y) p
tree_layer y p =
    ap (λ (g : Pos → Expression). g p)
    (fold-roll-ExprNode ℕ (Pos → Expression) Expression node_expression expression_at y)

-- a node of a layer, where the tree of the layer is that of the node at its place
back_by : (y : Layer) (p : Pos)
    → expr_from (node_expression
    (map-ExprNode ℕ (ExprNode ℕ) (Expr ℕ) (Pos → Expression) Expression tree_of expression_of y) p)
    ≡ roll-Expr ℕ (record { pos = p; node = roll-ExprNode ℕ y })
    → expr_from (tree_of (roll-ExprNode ℕ y) p) ≡ roll-Expr ℕ (record { pos = p; node = roll-ExprNode ℕ y })
back_by y p h = ap expr_from (tree_layer y p) ∙ h

made : (p q : Pos) (m n : ExprNode ℕ) → p ≡ q → m ≡ n
    → ◌≡◌ {A = Expr ℕ} (roll-Expr ℕ (record { pos = p; node = m })) (roll-Expr ℕ (record { pos = q; node = n }))
made p q m n hp hm i = roll-Expr ℕ (record { pos = hp i; node = hm i })

node_back : (y : layer.ExprNode-F ℕ Node Part) → IsBackNode
    (roll-ExprNode ℕ (map-ExprNode ℕ Node Part (ExprNode ℕ) (Expr ℕ) (λ n. n.0) (λ n. n.0) y))
node_back (layer.Int z) p h =
    back_by (layer.Int z) p (made (at 0) p _ _ (at_nought p (sym (placed_layer (layer.Int z) p) ∙ h)) (sym (node.rolls-Int z)))
node_back (layer.Bool b) p h =
    back_by (layer.Bool b) p (made (at 0) p _ _ (at_nought p (sym (placed_layer (layer.Bool b) p) ∙ h)) (sym (node.rolls-Bool b)))
node_back (layer.Text t) p h =
    back_by (layer.Text t) p (made (at 0) p _ _ (at_nought p (sym (placed_layer (layer.Text t) p) ∙ h)) (sym (node.rolls-Text t)))
node_back (layer.Now s) p h =
    back_by (layer.Now s) p (made (at 0) p _ _ (at_nought p (sym (placed_layer (layer.Now s) p) ∙ h)) (sym (node.rolls-Now s)))
node_back (layer.Pre s) p h =
    back_by (layer.Pre s) p (made (at 0) p _ _ (at_nought p (sym (placed_layer (layer.Pre s) p) ∙ h)) (sym (node.rolls-Pre s)))
node_back (layer.NowVal s) p h =
    back_by (layer.NowVal s) p (made (at 0) p _ _ (at_nought p (sym (placed_layer (layer.NowVal s) p) ∙ h)) (sym (node.rolls-NowVal s)))
node_back (layer.PreVal s) p h =
    back_by (layer.PreVal s) p (made (at 0) p _ _ (at_nought p (sym (placed_layer (layer.PreVal s) p) ∙ h)) (sym (node.rolls-PreVal s)))
node_back (layer.Arg n) p h =
    back_by (layer.Arg n) p (made (at 0) p _ _ (at_nought p (sym (placed_layer (layer.Arg n) p) ∙ h)) (sym (node.rolls-Arg n)))
node_back (layer.Not a) p h =
    let k = both (p.0 == 0) (only_arithmetic_placed a.0) (sym (placed_layer (layer.Not a.0) p) ∙ h) in
    back_by (layer.Not a.0) p (made (at 0) p _ _ (at_nought p k.0) (ap node.Not (a.1 k.1) ∙ sym (node.rolls-Not a.0)))
node_back (layer.Neg a) p h =
    let k : only_arithmetic_placed a.0 ≡ true = sym (placed_layer (layer.Neg a.0) p) ∙ h in
    back_by (layer.Neg a.0) p (made p p _ _ refl (ap node.Neg (a.1 k) ∙ sym (node.rolls-Neg a.0)))
node_back (layer.Arith o a b) p h =
    let k = both (only_arithmetic_placed a.0) (only_arithmetic_placed b.0)
    (sym (placed_layer (layer.Arith o a.0 b.0) p) ∙ h) in
    back_by (layer.Arith o a.0 b.0) p
    (made p p _ _ refl ((λ i. node.Arith o (a.1 k.0 i) (b.1 k.1 i)) ∙ sym (node.rolls-Arith o a.0 b.0)))
node_back (layer.Compare r a b) p h =
    let j = both ((p.0 == 0) && only_arithmetic_placed a.0) (only_arithmetic_placed b.0)
    (sym (placed_layer (layer.Compare r a.0 b.0) p) ∙ h) in
    let k = both (p.0 == 0) (only_arithmetic_placed a.0) j.0 in
    back_by (layer.Compare r a.0 b.0) p
    (made (at 0) p _ _ (at_nought p k.0) ((λ i. node.Compare r (a.1 k.1 i) (b.1 j.1 i)) ∙ sym (node.rolls-Compare r a.0 b.0)))
node_back (layer.And a b) p h =
    let j = both ((p.0 == 0) && only_arithmetic_placed a.0) (only_arithmetic_placed b.0)
    (sym (placed_layer (layer.And a.0 b.0) p) ∙ h) in
    let k = both (p.0 == 0) (only_arithmetic_placed a.0) j.0 in
    back_by (layer.And a.0 b.0) p
    (made (at 0) p _ _ (at_nought p k.0) ((λ i. node.And (a.1 k.1 i) (b.1 j.1 i)) ∙ sym (node.rolls-And a.0 b.0)))
node_back (layer.Or a b) p h =
    let j = both ((p.0 == 0) && only_arithmetic_placed a.0) (only_arithmetic_placed b.0)
    (sym (placed_layer (layer.Or a.0 b.0) p) ∙ h) in
    let k = both (p.0 == 0) (only_arithmetic_placed a.0) j.0 in
    back_by (layer.Or a.0 b.0) p
    (made (at 0) p _ _ (at_nought p k.0) ((λ i. node.Or (a.1 k.1 i) (b.1 j.1 i)) ∙ sym (node.rolls-Or a.0 b.0)))
node_back (layer.Choose a b c) p h =
    let g = both ((p.0 == 0) && only_arithmetic_placed a.0 && only_arithmetic_placed b.0) (only_arithmetic_placed c.0)
    (sym (placed_layer (layer.Choose a.0 b.0 c.0) p) ∙ h) in
    let j = both ((p.0 == 0) && only_arithmetic_placed a.0) (only_arithmetic_placed b.0) g.0 in
    let k = both (p.0 == 0) (only_arithmetic_placed a.0) j.0 in
    back_by (layer.Choose a.0 b.0 c.0) p
    (made (at 0) p _ _ (at_nought p k.0)
    ((λ i. node.Choose (a.1 k.1 i) (b.1 j.1 i) (c.1 g.1 i)) ∙ sym (node.rolls-Choose a.0 b.0 c.0)))

part_back : (y : layer.Expr-F ℕ Node Part)
    → IsBack (roll-Expr ℕ (map-Expr ℕ Node Part (ExprNode ℕ) (Expr ℕ) (λ n. n.0) (λ n. n.0) y))
part_back y h =
    ap expr_from (fold-roll-Expr ℕ (Pos → Expression) Expression node_expression expression_at
    (record { pos = y.pos; node = y.node.0 }))
    ∙ y.node.1 y.pos (sym (placed_at y.node.0 y.pos) ∙ h)

pub is_back : (e : Expr ℕ) → only_arithmetic_placed e ≡ true → expr_from (expression_of e) ≡ e
is_back =
    ind-Expr ℕ IsBackNode IsBack
    (λ x y is. subst (λ (z : Layer). IsBackNode (roll-ExprNode ℕ z)) is (node_back y))
    (λ x y is. subst (λ (z : layer.Expr-F ℕ (ExprNode ℕ) (Expr ℕ)). IsBack (roll-Expr ℕ z)) is (part_back y))

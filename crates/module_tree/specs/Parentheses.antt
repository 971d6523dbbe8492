-- Where the parentheses of a written expression stand: an operand whose level is looser than its place takes
-- has them. The levels go from the loosest to the tightest, as in C, and operators of one level group to the
-- left. This project's own.
use Rattle.std.specs.Prelude.{ℕ, Bool, List, nat_lt, if◌then◌else◌}
use Rattle.host_expr.specs.declared.expr.Op.{Op}
use Rattle.host_expr.specs.declared.expr.Op.TheVariants as op
use Rattle.host_expr.specs.declared.expr.Expr.{Expr}
use Rattle.host_expr.specs.declared.expr.ExprNode.{ExprNode}
use Rattle.host_expr.specs.declared.expr.ExprNode.TheOpen as e
use Rattle.host_expr.specs.declared.expr.ExprNode.TheFolds.{fold-Expr, fold-ExprNode}
use Rattle.module_tree.specs.declared.level.Level.{Level}
use Rattle.module_tree.specs.declared.level.Level.TheVariants as level

abbrev pub tightness_of : Level → ℕ
tightness_of level.Expression = 0
tightness_of level.Either = 1
tightness_of level.Both = 2
tightness_of level.Comparison = 3
tightness_of level.Sum = 4
tightness_of level.Product = 5
tightness_of level.Factor = 6
tightness_of level.Operand = 7

abbrev pub is_looser : Level → Level → Bool
is_looser a b = nat_lt (tightness_of a) (tightness_of b)

abbrev pub level_of_op : Op → Level
level_of_op op.Add = level.Sum
level_of_op op.Sub = level.Sum
level_of_op op.Mul = level.Product
level_of_op op.Div = level.Product
level_of_op op.Rem = level.Product

-- the level of an expression, by its outermost operator
abbrev pub level_step : {A B : Type 0} → e.ExprNode-F (List ℕ) A B → Level
level_step (e.Choose a b c) = level.Expression
level_step (e.Or a b) = level.Either
level_step (e.And a b) = level.Both
level_step (e.Compare rel a b) = level.Comparison
level_step (e.Arith o a b) = level_of_op o
level_step (e.Not a) = level.Factor
level_step (e.Neg a) = level.Factor
level_step _ = level.Operand

-- what is told of an expression, beside its level
pub record Levelled (A : Type 0) : Type 0 where
  pub level : Level
  pub value : A

-- an operand in a place that takes this level and tighter ones
abbrev pub at : {A : Type 0} → (A → A) → Level → Levelled A → A
at parentheses least a = if is_looser a.level least then parentheses a.value else a.value

-- the level that the right operand of an operator has at least
abbrev pub right_of_op : Op → Level
right_of_op op.Add = level.Product
right_of_op op.Sub = level.Product
right_of_op op.Mul = level.Factor
right_of_op op.Div = level.Factor
right_of_op op.Rem = level.Factor

-- the operands of a node, each in parentheses where it needs them
abbrev pub operands_step : {A : Type 0} → (A → A) → e.ExprNode-F (List ℕ) (Levelled A) (Levelled A)
    → e.ExprNode-F (List ℕ) A A
operands_step p (e.Int n) = e.Int n
operands_step p (e.Bool b) = e.Bool b
operands_step p (e.Text t) = e.Text t
operands_step p (e.Now n) = e.Now n
operands_step p (e.Pre n) = e.Pre n
operands_step p (e.NowVal n) = e.NowVal n
operands_step p (e.PreVal n) = e.PreVal n
operands_step p (e.Arg n) = e.Arg n
operands_step p (e.Not a) = e.Not (at p level.Operand a)
operands_step p (e.Neg a) = e.Neg (at p level.Operand a)
operands_step p (e.Arith o a b) = e.Arith o (at p (level_of_op o) a) (at p (right_of_op o) b)
operands_step p (e.Compare rel a b) = e.Compare rel (at p level.Sum a) (at p level.Sum b)
operands_step p (e.And a b) = e.And (at p level.Both a) (at p level.Comparison b)
operands_step p (e.Or a b) = e.Or (at p level.Either a) (at p level.Both b)
operands_step p (e.Choose a b c) = e.Choose (at p level.Either a) (at p level.Either b) (at p level.Either c)

-- by one layer: what a node makes of its operands as they stand in the text, and its level
abbrev pub levelled_step : {A : Type 0} → (A → A) → (e.ExprNode-F (List ℕ) A A → A)
    → e.ExprNode-F (List ℕ) (Levelled A) (Levelled A) → Levelled A
levelled_step p step node = record { level = level_step node; value = step (operands_step p node) }

-- a recursion over an expression as it is written: `p` is what parentheses make of an operand
abbrev pub levelled : {A : Type 0} → (A → A) → (e.ExprNode-F (List ℕ) A A → A) → Expr (List ℕ) → Levelled A
levelled {A} p step = fold-Expr (List ℕ) (Levelled A) (Levelled A) (levelled_step p step) (λ x. x.node)

abbrev pub levelled_node : {A : Type 0} → (A → A) → (e.ExprNode-F (List ℕ) A A → A) → ExprNode (List ℕ)
    → Levelled A
levelled_node {A} p step = fold-ExprNode (List ℕ) (Levelled A) (Levelled A) (levelled_step p step)
    (λ x. x.node)

-- Expressions without where they lie in memory: the tree that the definitions of evaluation go over.
-- (This project's own.)
use Rattle.std.specs.Prelude.{ℕ, Bool, Option, Some, None, List, ℤ}
use Rattle.hh_base.specs.declared.value.Pos.{Pos}
use Rattle.host_expr.specs.declared.expr.Op.{Op}
use Rattle.host_expr.specs.declared.expr.Rel.{Rel}
use Rattle.host_expr.specs.declared.expr.Expr.{Expr}
use Rattle.host_expr.specs.declared.expr.ExprNode.TheOpen as node
use Rattle.host_expr.specs.declared.expr.ExprNode.TheFolds.{fold-Expr}

-- an expression over numbered signals and parameters; p is the position of its operator
pub data Expression : Type 0 where
  Int : (n : ℤ) → Expression
  Flag : (b : Bool) → Expression
  Text : (t : List ℕ) → Expression
  Now : (s : ℕ) → Expression
  Pre : (s : ℕ) → Expression
  NowVal : (s : ℕ) → Expression
  PreVal : (s : ℕ) → Expression
  Arg : (n : ℕ) → Expression
  Not : (a : Expression) → Expression
  Neg : (p : Pos) (a : Expression) → Expression
  Arith : (p : Pos) (op : Op) (a b : Expression) → Expression
  Compare : (rel : Rel) (a b : Expression) → Expression
  And : (a b : Expression) → Expression
  Or : (a b : Expression) → Expression
  Choose : (a b c : Expression) → Expression

-- a node's expression by the position of the node, with the expressions of its parts in their places
abbrev pub node_expression : node.ExprNode-F ℕ (Pos → Expression) Expression → Pos → Expression
node_expression (node.Int n) p = Int n
node_expression (node.Bool b) p = Flag b
node_expression (node.Text t) p = Text t
node_expression (node.Now s) p = Now s
node_expression (node.Pre s) p = Pre s
node_expression (node.NowVal s) p = NowVal s
node_expression (node.PreVal s) p = PreVal s
node_expression (node.Arg n) p = Arg n
node_expression (node.Not a) p = Not a
node_expression (node.Neg a) p = Neg p a
node_expression (node.Arith op a b) p = Arith p op a b
node_expression (node.Compare rel a b) p = Compare rel a b
node_expression (node.And a b) p = And a b
node_expression (node.Or a b) p = Or a b
node_expression (node.Choose a b c) p = Choose a b c

abbrev pub expression_at : node.Expr-F ℕ (Pos → Expression) Expression → Expression
expression_at e = e.node e.pos

-- the tree of an expression of the code
abbrev pub expression_of : Expr ℕ → Expression
expression_of = fold-Expr ℕ (Pos → Expression) Expression node_expression expression_at

abbrev pub optional_expression : Option (Expr ℕ) → Option Expression
optional_expression None = None
optional_expression (Some e) = Some (expression_of e)

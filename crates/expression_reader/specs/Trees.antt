-- How the nodes of an expression are made of what stands in a text. A place is the number of bytes before it.
-- This project's own.
use Rattle.std.specs.Prelude.{ℕ, List, Option, Some, None, fold}
use Rattle.hh_base.specs.declared.value.Pos.{Pos}
use Rattle.host_expr.specs.declared.expr.Expr.{Expr, roll-Expr}
use Rattle.host_expr.specs.declared.expr.ExprNode.{ExprNode}
use Rattle.host_expr.specs.declared.expr.ExprNode.TheVariants as x
use Rattle.module_tree.specs.declared.source.NameAt.{NameAt}
use Rattle.module_tree.specs.declared.source.ExprAt.{ExprAt}
use Rattle.expression_reader.specs.declared.operator.Operator.{Operator}
use Rattle.expression_reader.specs.declared.operator.Operator.TheVariants as o
use Rattle.expression_reader.specs.declared.operator.Access.{Access}
use Rattle.expression_reader.specs.declared.operator.Access.TheVariants as reading

abbrev pub Name : Type 0
Name = List ℕ

-- a place, and a name or text that stands there
abbrev pub TextAt : Type 0
TextAt = ℕ × List ℕ

abbrev pub pos_at : ℕ → Pos
pos_at n = record { 0 = n }

abbrev pub name_at : TextAt → NameAt Name
name_at n = record { pos = pos_at n.0; name = n.1 }

-- ---- expressions

abbrev pub node : ℕ → ExprNode Name → Expr Name
node n e = roll-Expr Name (record { pos = pos_at n; node = e })

abbrev pub expr_at : ℕ × Expr Name → ExprAt Name
expr_at e = record { pos = pos_at e.0; expr = e.1 }

-- what of a signal is read, or the parameter of a name
abbrev pub accessed : Access → Name → ExprNode Name
accessed reading.Now n = x.Now n
accessed reading.Pre n = x.Pre n
accessed reading.NowVal n = x.NowVal n
accessed reading.PreVal n = x.PreVal n
accessed reading.Parameter n = x.Arg n

abbrev pub binary_node : Operator → Expr Name → Expr Name → ExprNode Name
binary_node (o.Arith op) a b = x.Arith op a b
binary_node (o.Compare rel) a b = x.Compare rel a b
binary_node o.And a b = x.And a b
binary_node o.Or a b = x.Or a b

-- an operator at its place, and what stands behind it
abbrev pub Term : Type 0
Term = (ℕ × Operator) × Expr Name

abbrev pub applied : Expr Name → Term → Expr Name
applied a b = node b.0.0 (binary_node b.0.1 a b.1)

-- operators of one level group to the left
abbrev pub chained : Expr Name → List Term → Expr Name
chained a bs = fold applied a bs

abbrev pub compared : Expr Name → Option Term → Expr Name
compared a None = a
compared a (Some b) = applied a b

-- the place of `?`, and what stands behind it and behind `:`
abbrev pub Branches : Type 0
Branches = ℕ × Expr Name × Expr Name

abbrev pub chosen : Expr Name → Option Branches → Expr Name
chosen a None = a
chosen a (Some b) = node b.0 (x.Choose a b.1 b.2)

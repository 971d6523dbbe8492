-- Which nodes of an expression have a place in the text of nets. (This project's own.)
use Rattle.std.specs.Prelude.{ℕ, ◌==◌, ◌&&◌, Bool}
use Rattle.hh_base.specs.declared.value.Pos.{Pos}
use Rattle.host_expr.specs.declared.expr.Expr.{Expr}
use Rattle.host_expr.specs.declared.expr.ExprNode.TheOpen as node
use Rattle.host_expr.specs.declared.expr.ExprNode.TheFolds.{fold-Expr}

-- only an operator of arithmetic may have a place other than 0
abbrev pub node_placed : node.ExprNode-F ℕ (Pos → Bool) Bool → Pos → Bool
node_placed (node.Neg a) p = a
node_placed (node.Arith op a b) p = a && b
node_placed (node.Not a) p = (p.0 == 0) && a
node_placed (node.Compare rel a b) p = (p.0 == 0) && a && b
node_placed (node.And a b) p = (p.0 == 0) && a && b
node_placed (node.Or a b) p = (p.0 == 0) && a && b
node_placed (node.Choose a b c) p = (p.0 == 0) && a && b && c
node_placed _ p = p.0 == 0

abbrev pub placed_here : node.Expr-F ℕ (Pos → Bool) Bool → Bool
placed_here e = e.node e.pos

abbrev pub only_arithmetic_placed : Expr ℕ → Bool
only_arithmetic_placed = fold-Expr ℕ (Pos → Bool) Bool node_placed placed_here

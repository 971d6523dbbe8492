-- Expressions as nets have them: only the operators of arithmetic, which may fault, have a place. (This
-- project's own.)
use Rattle.std.specs.Prelude.{ℕ, map, option_map}
use Rattle.hh_base.specs.declared.value.Pos.{Pos}
use Rattle.host_expr.specs.declared.expr.Expr.{Expr, roll-Expr}
use Rattle.host_expr.specs.declared.expr.ExprNode.{ExprNode, roll-ExprNode}
use Rattle.host_expr.specs.declared.expr.ExprNode.TheOpen as node
use Rattle.host_expr.specs.declared.expr.ExprNode.TheFolds.{fold-Expr, fold-ExprNode}
use Rattle.hh_term.specs.declared.program.BodyDecl.{BodyDecl}
use Rattle.hh_term.specs.declared.program.Site.{Site}

abbrev pub place_in_layer : {A B : Type 0} → node.ExprNode-F ℕ A B → Pos → Pos
place_in_layer (node.Neg a) p = p
place_in_layer (node.Arith op a b) p = p
place_in_layer _ p = record { 0 = 0 }

-- the place of a node that stands at p
unfoldable pub written_place : ExprNode ℕ → Pos → Pos
written_place = fold-ExprNode ℕ (Pos → Pos) (Unit {0}) place_in_layer (λ x. tt)

abbrev pub placed_layer : node.Expr-F ℕ (ExprNode ℕ) (Expr ℕ) → Expr ℕ
placed_layer x = roll-Expr ℕ (record { pos = written_place x.node x.pos; node = x.node })

unfoldable pub written : Expr ℕ → Expr ℕ
written = fold-Expr ℕ (ExprNode ℕ) (Expr ℕ) (λ y. roll-ExprNode ℕ y) placed_layer

unfoldable pub written_node : ExprNode ℕ → ExprNode ℕ
written_node = fold-ExprNode ℕ (ExprNode ℕ) (Expr ℕ) (λ y. roll-ExprNode ℕ y) placed_layer

abbrev pub written_body : BodyDecl → BodyDecl
written_body b = record b { expr = option_map written b.expr }

abbrev pub written_site : Site → Site
written_site a = record a { args = map written a.args }

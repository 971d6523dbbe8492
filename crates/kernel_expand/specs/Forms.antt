-- The statements that the rows make round their body, with the numbers that their tests have. (This
-- project's own.)
use Rattle.std.specs.Prelude.{ℕ, List, replicate}
use Rattle.hh_base.specs.declared.value.Pos.{Pos}
use Rattle.host_expr.specs.declared.expr.Expr.{Expr, roll-Expr}
use Rattle.host_expr.specs.declared.expr.ExprNode.TheVariants as node
use Rattle.hh_term.specs.Placed.{Placed, Nothing, Pause, If, Seq, Par, Loop, Trap, Exit}
use Rattle.kernel_expand.specs.declared.forms.Join.{Join}
use Rattle.kernel_expand.specs.declared.forms.Join.TheVariants as join
use Rattle.kernel_expand.specs.Halves.{in_halves}

abbrev pub two : Join → Pos → Placed → Placed → Placed
two join.Sequence at = Seq at
two join.Parallel at = Par at

-- a list of them by its halves
abbrev pub joined : Join → Pos → List Placed → Placed
joined j at = in_halves (two j at) (Nothing at)

abbrev pub exits_where : Pos → Expr ℕ → Placed
exits_where at d = If at d (Exit at 0) (Nothing at)

abbrev pub halts : Pos → Placed
halts at = Loop at (Pause at)

-- exits in the first later instant in which d holds, and in the first one
abbrev pub waits : Pos → Expr ℕ → Placed
waits at d = Loop at (Seq at (Pause at) (exits_where at d))

abbrev pub waits_now : Pos → Expr ℕ → Placed
waits_now at d = Loop at (Seq at (exits_where at d) (Pause at))

abbrev pub awaits : Pos → ℕ → Expr ℕ → Placed
awaits at n d = joined join.Sequence at (replicate n (Trap at (waits at d)))

-- a body that exits where it ends, beside what exits where it is aborted
abbrev pub beside : Pos → Placed → Placed → Placed
beside at body watch = Trap at (Par at (Seq at body (Exit at 0)) watch)

-- whether the signal is present
abbrev pub present : Pos → ℕ → Expr ℕ
present at s = roll-Expr ℕ (record { pos = at; node = node.Now s })

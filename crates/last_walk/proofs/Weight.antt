-- The measure by which a walk ends: how many statements there are in a statement.
use Rattle.std.proofs.Common.{◌≡◌, sym, subst, ℕ, ◌+◌, ◌<◌, arith}
use Rattle.host_expr.specs.Expression.{Expression}
use Rattle.hh_term.specs.Statement.{Statement, If, Suspend, Seq, Par, Loop, Trap, Local}

abbrev pub weight : Statement → ℕ
weight (If e p q) = weight p + weight q + 1
weight (Suspend e p) = weight p + 1
weight (Seq p q) = weight p + weight q + 1
weight (Par p q) = weight p + weight q + 1
weight (Loop p) = weight p + 1
weight (Trap p) = weight p + 1
weight (Local s p) = weight p + 1
weight _ = 0

first_below : (m n : ℕ) → m < m + n + 1
first_below m n = omega arith

second_below : (m n : ℕ) → n < m + n + 1
second_below m n = omega arith

one_below : (m : ℕ) → m < m + 1
one_below m = omega arith

pub if_first : (e : Expression) (p q : Statement) → weight p < weight (If e p q)
if_first e p q = first_below (weight p) (weight q)

pub if_second : (e : Expression) (p q : Statement) → weight q < weight (If e p q)
if_second e p q = second_below (weight p) (weight q)

pub in_suspend : (e : Expression) (p : Statement) → weight p < weight (Suspend e p)
in_suspend e p = one_below (weight p)

pub seq_first : (p q : Statement) → weight p < weight (Seq p q)
seq_first p q = first_below (weight p) (weight q)

pub seq_second : (p q : Statement) → weight q < weight (Seq p q)
seq_second p q = second_below (weight p) (weight q)

pub par_first : (p q : Statement) → weight p < weight (Par p q)
par_first p q = first_below (weight p) (weight q)

pub par_second : (p q : Statement) → weight q < weight (Par p q)
par_second p q = second_below (weight p) (weight q)

pub in_loop : (p : Statement) → weight p < weight (Loop p)
in_loop p = one_below (weight p)

pub in_trap : (p : Statement) → weight p < weight (Trap p)
in_trap p = one_below (weight p)

pub in_local : (s : ℕ) (p : Statement) → weight p < weight (Local s p)
in_local s p = one_below (weight p)

pub below : (st s p : Statement) → st ≡ s → weight p < weight s → weight p < weight st
below st s p e h = subst (λ x. weight p < weight x) (sym e) h

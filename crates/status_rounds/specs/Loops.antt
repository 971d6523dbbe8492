-- How deep loops stand in one another. (This project's own.)
use Rattle.std.specs.Prelude.{ℕ, suc, max}
use Rattle.hh_term.specs.Statement.{Statement, If, Suspend, Seq, Par, Loop, Trap, Local}

-- the greatest number of loops round one node
abbrev pub loops_round : Statement → ℕ
loops_round (If e p q) = max (loops_round p) (loops_round q)
loops_round (Suspend e p) = loops_round p
loops_round (Seq p q) = max (loops_round p) (loops_round q)
loops_round (Par p q) = max (loops_round p) (loops_round q)
loops_round (Loop p) = suc (loops_round p)
loops_round (Trap p) = loops_round p
loops_round (Local s p) = loops_round p
loops_round _ = 0

-- Locals and async sites that are declared. (This project's own.)
use Rattle.std.specs.Prelude.{◌<◌, ℕ}
use Rattle.hh_term.specs.Statement.{Statement, If, Suspend, Seq, Par, Loop, Trap, Local, Async}

-- locals and sites of the statement lie below these numbers
abbrev pub LiesWithin : ℕ → ℕ → Statement → Type 0
LiesWithin signals sites (If e p q) = LiesWithin signals sites p × LiesWithin signals sites q
LiesWithin signals sites (Suspend e p) = LiesWithin signals sites p
LiesWithin signals sites (Seq p q) = LiesWithin signals sites p × LiesWithin signals sites q
LiesWithin signals sites (Par p q) = LiesWithin signals sites p × LiesWithin signals sites q
LiesWithin signals sites (Loop p) = LiesWithin signals sites p
LiesWithin signals sites (Trap p) = LiesWithin signals sites p
LiesWithin signals sites (Local s p) = (s < signals) × LiesWithin signals sites p
LiesWithin signals sites (Async a) = a < sites
LiesWithin signals sites _ = Unit {0}

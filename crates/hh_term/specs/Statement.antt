-- The kernel statements, without where they lie in memory. (Berry, The Constructive Semantics of Pure
-- Esterel: eleven
-- statements; `Async` is after HipHop.js.)
use Rattle.std.specs.Prelude.{ℕ, Option}
use Rattle.host_expr.specs.Expression.{Expression}

pub data Statement : Type 0 where
  Nothing : Statement
  Pause : Statement
  Emit : (s : ℕ) (e : Option Expression) → Statement
  If : (e : Expression) (p q : Statement) → Statement
  Suspend : (e : Expression) (p : Statement) → Statement
  Seq : (p q : Statement) → Statement
  Par : (p q : Statement) → Statement
  Loop : (p : Statement) → Statement
  Trap : (p : Statement) → Statement
  Exit : (k : ℕ) → Statement
  Local : (s : ℕ) (p : Statement) → Statement
  Async : (n : ℕ) → Statement

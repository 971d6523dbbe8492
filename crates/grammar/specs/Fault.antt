-- Why a text cannot be read, and where. This project's own.
use Rattle.std.specs.Prelude.{ℕ}

-- Unexpected: a token with which no text of the grammar goes on. EndOfText: the text ends where no text of
-- the grammar does. Deep: one bracket more than may be open at once. Large: one leaf or operator more than
-- an outermost expression may have. OutOfRange: a number that is not between these two, each of which it may
-- be.
pub data Fault : Type 0 where
  Unexpected : Fault
  EndOfText : Fault
  Deep : Fault
  Large : Fault
  OutOfRange : ℕ → ℕ → Fault

pub record Refusal : Type 0 where
  pub place : ℕ
  pub fault : Fault

-- The state of a source, and what reads do to it. This project's own.
use Rattle.std.specs.Prelude.{◌≡◌, ℕ, ◌≤◌, Option, List, length}
use Rattle.std.specs.Option.{option_map}
use Rattle.std.specs.Io.KnownBytes.{Consumes, IsAtEnd}
use Rattle.hh_io.specs.Bytes.{TakesAtMost}
use Rattle.hh_io.specs.Counts.{one_more}

-- the bytes still to come and how often the end was told, where a source tells them, and how often a read has
-- failed
pub record SourceState : Type 0 where
  pub rest : Option (List ℕ)
  pub ends : Option ℕ
  pub faults : ℕ

-- these bytes came; the end was not told, and no read failed
pub record Gives (old new : SourceState) (bytes : List ℕ) : Type 0 where
  pub came : Consumes old.rest new.rest bytes
  pub goes_on : new.ends ≡ old.ends
  pub quiet : new.faults ≡ old.faults

-- these bytes came, which were all that there were; the end was told once, and no read failed
pub record GivesAll (old new : SourceState) (bytes : List ℕ) : Type 0 where
  pub came : Consumes old.rest new.rest bytes
  pub ended : IsAtEnd new.rest
  pub told : new.ends ≡ option_map one_more old.ends
  pub quiet : new.faults ≡ old.faults

-- so many bytes came, whichever they are
abbrev pub GivesCount : SourceState → SourceState → ℕ → Type 0
GivesCount old new count = (bytes : List ℕ) × (length bytes ≡ count) × Gives old new bytes

-- no more bytes than this came
abbrev pub GivesAtMost : SourceState → SourceState → ℕ → Type 0
GivesAtMost old new most = (bytes : List ℕ) × (length bytes ≤ most) × Gives old new bytes

-- one read failed; no more bytes than this came or were lost, and the end was not told
pub record FailsReading (old new : SourceState) (most : ℕ) : Type 0 where
  pub lost : TakesAtMost most old.rest new.rest
  pub goes_on : new.ends ≡ old.ends
  pub fault : new.faults ≡ one_more old.faults

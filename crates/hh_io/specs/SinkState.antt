-- The state of a sink, and what writes do to it. This project's own.
use Rattle.std.specs.Prelude.{◌≡◌, ◌≢◌, ℕ, Option, List, []}
use Rattle.std.specs.Io.KnownBytes.{Appends}
use Rattle.hh_io.specs.Bytes.{AppendsPrefix}
use Rattle.hh_io.specs.Counts.{one_more}
use Rattle.hh_io.specs.declared.fault.SinkFault.{SinkFault}
use Rattle.hh_io.specs.declared.fault.SinkFault.TheVariants.{Failed, NoMemory}

-- the bytes that a sink was given, where it tells them, and how often a write has failed
pub record SinkState : Type 0 where
  pub written : Option (List ℕ)
  pub faults : ℕ

-- the text was added at the end, and no write failed
pub record Puts (old new : SinkState) (text : List ℕ) : Type 0 where
  pub added : Appends old.written new.written text
  pub quiet : new.faults ≡ old.faults

-- memory ran out: a prefix of the text was added, perhaps none of it, and no write failed
pub record PutsPart (old new : SinkState) (text : List ℕ) : Type 0 where
  pub prefix : AppendsPrefix old.written new.written text
  pub quiet : new.faults ≡ old.faults

-- one write failed, behind a prefix of the text, which is not empty
pub record FailsPutting (old new : SinkState) (text : List ℕ) : Type 0 where
  pub prefix : AppendsPrefix old.written new.written text
  pub fault : new.faults ≡ one_more old.faults
  pub some : text ≢ []

-- the text was cut off, for this cause
abbrev pub CutsOff : SinkState → SinkState → List ℕ → SinkFault → Type 0
CutsOff old new text Failed = FailsPutting old new text
CutsOff old new text NoMemory = PutsPart old new text

-- Sources and sinks in memory that fail at given calls. This project's own.
use Rattle.std.specs.Prelude.{ℕ, List, Bool, true, false, Some, if◌then◌else◌, Result, Ok, Err}
use Rattle.hh_io.specs.Counts.{one_more}
use Rattle.hh_io.specs.SinkState.{SinkState}
use Rattle.hh_io.specs.SourceState.{SourceState}
use Rattle.hh_io.specs.declared.fault.SinkFault.{SinkFault}
use Rattle.hh_io.specs.declared.fault.SinkFault.TheVariants as sink_fault

-- the numbers of the calls that fail, counted from 0, the number of the next call, and how often a call has
-- failed
pub record Calls : Type 0 where
  pub fails : List ℕ
  pub next : ℕ
  pub faults : ℕ

-- before the first call
abbrev pub first_call : List ℕ → Calls
first_call fails = record { fails = fails; next = 0; faults = 0 }

-- after a call that failed or did not
abbrev pub after_call : Bool → Calls → Calls
after_call failed c =
    record { fails = c.fails; next = one_more c.next; faults = if failed then one_more c.faults else c.faults }

-- a write failed, for another cause than memory
abbrev pub is_failed : Result ℕ SinkFault → Bool
is_failed (Err sink_fault.Failed) = true
is_failed (Err sink_fault.NoMemory) = false
is_failed (Ok n) = false

-- a source: what is still to come, how often it has told its end, and its calls
pub record Reading : Type 0 where
  pub rest : List ℕ
  pub ends : ℕ
  pub calls : Calls

-- what a source in memory tells
abbrev pub source_state : Reading → SourceState
source_state s = record { rest = Some s.rest; ends = Some s.ends; faults = s.calls.faults }

-- a sink: what it was given, and its calls
pub record Writing : Type 0 where
  pub written : List ℕ
  pub calls : Calls

-- what a sink in memory tells
abbrev pub sink_state : Writing → SinkState
sink_state s = record { written = Some s.written; faults = s.calls.faults }

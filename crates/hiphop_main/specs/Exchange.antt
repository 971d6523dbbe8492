-- What a call does to its source and to its sink: the states of both, before and after. (This project's own.)
use Rattle.hh_io.specs.SourceState.{SourceState}
use Rattle.hh_io.specs.SinkState.{SinkState}

pub record Exchange : Type 0 where
  pub source_before : SourceState
  pub source_after : SourceState
  pub sink_before : SinkState
  pub sink_after : SinkState

abbrev pub exchange : SourceState → SourceState → SinkState → SinkState → Exchange
exchange source source' sink sink' =
    record { source_before = source; source_after = source'; sink_before = sink; sink_after = sink' }

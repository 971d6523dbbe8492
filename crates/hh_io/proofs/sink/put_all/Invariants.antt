use Rattle.std.proofs.Common.{◌≡◌, ◌-◌, ◌≤◌, length, take}
use Rattle.hh_io.specs.SinkState.{Puts}
use Rattle.hh_io.proofs.sink.put_all.Given as goal

abbrev pub invariant-loop-put : goal.invariant-loop-put
invariant-loop-put g l = record {
  within : l.put ≤ length l.bytes;
  added : Puts (g.K.Sink.state l.fn.sink) (g.K.Sink.state l.sink) (take l.put l.bytes);
  untouched : l.put ≡ 0 → g.K.Sink.state l.sink ≡ g.K.Sink.state l.fn.sink;
}

abbrev pub decreases-loop-put : goal.decreases-loop-put
decreases-loop-put g l = length l.bytes - l.put

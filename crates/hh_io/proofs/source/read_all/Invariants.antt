use Rattle.std.proofs.Common.{◌-◌, ◌<◌, ◌≤◌, vec_len}
use Rattle.hh_io.specs.SourceState.{Gives}
use Rattle.hh_io.proofs.source.read_all.Given as goal

abbrev pub invariant-loop-buffer : goal.invariant-loop-buffer
invariant-loop-buffer g l = record {
  room : 0 < vec_len l.buffer;
  within : vec_len l.bytes ≤ l.limit;
  given : Gives (g.S.Source.state l.fn.source) (g.S.Source.state l.source) l.bytes.items;
}

abbrev pub decreases-loop-buffer : goal.decreases-loop-buffer
decreases-loop-buffer g l = l.limit - vec_len l.bytes

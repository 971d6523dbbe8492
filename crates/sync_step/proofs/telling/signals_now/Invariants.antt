use Rattle.std.proofs.Common.{◌≡◌, map}
use Rattle.std.specs.List.{range_with_len}
use Rattle.host_expr.specs.Environment.{env_of}
use Rattle.sync_step.specs.Reacting.{now_at}
use Rattle.sync_step.specs.Told.{now_in}
use Rattle.sync_step.proofs.telling.signals_now.Given as goal

abbrev pub invariant-loop-signal : goal.invariant-loop-signal
invariant-loop-signal l = map now_in l.signals.items ≡ map (now_at (env_of l.cells) l.emitted)
    (range_with_len 0 l.signal)

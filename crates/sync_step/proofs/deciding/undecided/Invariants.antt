use Rattle.host_expr.specs.Environment.{env_of}
use Rattle.sync_step.proofs.Undecided.{UndecidedTo}
use Rattle.sync_step.proofs.deciding.undecided.Given as goal

abbrev pub invariant-loop-signal : goal.invariant-loop-signal
invariant-loop-signal l = UndecidedTo (env_of l.cells) l.count l.signal l.signals.items

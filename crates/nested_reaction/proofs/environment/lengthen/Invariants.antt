use Rattle.std.proofs.Common.{◌≡◌, length}
use Rattle.host_expr.specs.Environment.{env_of}
use Rattle.nested_reaction.proofs.environment.lengthen.Given as goal

abbrev pub invariant-loop-signal : goal.invariant-loop-signal
invariant-loop-signal l = (env_of l.signals.items ≡ env_of l.initial.signals.items) × (length l.signals.items ≡ l.signal)

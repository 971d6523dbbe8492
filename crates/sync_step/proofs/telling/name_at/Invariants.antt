use Rattle.sync_step.proofs.Named.{NoneBefore}
use Rattle.sync_step.proofs.telling.name_at.Given as goal

abbrev pub invariant-loop-declared : goal.invariant-loop-declared
invariant-loop-declared l = NoneBefore l.declared-items l.pos l.declared-index

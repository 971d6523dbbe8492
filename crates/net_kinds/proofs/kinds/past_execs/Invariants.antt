use Rattle.net_list.specs.Kinds.{exec_fits}
use Rattle.net_range.proofs.Walk.{IsAt}
use Rattle.net_kinds.proofs.kinds.past_execs.Given as goal

abbrev pub invariant-loop-exec : goal.invariant-loop-exec
invariant-loop-exec l = IsAt (exec_fits l.nets l.scope.signals.items) l.nets.execs l.from l.exec-index l.line

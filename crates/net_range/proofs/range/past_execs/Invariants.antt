use Rattle.net_list.specs.Range.{exec_in_range}
use Rattle.net_range.proofs.Walk.{IsAt}
use Rattle.net_range.proofs.range.past_execs.Given as goal

abbrev pub invariant-loop-exec : goal.invariant-loop-exec
invariant-loop-exec l = IsAt (exec_in_range l.nets) l.nets.execs l.from l.exec-index l.line

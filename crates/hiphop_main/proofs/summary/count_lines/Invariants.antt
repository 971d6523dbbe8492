use Rattle.std.proofs.Common.{length}
use Rattle.hiphop_main.proofs.Counts.{Counted}
use Rattle.hiphop_main.proofs.summary.count_lines.Given as goal

abbrev pub invariant-loop-rest : goal.invariant-loop-rest
invariant-loop-rest l = Counted l.text l.rest l.lines l.refused

abbrev pub decreases-loop-rest : goal.decreases-loop-rest
decreases-loop-rest l = length l.rest

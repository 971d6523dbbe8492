use Rattle.std.proofs.Common.{length}
use Rattle.hiphop_main.proofs.LineLaws.{Parted}
use Rattle.hiphop_main.proofs.split.split.Given as goal

abbrev pub invariant-loop-rest : goal.invariant-loop-rest
invariant-loop-rest l = Parted l.input l.rest l.start

abbrev pub decreases-loop-rest : goal.decreases-loop-rest
decreases-loop-rest l = length l.rest

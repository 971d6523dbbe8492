use Rattle.std.proofs.Common.{length}
use Rattle.nested_step.proofs.leaving.+sum.Given as goal

abbrev pub decreases-sum : goal.decreases-sum
decreases-sum l = length l.values.now

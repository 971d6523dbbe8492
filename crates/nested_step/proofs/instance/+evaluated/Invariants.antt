use Rattle.std.proofs.Common.{length}
use Rattle.nested_step.proofs.instance.+evaluated.Given as goal

abbrev pub decreases-evaluated : goal.decreases-evaluated
decreases-evaluated l = length l.expressions.now

use Rattle.std.proofs.Common.{length}
use Rattle.nested_step.proofs.reaction.+given.Given as goal

abbrev pub decreases-given : goal.decreases-given
decreases-given l = length l.inputs.now

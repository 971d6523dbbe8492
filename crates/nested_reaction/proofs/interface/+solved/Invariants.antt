use Rattle.std.proofs.Common.{length}
use Rattle.nested_reaction.proofs.interface.+solved.Given as goal

abbrev pub decreases-solved : goal.decreases-solved
decreases-solved l = length l.lasts.now

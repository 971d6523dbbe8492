use Rattle.std.proofs.Common.{length}
use Rattle.nested_reaction.proofs.combination.+truths.Given as goal

abbrev pub decreases-truths : goal.decreases-truths
decreases-truths l = length l.values.now

use Rattle.std.proofs.Common.{length}
use Rattle.nested_reaction.proofs.combination.+numbers.Given as goal

abbrev pub decreases-numbers : goal.decreases-numbers
decreases-numbers l = length l.values.now

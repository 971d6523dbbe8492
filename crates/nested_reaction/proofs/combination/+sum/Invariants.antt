use Rattle.std.proofs.Common.{length}
use Rattle.nested_reaction.proofs.combination.+sum.Given as goal

abbrev pub decreases-sum : goal.decreases-sum
decreases-sum l = length l.numbers.now

use Rattle.std.proofs.Common.{length}
use Rattle.nested_reaction.proofs.bag.+without.Given as goal

abbrev pub decreases-without : goal.decreases-without
decreases-without l = length l.bag.now

use Rattle.std.proofs.Common.{length}
use Rattle.nested_reaction.proofs.combination.+greatest.Given as goal

abbrev pub decreases-greatest : goal.decreases-greatest
decreases-greatest l = length l.others.now

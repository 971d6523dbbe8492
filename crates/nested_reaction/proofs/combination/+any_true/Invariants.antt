use Rattle.std.proofs.Common.{length}
use Rattle.nested_reaction.proofs.combination.+any_true.Given as goal

abbrev pub decreases-any_true : goal.decreases-any_true
decreases-any_true l = length l.truths.now

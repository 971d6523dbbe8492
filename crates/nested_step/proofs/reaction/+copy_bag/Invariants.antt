use Rattle.std.proofs.Common.{length}
use Rattle.nested_step.proofs.reaction.+copy_bag.Given as goal

abbrev pub decreases-copy_bag : goal.decreases-copy_bag
decreases-copy_bag l = length l.bag.now

use Rattle.std.proofs.Common.{length}
use Rattle.nested_reaction.proofs.combination.+least.Given as goal

abbrev pub decreases-least : goal.decreases-least
decreases-least l = length l.others.now

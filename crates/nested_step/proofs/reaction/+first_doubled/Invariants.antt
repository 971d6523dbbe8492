use Rattle.std.proofs.Common.{length}
use Rattle.nested_step.proofs.reaction.+first_doubled.Given as goal

abbrev pub decreases-first_doubled : goal.decreases-first_doubled
decreases-first_doubled l = length l.others.now

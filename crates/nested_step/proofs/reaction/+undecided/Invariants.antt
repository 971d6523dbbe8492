use Rattle.std.proofs.Common.{length}
use Rattle.nested_step.proofs.reaction.+undecided.Given as goal

abbrev pub decreases-undecided : goal.decreases-undecided
decreases-undecided l = length l.lasts.now

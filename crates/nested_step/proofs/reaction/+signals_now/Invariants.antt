use Rattle.std.proofs.Common.{length}
use Rattle.nested_step.proofs.reaction.+signals_now.Given as goal

abbrev pub decreases-signals_now : goal.decreases-signals_now
decreases-signals_now l = length l.lasts.now

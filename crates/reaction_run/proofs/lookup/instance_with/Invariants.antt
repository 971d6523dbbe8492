use Rattle.std.proofs.Common.{◌-◌}
use Rattle.reaction_run.proofs.Halving.{Between}
use Rattle.reaction_run.proofs.lookup.instance_with.Given as goal

abbrev pub invariant-loop-low : goal.invariant-loop-low
invariant-loop-low l = Between l.instances.instances l.id l.low l.high

abbrev pub decreases-loop-low : goal.decreases-loop-low
decreases-loop-low l = l.high - l.low

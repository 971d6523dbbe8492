use Rattle.std.proofs.Common.{◌-◌, ◌≤◌}
use Rattle.reaction_run.specs.Apart.{AreApart}
use Rattle.reaction_run.proofs.apart.all_differ.Given as goal

abbrev pub invariant-loop-signals : goal.invariant-loop-signals
invariant-loop-signals l = (l.from ≤ l.signals) × AreApart 0 l.from l.inputs

abbrev pub decreases-loop-signals : goal.decreases-loop-signals
decreases-loop-signals l = l.signals - l.from

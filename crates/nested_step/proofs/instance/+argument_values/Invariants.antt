use Rattle.std.proofs.Common.{length}
use Rattle.nested_step.proofs.instance.+argument_values.Given as goal

abbrev pub decreases-argument_values : goal.decreases-argument_values
decreases-argument_values l = length l.cells.now

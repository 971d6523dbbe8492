use Rattle.std.proofs.Common.{length}
use Rattle.scenario_lines.proofs.Taking.{TakenSoFar}
use Rattle.scenario_lines.proofs.read.read_inputs.Given as goal

abbrev pub invariant-loop-part : goal.invariant-loop-part
invariant-loop-part l = TakenSoFar l.index l.line l.number l.inputs.items l.rest l.noted

abbrev pub decreases-loop-part : goal.decreases-loop-part
decreases-loop-part l = length l.rest

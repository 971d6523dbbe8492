use Rattle.std.proofs.Common.{length}
use Rattle.scenario_lines.proofs.Meaning.{ReadSoFar}
use Rattle.scenario_lines.proofs.read.read_scenario.Given as goal

abbrev pub invariant-lines : goal.invariant-lines
invariant-lines l = ReadSoFar l.mode l.signals l.text l.lines.items l.number l.rest l.noted

abbrev pub decreases-lines : goal.decreases-lines
decreases-lines l = length l.rest

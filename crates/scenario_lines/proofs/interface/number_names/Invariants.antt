use Rattle.scenario_lines.specs.Index.{IsIndexBelow}
use Rattle.scenario_lines.proofs.interface.number_names.Given as goal

abbrev pub invariant-loop-number : goal.invariant-loop-number
invariant-loop-number l = IsIndexBelow l.signals l.numbers l.number

use Rattle.scenario_play.proofs.LineLaws.{Printed}
use Rattle.scenario_play.proofs.line.print_log.Given as goal

abbrev pub invariant-loop-entry : goal.invariant-loop-entry
invariant-loop-entry l =
    Printed l.signals l.bodies l.fn.log l.entry-index l.fn.number l.next l.initial.out.items l.out.items

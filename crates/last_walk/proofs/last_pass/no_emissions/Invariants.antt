use Rattle.last_walk.specs.Whole.{NoEmissions}
use Rattle.last_walk.proofs.last_pass.no_emissions.Given as goal

abbrev pub invariant-loop-signal : goal.invariant-loop-signal
invariant-loop-signal l = NoEmissions l.signal l.none.items

use Rattle.net_list.specs.Range.{gate_in_range}
use Rattle.net_range.proofs.Walk.{IsAt}
use Rattle.net_range.proofs.range.past_gates.Given as goal

abbrev pub invariant-loop-gate : goal.invariant-loop-gate
invariant-loop-gate l = IsAt (gate_in_range l.nets) l.nets.gates l.from l.gate-index l.line

use Rattle.net_list.specs.Range.{emit_in_range}
use Rattle.net_range.proofs.Walk.{IsAt}
use Rattle.net_range.proofs.range.past_emits.Given as goal

abbrev pub invariant-loop-emit : goal.invariant-loop-emit
invariant-loop-emit l = IsAt (emit_in_range l.nets) l.nets.emits l.from l.emit-index l.line

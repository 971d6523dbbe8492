use Rattle.net_list.specs.Kinds.{emit_fits}
use Rattle.net_range.proofs.Walk.{IsAt}
use Rattle.net_kinds.proofs.kinds.past_emits.Given as goal

abbrev pub invariant-loop-emit : goal.invariant-loop-emit
invariant-loop-emit l = IsAt (emit_fits l.nets l.scope.signals.items) l.nets.emits l.from l.emit-index l.line

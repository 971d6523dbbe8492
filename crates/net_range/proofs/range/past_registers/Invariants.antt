use Rattle.net_list.specs.Range.{register_in_range}
use Rattle.net_range.proofs.Walk.{IsAt}
use Rattle.net_range.proofs.range.past_registers.Given as goal

abbrev pub invariant-loop-register : goal.invariant-loop-register
invariant-loop-register l = IsAt (register_in_range l.nets) l.nets.registers l.from l.register-index l.line

use Rattle.net_list.specs.Range.{body_in_range}
use Rattle.net_range.proofs.Walk.{IsAt}
use Rattle.net_range.proofs.range.past_bodies.Given as goal

abbrev pub invariant-loop-body : goal.invariant-loop-body
invariant-loop-body l = IsAt body_in_range l.nets.bodies l.from l.body-index l.line

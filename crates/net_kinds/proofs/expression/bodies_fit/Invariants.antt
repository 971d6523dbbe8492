use Rattle.std.proofs.Common.{◌≡◌, map, take}
use Rattle.net_list.specs.Kinds.{body_fits}
use Rattle.net_kinds.proofs.expression.bodies_fit.Given as goal

abbrev pub invariant-loop-body : goal.invariant-loop-body
invariant-loop-body l = l.fit.items ≡ map body_fits (take l.body-index l.bodies)

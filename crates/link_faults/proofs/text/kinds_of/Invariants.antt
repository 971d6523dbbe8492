use Rattle.std.proofs.Common.{◌≡◌, map, take}
use Rattle.link_faults.proofs.text.kinds_of.Given as goal

abbrev pub invariant-parameters : goal.invariant-parameters
invariant-parameters l = l.kinds ≡ map (λ p. p.kind) (take l.parameter-index l.parameters)

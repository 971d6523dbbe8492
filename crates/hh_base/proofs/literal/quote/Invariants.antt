use Rattle.std.proofs.Common.{◌≡◌, ◌∷◌, take}
use Rattle.std.specs.List.{flat_map}
use Rattle.hh_base.specs.Literal.{escaped}
use Rattle.hh_base.proofs.literal.quote.Given as goal

abbrev pub invariant-loop-byte : goal.invariant-loop-byte
invariant-loop-byte l = l.out.items ≡ 34 ∷ flat_map escaped (take l.byte-index l.text)

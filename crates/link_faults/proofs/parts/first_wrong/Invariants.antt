use Rattle.std.proofs.Common.{◌≡◌, take}
use Rattle.link_faults.specs.PartFaults.{first_wrong}
use Rattle.link_faults.proofs.parts.first_wrong.Given as goal

abbrev pub invariant-signals : goal.invariant-signals
invariant-signals l = l.first ≡ first_wrong (take l.signal-index l.signals)

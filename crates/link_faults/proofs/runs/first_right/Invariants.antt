use Rattle.std.proofs.Common.{◌≡◌, take}
use Rattle.link_faults.specs.Meanings.{meaning_of}
use Rattle.link_faults.specs.RunFaults.{first_right}
use Rattle.link_faults.proofs.runs.first_right.Given as goal

abbrev pub invariant-rights : goal.invariant-rights
invariant-rights l = l.first ≡ first_right (meaning_of l.names) (take l.binding-index l.bindings)

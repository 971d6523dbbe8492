use Rattle.std.proofs.Common.{◌≡◌, take}
use Rattle.link_verdict.specs.Cycles.{first_from}
use Rattle.link_verdict.proofs.cycles.first_in_all.Given as goal

abbrev pub invariant-modules : goal.invariant-modules
invariant-modules l = l.first ≡ first_from l.components.roots 0 (take l.caller l.runs)

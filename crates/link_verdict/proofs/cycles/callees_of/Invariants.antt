use Rattle.std.proofs.Common.{◌≡◌, take}
use Rattle.link_verdict.specs.Cycles.{callees}
use Rattle.link_verdict.proofs.cycles.callees_of.Given as goal

abbrev pub invariant-runs : goal.invariant-runs
invariant-runs l = l.places ≡ callees (take l.run-index l.runs)

use Rattle.std.proofs.Common.{◌≡◌, take}
use Rattle.link_faults.specs.Earliest.{first_by}
use Rattle.link_verdict.specs.Cycles.{first_of_run}
use Rattle.link_verdict.proofs.cycles.first_in_module.Given as goal

abbrev pub invariant-runs : goal.invariant-runs
invariant-runs l = l.first ≡ first_by (first_of_run l.components.roots l.caller) (take l.run-index l.runs)

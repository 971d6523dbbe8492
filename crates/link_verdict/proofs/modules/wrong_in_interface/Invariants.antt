use Rattle.std.proofs.Common.{◌≡◌, take}
use Rattle.link_faults.specs.Earliest.{first_by}
use Rattle.link_verdict.specs.Declarations.{wrong_declared}
use Rattle.link_verdict.proofs.modules.wrong_in_interface.Given as goal

abbrev pub invariant-interface : goal.invariant-interface
invariant-interface l = l.first ≡ first_by wrong_declared (take l.node-index l.interface)

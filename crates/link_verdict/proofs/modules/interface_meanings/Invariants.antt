use Rattle.std.proofs.Common.{◌≡◌, map, take}
use Rattle.link_faults.specs.Meanings.{node_meaning}
use Rattle.link_verdict.proofs.modules.interface_meanings.Given as goal

abbrev pub invariant-interface : goal.invariant-interface
invariant-interface l = l.meanings ≡ map node_meaning (take l.node-index l.interface)

use Rattle.std.proofs.Common.{◌≡◌, take}
use Rattle.module_link.proofs.copies.copy_interface.Given as goal

abbrev pub invariant-loop-node : goal.invariant-loop-node
invariant-loop-node l = l.copies.items ≡ take l.node-index l.interface

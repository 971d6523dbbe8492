use Rattle.std.proofs.Common.{◌≡◌, take}
use Rattle.kernel_expand.specs.Expansion.{at_start}
use Rattle.statement_build.specs.Building.{numbered_of}
use Rattle.statement_build.proofs.declarations.start.Given as goal

abbrev pub invariant-loop-node : goal.invariant-loop-node
invariant-loop-node l = numbered_of l.builder ≡ at_start (take l.node-index l.interface)

use Rattle.std.proofs.Common.{arith}
use Rattle.statement_build.specs.Building.{numbered_of}
use Rattle.statement_build.proofs.Declaring.{start_more}
use Rattle.statement_build.proofs.declarations.start.Goals as goal

pub loop-node-preserved : goal.loop-node-preserved
loop-node-preserved c =
    start_more c.args.interface.now c.loop-node.node-index c.node-item.result (numbered_of c.loop-node.builder)
    (numbered_of c.declare_as.new.self) (omega arith) c.node-item.is c.loop-node.invariant
    c.in_ok-declare_as.ensures.after

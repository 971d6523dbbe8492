use Rattle.std.proofs.Common.{arith}
use Rattle.statement_build.specs.Building.{numbered_of}
use Rattle.statement_build.proofs.Declaring.{declared_one_more}
use Rattle.statement_build.proofs.builder.Builder.declare_all.Goals as goal

pub loop-node-preserved : goal.loop-node-preserved
loop-node-preserved c =
    declared_one_more c.args.nodes.now c.loop-node.node-index c.node-item.result (numbered_of c.args.self.now)
    (numbered_of c.loop-node.self) (numbered_of c.declare.new.self) c.loop-node.numbers.items
    c.push.new.self.items c.in_ok-declare.field-0 (omega arith) c.node-item.is c.loop-node.invariant
    c.in_ok-declare.ensures.number c.in_ok-declare.ensures.after c.in_ok-push.ensures.items

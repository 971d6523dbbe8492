use Rattle.std.proofs.Common.{arith}
use Rattle.net_block.specs.Codes.{synchronized, side_by_side}
use Rattle.net_block.specs.Drawn.{drawn, next_of}
use Rattle.net_block.proofs.Merging.{merging_starts, synchronized_goes_on, synchronized_ends}
use Rattle.net_block.proofs.drawing.Drawing.synchronized.Goals as goal

pub loop-code-init : goal.loop-code-init
loop-code-init c =
    let D = drawn c.args.self.now in
    merging_starts D
    (synchronized (next_of D).gate c.args.left_dead c.args.right_dead (side_by_side c.args.left.now c.args.right.now))
    c.new-codes.result.items c.new-codes.ensures.items

pub loop-code-preserved : goal.loop-code-preserved
loop-code-preserved c =
    let D = drawn c.args.self.now in
    synchronized_goes_on D (drawn c.loop-code.self) (drawn c.joined_code.new.self) c.args.left.now c.args.right.now
    c.loop-code.codes.items c.push.new.self.items c.loop-code.wires c.in_ok-wires.wires
    c.code_gate.result c.code_gate-in-loop-code.result c.loop-code.code _
    (synchronized (next_of D).gate c.args.left_dead c.args.right_dead (side_by_side c.args.left.now c.args.right.now))
    c.code_gate.ensures c.code_gate-in-loop-code.ensures (omega arith) (omega arith) c.in_ok-push.ensures.items c.loop-code.invariant c.in_ok-wires.ensures

pub returns : goal.returns
returns c =
    let D = drawn c.args.self.now in
    synchronized_ends D (drawn c.loop-code.self) c.args.left.now c.args.right.now c.loop-code.codes.items c.loop-code.wires
    c.loop-code.code
    (synchronized (next_of D).gate c.args.left_dead c.args.right_dead (side_by_side c.args.left.now c.args.right.now))
    (omega arith) c.loop-code.invariant

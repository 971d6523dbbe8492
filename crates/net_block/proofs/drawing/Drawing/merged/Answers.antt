use Rattle.std.proofs.Common.{arith}
use Rattle.net_block.specs.Codes.{merged, side_by_side}
use Rattle.net_block.specs.Drawn.{drawn, next_of}
use Rattle.net_block.proofs.Merging.{merging_starts, merged_goes_on, merged_ends}
use Rattle.net_block.proofs.drawing.Drawing.merged.Goals as goal

pub loop-code-init : goal.loop-code-init
loop-code-init c =
    let D = drawn c.args.self.now in
    merging_starts D (merged (next_of D).gate (side_by_side c.args.left.now c.args.right.now)) c.new-codes.result.items
    c.new-codes.ensures.items

pub loop-code-preserved : goal.loop-code-preserved
loop-code-preserved c =
    let D = drawn c.args.self.now in
    merged_goes_on D (drawn c.loop-code.self) (drawn c.either.new.self) c.args.left.now c.args.right.now
    c.loop-code.codes.items c.push.new.self.items c.code_gate.result c.code_gate-in-loop-code.result c.in_ok-gate.gate
    c.loop-code.code _ (merged (next_of D).gate (side_by_side c.args.left.now c.args.right.now))
    c.code_gate.ensures c.code_gate-in-loop-code.ensures (omega arith) (omega arith) c.in_ok-push.ensures.items c.loop-code.invariant c.in_ok-gate.ensures

pub returns : goal.returns
returns c =
    let D = drawn c.args.self.now in
    merged_ends D (drawn c.loop-code.self) c.args.left.now c.args.right.now c.loop-code.codes.items c.loop-code.code
    (merged (next_of D).gate (side_by_side c.args.left.now c.args.right.now)) (omega arith) c.loop-code.invariant

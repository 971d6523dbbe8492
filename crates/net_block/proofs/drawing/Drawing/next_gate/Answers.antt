use Rattle.std.proofs.Common.{◌≡◌, ◌+◌, ◌∙◌, sym, length, arith}
use Rattle.net_block.proofs.Growing.{up_is}
use Rattle.net_block.proofs.drawing.Drawing.next_gate.Goals as goal

pub returns : goal.returns
returns c =
    let d = c.args.self.now in
    let behind = c.in_ok-number.ensures in
    let long = c.len.ensures in
    let ok = d.gates.ok in
    let is : c.in_ok-number.number ≡ length d.gates.items + d.first_gate = omega (arith, behind, long, ok) in
    is ∙ sym (up_is (length d.gates.items) d.first_gate)

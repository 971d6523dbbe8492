use Rattle.std.proofs.Common.{◌∙◌, [], ◌∷◌}
use Rattle.net_list.specs.declared.record.NetEmit.{NetEmit}
use Rattle.net_list.specs.declared.record.Sent.{Sent}
use Rattle.net_block.specs.Drawn.{drawn, with_parts}
use Rattle.net_block.specs.Parts.{only_gates}
use Rattle.net_block.proofs.Rowing.{with_emission}
use Rattle.net_block.proofs.drawing.Drawing.emit.Goals as goal

pub returns : goal.returns
returns c =
    let A = drawn c.args.self.now in
    let go = c.args.wires.go in
    let made : Sent → NetEmit = (λ s. record { control = go; signal = c.args.signal; sent = s; pos = c.args.pos }) in
    record {
      sel = c.in_ok-ends.ensures.sel;
      codes = c.in_ok-ends.ensures.codes;
      drawn = with_emission A (drawn c.note.new.self) (made c.in_ok-sent.sent) c.push.new.self.items c.in_ok-note.ensures
          c.in_ok-push.ensures.items
          ∙ (λ i. with_parts A (record (only_gates []) { emits = made (c.in_ok-sent.ensures i) ∷ [] }));
    }

use Rattle.std.proofs.Common.{◌∙◌, sym, ap}
use Rattle.net_block.specs.Block.{answers, optional}
use Rattle.net_block.specs.Drawn.{drawn, with_parts, only_emits}
use Rattle.net_block.proofs.Growing.{with_none}
use Rattle.net_block.proofs.Rowing.{with_emission}
use Rattle.net_block.proofs.drawing.Drawing.answer.Goals as goal

pub returns-in-None : goal.returns-in-None
returns-in-None c =
    let D = drawn c.args.self.now in
    let made = answers c.args.pos c.args.site c.args.sends in
    sym (with_none D) ∙ ap (λ o. with_parts D (only_emits (optional made o))) (sym c.in-None.is)

pub returns-in_ok-push-in-Some : goal.returns-in_ok-push-in-Some
returns-in_ok-push-in-Some c =
    let D = drawn c.args.self.now in
    let made = answers c.args.pos c.args.site c.args.sends in
    with_emission D (drawn c.note.new.self) (made c.in-Some.signal) c.push.new.self.items c.in_ok-note-in-Some.ensures
    c.in_ok-push-in-Some.ensures.items ∙ ap (λ o. with_parts D (only_emits (optional made o))) (sym c.in-Some.is)

use Rattle.std.proofs.Common.{◌∙◌, Some, false, [], ◌∷◌}
use Rattle.net_block.specs.Drawn.{drawn}
use Rattle.net_block.proofs.Rowing.{pause_rests, pause_ends, pause_drawn, with_register}
use Rattle.net_block.proofs.drawing.Drawing.pause.Goals as goal

pub returns : goal.returns
returns c =
    let A = drawn c.args.self.now in
    let B = drawn c.gate.new.self in
    let C = drawn c.and.new.self in
    let D = drawn c.and-2.new.self in
    let E = drawn c.or.new.self in
    let F = drawn c.gate-2.new.self in
    let G = drawn c.and-3.new.self in
    let w = c.args.wires in
    let x = c.in_ok-register.register in
    let r = c.in_ok-rests.rests in
    let e = c.in_ok-ends.ends in
    let h = c.in_ok-held.held in
    let p = c.in_ok-pauses.pauses in
    let l = c.in_ok-lives.lives in
    let n = c.in_ok-next.next in
    let is = c.in_ok-register.ensures in
    let u1 = c.in_ok-rests.ensures in
    let u2 = c.in_ok-ends.ensures in
    let u3 = c.in_ok-held.ensures in
    let u4 = c.in_ok-pauses.ensures in
    let u5 = c.in_ok-lives.ensures in
    let u6 = c.in_ok-next.ensures in
    record {
      sel = pause_rests A B C D E F G w x r e h p l n is u1 u2 u3 u4 u5 u6;
      codes = c.in_ok-codes.ensures
          ∙ (λ i. Some (pause_ends A B C D E F G w x r e h p l n is u1 u2 u3 u4 u5 u6 i) ∷ Some w.go ∷ []);
      drawn = with_register G ((false, n) ∷ []) c.push.new.self.items c.in_ok-push.ensures.items
          ∙ pause_drawn A B C D E F G w x r e h p l n is u1 u2 u3 u4 u5 u6;
    }

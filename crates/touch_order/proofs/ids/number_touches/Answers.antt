use Rattle.std.proofs.Common.{refl, sym, ◌∙◌, map, arith}
use Rattle.std.proofs.Math.ListN.{length-set}
use Rattle.hh_term.specs.Touches.{numbered}
use Rattle.last_walk.specs.LastWalk.{touch_of}
use Rattle.touch_order.proofs.Numbering.{one_numbered, all_numbered}
use Rattle.touch_order.proofs.ids.number_touches.Goals as goal

pub loop-at-init : goal.loop-at-init
loop-at-init c = record { many = refl; numbered = refl }

pub loop-at-preserved : goal.loop-at-preserved
loop-at-preserved c =
    let i = c.loop-at.invariant in
    let v = c.loop-at.touches.items in
    record {
      many = length-set v c.loop-at.at c.number_touch.new.touch ∙ i.many;
      numbered = one_numbered (numbered c.args.last (map touch_of c.args.touches.now.items)) c.loop-at.at c.loop-at.last
          c.in_ok-last.last v c.index_mut.result.now c.number_touch.new.touch
          (omega (arith, c.loop-at-test.true, c.len-at-end.ensures, i.many)) c.index_mut.ensures.value
          c.in_ok-last.ensures i.numbered;
    }

pub returns : goal.returns
returns c =
    let i = c.loop-at.invariant in
    sym (i.numbered ∙ all_numbered c.loop-at.at c.loop-at.last c.loop-at.touches.items
    (omega (arith, c.loop-at-test.false, c.len-at-end.ensures, i.many)))

use Rattle.std.proofs.Common.{sym, ap, ◌∙◌, ◌-◌, length, map, arith}
use Rattle.last_walk.specs.LastWalk.{touch_of}
use Rattle.last_walk.proofs.Stopping.{halted, none_halted, same_many, all_halted, step}
use Rattle.last_walk.proofs.touch.stop_from.Goals as goal

pub loop-at-init : goal.loop-at-init
loop-at-init c =
    let f = c.args.from in
    let ts = c.args.touches.now.items in
    record { order = omega arith; halted = sym (ap (λ n. halted f n ts) (omega arith) ∙ none_halted f ts) }

pub loop-at-preserved : goal.loop-at-preserved
loop-at-preserved c =
    let i = c.loop-at.invariant in
    record {
      order = omega (arith, i.order);
      halted = step c.args.from c.loop-at.at c.args.touches.now.items c.loop-at.touches.items c.index_mut.result.now
          i.order
          (omega (
            arith,
            c.loop-at-test.true,
            c.len-at-end.ensures,
            ap length i.halted,
            same_many c.args.from
                (c.loop-at.at - c.args.from) c.args.touches.now.items,
          )) i.halted c.index_mut.ensures.value;
    }

pub returns : goal.returns
returns c =
    let i = c.loop-at.invariant in
    ap (map touch_of) i.halted ∙ all_halted c.args.from (c.loop-at.at - c.args.from) c.args.touches.now.items
    (omega (arith, i.order, c.loop-at-test.false, c.len-at-end.ensures))

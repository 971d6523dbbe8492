use Rattle.std.proofs.Common.{◌≡◌, ◌+◌, ◌++◌, ◌∷◌, [], ◌∙◌, arith}
use Rattle.loop_copy.proofs.Lists.{range_append}
use Rattle.loop_copy.proofs.declarations.own_numbers.Goals as goal

pub loop-place-preserved : goal.loop-place-preserved
loop-place-preserved c =
    let place = c.loop-place.place in
    let is = c.in_ok-number.ensures in
    let next : c.in_ok-number.field-0 ≡ 0 + place = omega (arith, is) in
    c.in_ok-push.ensures.items ∙ (λ i. c.loop-place.invariant i ++ next i ∷ []) ∙ range_append 0 place 1

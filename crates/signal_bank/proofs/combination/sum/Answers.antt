use Rattle.std.proofs.Common.{◌≡◌, rules, arith}
use Rattle.std.specs.Prelude.{◌+ℤ◌}
use Rattle.std.proofs.lemmas.Int.{ints}
use mir.Syntax.{w64, w128}
use mir.Val.{to_z, SFits}
use Rattle.signal_bank.proofs.Folds.{numbers_here, numbers_past, sum_met}
use Rattle.signal_bank.proofs.combination.sum.Goals as goal
use Rattle.signal_bank.proofs.combination.sum.Goals.{in-Int, in_default}

pub loop-value-preserved : goal.loop-value-preserved
loop-value-preserved c = elim c.match-value.branch [
  | in-Int w ↦ (
      let fits : SFits w64 w.in-Int.number = search rules in
      let new : to_z w128 c.match-value.sum-bits ≡ to_z w128 c.loop-value.sum-bits +ℤ w.in-Int.number =
      omega (arith, ints) in
      record {
        whole = sum_met _ _ _ _ _ _ c.loop-value.invariant.whole
            (numbers_here _ _ _ c.loop-value-test.true c.value-item.is _ w.in-Int.is) new;
        low = omega (arith, ints);
        high = omega (arith, ints);
      })
  | in_default w ↦ (
      let past =
      numbers_past c.args.rest.now _ _ c.loop-value-test.true c.value-item.is w.in_default.not-Int in
      record { whole = cc; low = omega (arith, ints); high = omega (arith, ints) })
]

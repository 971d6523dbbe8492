use Rattle.std.proofs.Common.{◌≡◌, rules}
use Rattle.std.specs.Int.{int_min}
use Rattle.std.proofs.lemmas.Int.{to_z-of_z}
use mir.Syntax.{w64}
use mir.Val.{to_z, SFits}
use Rattle.signal_bank.proofs.Folds.{numbers_here, numbers_past, least_met}
use Rattle.signal_bank.proofs.combination.least.Goals as goal
use Rattle.signal_bank.proofs.combination.least.Goals.{in-Int, in_default}

pub loop-value-preserved : goal.loop-value-preserved
loop-value-preserved c = elim c.match-value.branch [
  | in-Int w ↦ (
      let fits : SFits w64 w.in-Int.number = search rules in
      let number = to_z-of_z w64 w.in-Int.number fits in
      let result = to_z-of_z w64 w.min-least.result (record { sfits = w.min-least.type_inv }) in
      let new : to_z w64 c.match-value.least-bits
      ≡ int_min (to_z w64 c.loop-value.least-bits) w.in-Int.number = cc in
      least_met _ _ _ _ _ _ c.loop-value.invariant
      (numbers_here _ _ _ c.loop-value-test.true c.value-item.is _ w.in-Int.is) new)
  | in_default w ↦ (
      let past =
      numbers_past c.args.rest.now _ _ c.loop-value-test.true c.value-item.is w.in_default.not-Int in
      cc)
]

use Rattle.std.proofs.Common.{◌≡◌, rules}
use Rattle.std.specs.Int.{int_max}
use Rattle.std.proofs.lemmas.Int.{to_z-of_z}
use mir.Syntax.{w64}
use mir.Val.{to_z, SFits}
use Rattle.signal_bank.proofs.Folds.{numbers_here, numbers_past, greatest_met}
use Rattle.signal_bank.proofs.combination.greatest.Goals as goal
use Rattle.signal_bank.proofs.combination.greatest.Goals.{in-Int, in_default}

pub loop-value-preserved : goal.loop-value-preserved
loop-value-preserved c = elim c.match-value.branch [
  | in-Int w ↦ (
      let fits : SFits w64 w.in-Int.number = search rules in
      let number = to_z-of_z w64 w.in-Int.number fits in
      let result = to_z-of_z w64 w.max-greatest.result (record { sfits = w.max-greatest.type_inv }) in
      let new : to_z w64 c.match-value.greatest-bits
      ≡ int_max (to_z w64 c.loop-value.greatest-bits) w.in-Int.number = cc in
      greatest_met _ _ _ _ _ _ c.loop-value.invariant
      (numbers_here _ _ _ c.loop-value-test.true c.value-item.is _ w.in-Int.is) new)
  | in_default w ↦ (
      let past =
      numbers_past c.args.rest.now _ _ c.loop-value-test.true c.value-item.is w.in_default.not-Int in
      cc)
]

-- What a bag combines to does not depend on the order of its values. (This project's own.)
use Rattle.std.specs.Prelude.{◌≡◌, Option, List}
use Rattle.hh_base.specs.declared.value.Value.{Value}
use Rattle.hh_base.specs.declared.value.CombineWord.{CombineWord}
use Rattle.host_expr.specs.Reordering.{Reordering}
use Rattle.signal_bank.specs.BagKind.{AreOfOneKind}
use Rattle.signal_bank.specs.Outcome.{outcome}

-- Law: bags of one kind with the same values combine to the same.
abbrev pub OutcomeInAnyOrder : Type 0
OutcomeInAnyOrder =
    (w : Option CombineWord) (vs us : List Value) → AreOfOneKind vs → Reordering vs us
    → outcome w vs ≡ outcome w us

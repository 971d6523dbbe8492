-- What a bag combines to: one value, several without a combine word, or a sum outside 64 bits. (This
-- project's own.)
use Rattle.std.specs.Prelude.{Bool, true, false, Option, List}
use Rattle.hh_base.specs.declared.value.Value.{Value}
use Rattle.hh_base.specs.declared.value.CombineWord.{CombineWord}
use Rattle.host_expr.specs.Combination.{combined, is_several, is_overflowed}
use Rattle.signal_bank.specs.declared.combination.Combined.{Combined}
use Rattle.signal_bank.specs.declared.combination.Combined.TheVariants.{Single, Several, Overflowed}
use Rattle.signal_bank.specs.BagKind.{kind_of_bag}

-- whether there are several, whether the sum overflows, and the value where neither is so
abbrev pub outcome_by : Bool → Bool → Value → Combined
outcome_by true overflowed v = Several
outcome_by false true v = Overflowed
outcome_by false false v = Single v

abbrev pub outcome : Option CombineWord → List Value → Combined
outcome w vs =
    outcome_by (is_several (kind_of_bag vs) w vs) (is_overflowed w vs) (combined (kind_of_bag vs) w vs)

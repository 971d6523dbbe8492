-- What a value says as a truth: true, false, or neither, where it is of another kind. (This project's own.)
use Rattle.std.specs.Prelude.{Bool, true, false, cond}
use Rattle.hh_base.specs.declared.value.Value.{Value}
use Rattle.hh_base.specs.declared.value.Value.TheVariants as value

abbrev pub is_true : Value → Bool
is_true (value.Bool b) = b
is_true _ = false

abbrev pub is_false : Value → Bool
is_false (value.Bool b) = cond b false true
is_false _ = false

-- Whether two kinds are the same, as a test.
use Rattle.std.specs.Prelude.{Bool, true, false}
use Rattle.hh_base.specs.declared.value.Kind.{Kind}
use Rattle.hh_base.specs.declared.value.Kind.TheVariants.{Pure, Int, Bool as Truth, Text}

abbrev pub same_kind : Kind → Kind → Bool
same_kind Pure Pure = true
same_kind Int Int = true
same_kind Truth Truth = true
same_kind Text Text = true
same_kind _ _ = false

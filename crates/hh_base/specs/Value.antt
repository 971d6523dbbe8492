-- The kinds, values and directions of signals. This project's own.
use Rattle.std.specs.Prelude.{Bool, true, false, pos, []}
use Rattle.hh_base.specs.declared.value.Kind.{Kind}
use Rattle.hh_base.specs.declared.value.Kind.TheVariants as kind
use Rattle.hh_base.specs.declared.value.Dir.{Dir}
use Rattle.hh_base.specs.declared.value.Dir.TheVariants as dir
use Rattle.hh_base.specs.declared.value.Value.{Value}
use Rattle.hh_base.specs.declared.value.Value.TheVariants as value

-- the kind of the signals that carry the value
abbrev pub kind_of : Value → Kind
kind_of value.Unit = kind.Pure
kind_of (value.Int n) = kind.Int
kind_of (value.Bool b) = kind.Bool
kind_of (value.Text t) = kind.Text

-- what a signal of the kind counts as where it has no value
abbrev pub default_of : Kind → Value
default_of kind.Pure = value.Unit
default_of kind.Int = value.Int (pos 0)
default_of kind.Bool = value.Bool false
default_of kind.Text = value.Text []

-- a signal that carries a value
abbrev pub is_valued : Kind → Bool
is_valued kind.Pure = false
is_valued _ = true

-- a signal of the interface, which the environment gives or is told of
abbrev pub is_interface : Dir → Bool
is_interface dir.Local = false
is_interface _ = true

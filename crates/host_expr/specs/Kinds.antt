-- The kind of an expression's value, where its kinds fit. (This project's own.)
use Rattle.std.specs.Prelude.{Option, Some, None, List, slice_get}
use Rattle.hh_base.specs.declared.value.Kind.{Kind}
use Rattle.hh_base.specs.declared.value.Kind.TheVariants as kind
use Rattle.host_expr.specs.declared.expr.Op.{Op}
use Rattle.host_expr.specs.declared.expr.Op.TheVariants.{Add}
use Rattle.host_expr.specs.declared.expr.Rel.{Rel}
use Rattle.host_expr.specs.declared.expr.Rel.TheVariants.{Eq, Ne}
use Rattle.host_expr.specs.Expression.{Expression, Int, Flag, Text, Now, Pre, NowVal, PreVal, Arg, Not}
use Rattle.host_expr.specs.Expression.{Neg, Arith, Compare, And, Or, Choose}

-- a signal's status is a bool
abbrev pub status_kind : Option Kind → Option Kind
status_kind (Some k) = Some kind.Bool
status_kind None = None

-- only a valued signal has a value
abbrev pub value_kind : Option Kind → Option Kind
value_kind (Some kind.Pure) = None
value_kind k = k

abbrev pub only_int : Option Kind → Option Kind
only_int (Some kind.Int) = Some kind.Int
only_int _ = None

abbrev pub only_bool : Option Kind → Option Kind
only_bool (Some kind.Bool) = Some kind.Bool
only_bool _ = None

abbrev pub both_bool : Option Kind → Option Kind → Option Kind
both_bool (Some kind.Bool) (Some kind.Bool) = Some kind.Bool
both_bool _ _ = None

-- whole numbers; `+` also joins texts
abbrev pub arith_kind : Op → Option Kind → Option Kind → Option Kind
arith_kind op (Some kind.Int) (Some kind.Int) = Some kind.Int
arith_kind Add (Some kind.Text) (Some kind.Text) = Some kind.Text
arith_kind op _ _ = None

-- two of one valued kind
abbrev pub one_valued : Option Kind → Option Kind → Option Kind
one_valued (Some kind.Int) (Some kind.Int) = Some kind.Int
one_valued (Some kind.Bool) (Some kind.Bool) = Some kind.Bool
one_valued (Some kind.Text) (Some kind.Text) = Some kind.Text
one_valued _ _ = None

abbrev pub ordered_kind : Option Kind → Option Kind → Option Kind
ordered_kind (Some kind.Int) (Some kind.Int) = Some kind.Bool
ordered_kind _ _ = None

abbrev pub compare_kind : Rel → Option Kind → Option Kind → Option Kind
compare_kind Eq a b = status_kind (one_valued a b)
compare_kind Ne a b = status_kind (one_valued a b)
compare_kind rel a b = ordered_kind a b

abbrev pub choose_kind : Option Kind → Option Kind → Option Kind
choose_kind (Some kind.Bool) k = k
choose_kind _ k = None

-- none where the kinds do not fit, or where it reads a signal or a parameter that is not there
abbrev pub kind_of_expression : List Kind → List Kind → Expression → Option Kind
kind_of_expression signals args (Int n) = Some kind.Int
kind_of_expression signals args (Flag b) = Some kind.Bool
kind_of_expression signals args (Text t) = Some kind.Text
kind_of_expression signals args (Now s) = status_kind (slice_get signals s)
kind_of_expression signals args (Pre s) = status_kind (slice_get signals s)
kind_of_expression signals args (NowVal s) = value_kind (slice_get signals s)
kind_of_expression signals args (PreVal s) = value_kind (slice_get signals s)
kind_of_expression signals args (Arg n) = value_kind (slice_get args n)
kind_of_expression signals args (Not a) = only_bool (kind_of_expression signals args a)
kind_of_expression signals args (Neg p a) = only_int (kind_of_expression signals args a)
kind_of_expression signals args (Arith p op a b) =
    arith_kind op (kind_of_expression signals args a) (kind_of_expression signals args b)
kind_of_expression signals args (Compare rel a b) =
    compare_kind rel (kind_of_expression signals args a) (kind_of_expression signals args b)
kind_of_expression signals args (And a b) =
    both_bool (kind_of_expression signals args a) (kind_of_expression signals args b)
kind_of_expression signals args (Or a b) =
    both_bool (kind_of_expression signals args a) (kind_of_expression signals args b)
kind_of_expression signals args (Choose a b c) =
    choose_kind (kind_of_expression signals args a)
    (one_valued (kind_of_expression signals args b) (kind_of_expression signals args c))

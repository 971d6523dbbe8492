-- What a part of a line means. Bridges to the reader, and no part of a promise. (This project's own.)
use Rattle.std.specs.Prelude.{◌≡◌, ℕ, ◌&&◌, Bool, true, false, if◌then◌else◌, nat_le, Option, Some, None}
use Rattle.std.specs.Prelude.{List, [], ◌∷◌, codes, decimal}
use Rattle.std.specs.Str.{bytes_eq}
use Rattle.std.specs.Str.Parse.{digits_value}
use Rattle.hh_base.specs.declared.value.Kind.{Kind}
use Rattle.hh_base.specs.declared.value.Kind.TheVariants as kind
use Rattle.hh_base.specs.declared.value.Dir.{Dir}
use Rattle.hh_base.specs.declared.value.Dir.TheVariants as dir
use Rattle.hh_base.specs.declared.value.CombineWord.{CombineWord}
use Rattle.hh_base.specs.declared.value.CombineWord.TheVariants as combine
use Rattle.net_list.specs.Form.{GREATEST}

-- a number, without leading zeros
abbrev pub number_of : List ℕ → Option ℕ
number_of w =
    if bytes_eq (decimal (digits_value 10 w)) w && nat_le (digits_value 10 w) GREATEST
    then Some (digits_value 10 w) else None

abbrev pub dir_of : List ℕ → Option Dir
dir_of w =
    if bytes_eq w (codes "in") then Some dir.Input
    else if bytes_eq w (codes "out") then Some dir.Output
    else if bytes_eq w (codes "inout") then Some dir.Both
    else if bytes_eq w (codes "local") then Some dir.Local
    else None

abbrev pub kind_of : List ℕ → Option Kind
kind_of w =
    if bytes_eq w (codes "pure") then Some kind.Pure
    else if bytes_eq w (codes "int") then Some kind.Int
    else if bytes_eq w (codes "bool") then Some kind.Bool
    else if bytes_eq w (codes "text") then Some kind.Text
    else None

abbrev pub combine_of : List ℕ → Option (Option CombineWord)
combine_of w =
    if bytes_eq w (codes "-") then Some None
    else if bytes_eq w (codes "plus") then Some (Some combine.Plus)
    else if bytes_eq w (codes "min") then Some (Some combine.Min)
    else if bytes_eq w (codes "max") then Some (Some combine.Max)
    else if bytes_eq w (codes "and") then Some (Some combine.And)
    else if bytes_eq w (codes "or") then Some (Some combine.Or)
    else None

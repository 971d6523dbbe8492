-- The parts of the lines of a net text, each written with the space before it where one stands there.
-- (This project's own.)
use Rattle.std.specs.Prelude.{ℕ, Option, Some, None, List, [], ◌∷◌, ◌++◌, length, codes, decimal}
use Rattle.std.specs.List.{flat_map}
use Rattle.hh_base.specs.Bytes.{space, line_feed}
use Rattle.hh_base.specs.Literal.{quoted, printed as literal}
use Rattle.hh_base.specs.declared.value.Kind.{Kind}
use Rattle.hh_base.specs.declared.value.Kind.TheVariants as kind
use Rattle.hh_base.specs.declared.value.Dir.{Dir}
use Rattle.hh_base.specs.declared.value.Dir.TheVariants as dir
use Rattle.hh_base.specs.declared.value.Value.{Value}
use Rattle.hh_base.specs.declared.value.Value.TheVariants as value
use Rattle.hh_base.specs.declared.value.CombineWord.{CombineWord}
use Rattle.hh_base.specs.declared.value.CombineWord.TheVariants as combine

abbrev pub line_end : List ℕ
line_end = line_feed ∷ []

-- a space and a part
abbrev pub spaced : List ℕ → List ℕ
spaced part = space ∷ part

-- a space and a number, which has no leading zeros
abbrev pub number : ℕ → List ℕ
number n = spaced (decimal n)

-- what stands for a name, a word, a signal, a value or a text that is not there
abbrev pub nothing : List ℕ
nothing = codes "-"

abbrev pub dir_word : Dir → List ℕ
dir_word dir.Input = codes "in"
dir_word dir.Output = codes "out"
dir_word dir.Both = codes "inout"
dir_word dir.Local = codes "local"

abbrev pub kind_word : Kind → List ℕ
kind_word kind.Pure = codes "pure"
kind_word kind.Int = codes "int"
kind_word kind.Bool = codes "bool"
kind_word kind.Text = codes "text"

abbrev pub kind_part : Kind → List ℕ
kind_part k = spaced (kind_word k)

abbrev pub combine_word : CombineWord → List ℕ
combine_word combine.Plus = codes "plus"
combine_word combine.Min = codes "min"
combine_word combine.Max = codes "max"
combine_word combine.And = codes "and"
combine_word combine.Or = codes "or"

abbrev pub combine_or_nothing : Option CombineWord → List ℕ
combine_or_nothing (Some w) = combine_word w
combine_or_nothing None = nothing

abbrev pub name_or_nothing : Option (List ℕ) → List ℕ
name_or_nothing (Some n) = n
name_or_nothing None = nothing

-- the first value of a valued signal; a pure one has none
abbrev pub first_or_nothing : Value → List ℕ
first_or_nothing value.Unit = nothing
first_or_nothing v = literal v

abbrev pub text_or_nothing : Option (List ℕ) → List ℕ
text_or_nothing (Some t) = quoted t
text_or_nothing None = nothing

abbrev pub number_or_nothing : Option ℕ → List ℕ
number_or_nothing (Some n) = decimal n
number_or_nothing None = nothing

-- how many there are, and each of them
abbrev pub counted : {X : Type 0} → (X → List ℕ) → List X → List ℕ
counted part xs = number (length xs) ++ flat_map part xs

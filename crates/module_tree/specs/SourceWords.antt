-- Which names, numbers and texts a module text can write. This project's own.
use Rattle.std.specs.Prelude.{ℕ, ◌^◌, ◌&&◌, Bool, true, false, not, ℤ, pos, negsuc, List, length, nat_le}
use Rattle.std.specs.Prelude.{nat_lt}
use Rattle.std.specs.Str.{chars, is_utf8}
use Rattle.hh_base.specs.Name.{is_word}
use Rattle.hh_base.specs.Keyword.{is_keyword}
use Rattle.hh_base.specs.Text.{has_text_bytes}
use Rattle.hh_base.specs.declared.value.Value.{Value}
use Rattle.hh_base.specs.declared.value.Value.TheVariants as value

-- a word of at most 255 bytes that is no keyword
abbrev pub is_written_name : List ℕ → Bool
is_written_name bs = is_utf8 bs && is_word (chars bs) && nat_le (length bs) 255 && not (is_keyword bs)

-- a number without a sign, below 2^63
abbrev pub is_written_number : ℤ → Bool
is_written_number (pos n) = nat_lt n (2 ^ 63)
is_written_number (negsuc n) = false

abbrev pub is_written_text : List ℕ → Bool
is_written_text bs = is_utf8 bs && has_text_bytes bs && nat_le (length bs) 4096

-- a number of 64 bits, with its sign
abbrev pub is_written_integer : ℤ → Bool
is_written_integer (pos n) = nat_lt n (2 ^ 63)
is_written_integer (negsuc n) = nat_lt n (2 ^ 63)

-- what may stand as a first value: any literal but that of the one value of pure signals
abbrev pub is_written_value : Value → Bool
is_written_value value.Unit = false
is_written_value (value.Int n) = is_written_integer n
is_written_value (value.Bool b) = true
is_written_value (value.Text t) = is_written_text t

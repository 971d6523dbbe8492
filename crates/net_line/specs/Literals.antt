-- What a literal, a quoted text and a name of a line mean. Bridges to the reader, and no part of a promise.
-- (This project's own.)
use Rattle.std.specs.Prelude.{◌≡◌, ℕ, ◌==◌, ◌&&◌, ◌||◌, Bool, true, false, not, if◌then◌else◌, nat_le, nat_lt}
use Rattle.std.specs.Prelude.{Option, Some, None, List, [], ◌∷◌, codes, length, ℤ, pos, negsuc, neg_ℤ, ◌^◌}
use Rattle.std.specs.Char.{is_ascii_digit}
use Rattle.std.specs.Fmt.{signed_decimal}
use Rattle.std.specs.Str.{bytes_eq, is_utf8, chars}
use Rattle.std.specs.Str.Parse.{digits_value}
use Rattle.hh_base.specs.Bytes.{quote, backslash, minus, letter_n, letter_t, line_feed, tab}
use Rattle.hh_base.specs.Literal.{quoted}
use Rattle.hh_base.specs.Name.{is_word}
use Rattle.hh_base.specs.Text.{has_text_bytes, IsText}
use Rattle.hh_base.specs.declared.name.TheConstants.{NAME_LIMIT}
use Rattle.hh_base.specs.declared.text.TheConstants.{TEXT_LIMIT}
use Rattle.hh_base.specs.declared.value.Value.{Value}
use Rattle.hh_base.specs.declared.value.Value.TheVariants as value

-- the byte that a letter behind a backslash stands for
abbrev pub unescaped_letter : ℕ → ℕ
unescaped_letter m = if m == letter_n then line_feed else if m == letter_t then tab else m

-- what is quoted, where the last byte is the quote that ends it
abbrev pub unescaped : List ℕ → List ℕ
unescaped [] = []
unescaped (b ∷ []) = []
unescaped (b ∷ m ∷ bs) = if b == backslash then unescaped_letter m ∷ unescaped bs else b ∷ unescaped (m ∷ bs)

abbrev pub behind_first : List ℕ → List ℕ
behind_first [] = []
behind_first (b ∷ bs) = bs

abbrev pub is_text : List ℕ → Bool
is_text t = is_utf8 t && has_text_bytes t && nat_le (length t) TEXT_LIMIT

-- a text in quotes
abbrev pub text_of : List ℕ → Option (List ℕ)
text_of w =
    if bytes_eq (quoted (unescaped (behind_first w))) w && is_text (unescaped (behind_first w))
    then Some (unescaped (behind_first w)) else None

-- a number of 64 bits, with a `-` in front where it is below 0
abbrev pub signed_value : List ℕ → ℤ
signed_value [] = pos 0
signed_value (b ∷ bs) = if b == minus then neg_ℤ (pos (digits_value 10 bs)) else pos (digits_value 10 (b ∷
    bs))

abbrev pub fits_64 : ℤ → Bool
fits_64 (pos n) = nat_lt n (2 ^ 63)
fits_64 (negsuc n) = nat_lt n (2 ^ 63)

abbrev pub integer_of : List ℕ → Option ℤ
integer_of w =
    if bytes_eq (signed_decimal (signed_value w)) w && fits_64 (signed_value w) then Some (signed_value w)
    else None

abbrev pub as_text_value : Option (List ℕ) → Option Value
as_text_value (Some t) = Some (value.Text t)
as_text_value None = None

abbrev pub as_integer_value : Option ℤ → Option Value
as_integer_value (Some n) = Some (value.Int n)
as_integer_value None = None

abbrev pub bool_of : List ℕ → Option Value
bool_of w =
    if bytes_eq w (codes "true") then Some (value.Bool true)
    else if bytes_eq w (codes "false") then Some (value.Bool false)
    else None

abbrev pub starts_number : ℕ → Bool
starts_number b = (b == minus) || is_ascii_digit b

abbrev pub spelled : List ℕ → Option Value
spelled [] = None
spelled (b ∷ bs) =
    if b == quote then as_text_value (text_of (b ∷ bs))
    else if starts_number b then as_integer_value (integer_of (b ∷ bs))
    else bool_of (b ∷ bs)

-- the literal of a value that is not that of a pure signal, as it is written
abbrev pub literal_of : List ℕ → Option Value
literal_of w = if is_utf8 w then spelled w else None

abbrev pub is_dash : List ℕ → Bool
is_dash w = bytes_eq w (codes "-")

-- the first value of a signal, `-` where it is pure
abbrev pub first_of : List ℕ → Option Value
first_of w = if is_dash w then Some value.Unit else literal_of w

abbrev pub text_value : Option Value → Option (Option (List ℕ))
text_value (Some (value.Text t)) = Some (Some t)
text_value _ = None

-- the text of a handler, or that there is none
abbrev pub handler_of : List ℕ → Option (Option (List ℕ))
handler_of w = if is_dash w then Some None else text_value (literal_of w)

-- the part of a name: no quote stands first
abbrev pub is_name_part : List ℕ → Bool
is_name_part [] = false
is_name_part (b ∷ bs) = not (b == quote) && is_utf8 (b ∷ bs)

-- what stands for a name, or that there is none
abbrev pub name_of : List ℕ → Option (Option (List ℕ))
name_of w = if is_dash w then Some None else if is_name_part w then Some (Some w) else None

-- Literals: which texts are literals of a value, and the one that is written. This project's own.
use Rattle.std.specs.Prelude.{◌≡◌, ℕ, ◌^◌, ◌<◌, ◌≤◌, ◌==◌, ◌||◌, ◌⊎◌, ℤ, pos, true, List, [], ◌∷◌, ◌++◌}
use Rattle.std.specs.Prelude.{length, codes, Option, Some, None, option_map, nat_lt, if◌then◌else◌}
use Rattle.std.specs.Prelude.{neg_ℤ}
use Rattle.std.specs.List.{flat_map}
use Rattle.std.specs.Fmt.{signed_decimal}
use Rattle.std.specs.Str.{all_ascii_digits}
use Rattle.std.specs.Str.Parse.{digits_value}
use Rattle.hh_base.specs.Bytes.{tab, line_feed, space, quote, minus, backslash, letter_n, letter_t}
use Rattle.hh_base.specs.Text.{IsText}
use Rattle.hh_base.specs.declared.value.Value.{Value}
use Rattle.hh_base.specs.declared.value.Value.TheVariants as value

-- a number: a run of digits, leading zeros allowed
pub record IsNumber (ds : List ℕ) (n : ℕ) : Type 0 where
  pub some : 0 < length ds
  pub digits : all_ascii_digits ds ≡ true
  pub value : digits_value 10 ds ≡ n

-- a number, or `-` and a number, within 64 bits
abbrev pub IsInteger : List ℕ → ℤ → Type 0
IsInteger bs n =
    ((m : ℕ) × IsNumber bs m × (m < 2 ^ 63) × (n ≡ pos m))
    ⊎ ((ds : List ℕ) × (m : ℕ) × (bs ≡ minus ∷ ds) × IsNumber ds m × (m ≤ 2 ^ 63)
    × (n ≡ neg_ℤ (pos m)))

-- the words that are literals
abbrev pub IsWord : List ℕ → Type 0
IsWord bs = (bs ≡ codes "unit") ⊎ (bs ≡ codes "true") ⊎ (bs ≡ codes "false")

-- how a byte of a text stands between quotes: quote, backslash, LF and TAB by an escape, all else as it is
abbrev pub escaped : ℕ → List ℕ
escaped b =
    if b == quote then codes "\\\""
    else if b == backslash then codes "\\\\"
    else if b == line_feed then codes "\\n"
    else if b == tab then codes "\\t"
    else b ∷ []

-- a text between quotes
abbrev pub quoted : List ℕ → List ℕ
quoted t = quote ∷ (flat_map escaped t ++ quote ∷ [])

-- the bytes are a literal of the value
abbrev pub IsLiteral : List ℕ → Value → Type 0
IsLiteral bs value.Unit = bs ≡ codes "unit"
IsLiteral bs (value.Int n) = IsInteger bs n
IsLiteral bs (value.Bool b) = bs ≡ (if b then codes "true" else codes "false")
IsLiteral bs (value.Text t) = IsText t × (bs ≡ quoted t)

-- the literal that is written for a value
abbrev pub printed : Value → List ℕ
printed value.Unit = codes "unit"
printed (value.Int n) = signed_decimal n
printed (value.Bool b) = if b then codes "true" else codes "false"
printed (value.Text t) = quoted t

-- Bridges to the reader, and no part of a promise: the byte that an escape stands for, by what follows
-- its backslash
abbrev pub escape_of : ℕ → Option ℕ
escape_of m =
    if m == quote then Some quote
    else if m == backslash then Some backslash
    else if m == letter_n then Some line_feed
    else if m == letter_t then Some tab
    else None

-- a bridge: the same behind a backslash, and what follows
abbrev pub after_backslash : List ℕ → Option (ℕ × List ℕ)
after_backslash [] = None
after_backslash (m ∷ bs) = option_map (λ b. (b, bs)) (escape_of m)

-- a bridge: between quotes, the first byte of the text, and what follows
abbrev pub next_byte : List ℕ → Option (ℕ × List ℕ)
next_byte [] = None
next_byte (b ∷ bs) =
    if b == backslash then after_backslash bs else if nat_lt b space || (b == quote) then None
    else Some (b, bs)

-- What is wrong at the front of a text, by kind, and how many bytes on. This project's own.
use Rattle.std.specs.Prelude.{◌≡◌, ◌≢◌, ℕ, ◌<◌, ◌⊎◌, true, false, List, [], ◌∷◌, ◌++◌, None, length, codes}
use Rattle.std.specs.Char.{is_ascii_digit}
use Rattle.std.specs.List.{flat_map}
use Rattle.std.specs.Str.{chars}
use Rattle.hh_base.specs.Bytes.{space, quote, backslash}
use Rattle.hh_base.specs.declared.name.TheConstants.{NAME_LIMIT}
use Rattle.hh_base.specs.declared.text.TheConstants.{TEXT_LIMIT}
use Rattle.module_token.specs.declared.number.TheConstants.{NUMBER_LIMIT}
use Rattle.hh_base.specs.Literal.{escaped, escape_of, quoted}
use Rattle.hh_base.specs.Name.{starts_word}
use Rattle.hh_base.specs.Text.{has_text_bytes}
use Rattle.module_token.specs.declared.fault.TokenFaultKind.{TokenFaultKind}
use Rattle.module_token.specs.declared.fault.TokenFaultKind.TheVariants as fault
use Rattle.module_token.specs.declared.punct.Punct.{Punct}
use Rattle.module_token.specs.Gap.{is_blank, has_close}
use Rattle.module_token.specs.Spelling.{punct_text}
use Rattle.module_token.specs.Token.{IsLongestWord, IsLongestNumber}

-- the first character begins no gap and no token
pub record BeginsNothing (text : List ℕ) : Type 0 where
  pub first : ℕ
  pub others : List ℕ
  pub letters : chars text ≡ first ∷ others
  pub no_blank : is_blank first ≡ false
  pub no_digit : is_ascii_digit first ≡ false
  pub no_quote : first ≢ quote
  pub no_word : starts_word first ≡ false
  pub no_mark : (mark : Punct) (more : List ℕ) → text ≢ punct_text mark ++ more

-- no closing quote can follow: the text ends, or a control character stands first, or a backslash that is
-- the last byte
abbrev pub IsOpen : List ℕ → Type 0
IsOpen [] = Unit {0}
IsOpen (b ∷ bs) = (b < space) ⊎ ((b ≡ backslash) × (bs ≡ []))

abbrev pub IsFault : TokenFaultKind → List ℕ → ℕ → Type 0
IsFault fault.BadChar text n = (n ≡ 0) × BeginsNothing text
IsFault fault.NameLong text n = (n ≡ 0) × (word : List ℕ) × (rest : List ℕ) × (text ≡ word ++ rest)
    × IsLongestWord word rest × (NAME_LIMIT < length word)
IsFault fault.NumberLarge text n =
    (n ≡ 0) × (digits : List ℕ) × (rest : List ℕ) × (value : ℕ) × (text ≡ digits ++ rest)
    × IsLongestNumber digits rest value × (NUMBER_LIMIT < value)
IsFault fault.TextLong text n = (n ≡ 0) × (value : List ℕ) × (rest : List ℕ)
    × (text ≡ quoted value ++ rest) × (has_text_bytes value ≡ true) × (TEXT_LIMIT < length value)
IsFault fault.TextOpen text n = (n ≡ 0) × (value : List ℕ) × (rest : List ℕ)
    × (text ≡ quote ∷ (flat_map escaped value ++ rest)) × (has_text_bytes value ≡ true) × IsOpen rest
IsFault fault.BadEscape text n =
    (value : List ℕ) × (mark : ℕ) × (rest : List ℕ)
    × (text ≡ quote ∷ (flat_map escaped value ++ backslash ∷ mark ∷ rest))
    × (has_text_bytes value ≡ true) × (escape_of mark ≡ None)
    × (n ≡ length (quote ∷ flat_map escaped value))
IsFault fault.CommentOpen text n = (n ≡ 0) × (body : List ℕ) × (text ≡ codes "/*" ++ body)
    × (has_close body ≡ false)

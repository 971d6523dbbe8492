-- Which bytes spell which token, before what follows. This project's own, after HipHop.js; words are those
-- of Unicode Standard Annex 31.
use Rattle.std.specs.Prelude.{◌≡◌, ℕ, ◌≤◌, Bool, true, false, List, [], ◌∷◌, ◌++◌, length}
use Rattle.std.specs.Char.{is_ascii_digit}
use Rattle.std.specs.Str.{chars, is_utf8}
use Rattle.unicode_ident.specs.Ident.{is_xid_continue}
use Rattle.hh_base.specs.declared.name.TheConstants.{NAME_LIMIT}
use Rattle.module_token.specs.declared.number.TheConstants.{NUMBER_LIMIT}
use Rattle.hh_base.specs.Keyword.{is_keyword, keyword_text}
use Rattle.hh_base.specs.Literal.{IsNumber, quoted}
use Rattle.hh_base.specs.Name.{is_word}
use Rattle.hh_base.specs.Text.{IsText}
use Rattle.module_token.specs.declared.punct.Punct.{Punct}
use Rattle.module_token.specs.declared.token.TokenKind.{TokenKind}
use Rattle.module_token.specs.declared.token.TokenKind.TheVariants as token
use Rattle.module_token.specs.Gap.{begins_comment}
use Rattle.module_token.specs.Spelling.{punct_text}

-- the characters go on a word
abbrev pub goes_on : List ℕ → Bool
goes_on [] = false
goes_on (c ∷ cs) = is_xid_continue c

-- a word, before what does not go on with it
pub record IsLongestWord (word rest : List ℕ) : Type 0 where
  pub utf8 : is_utf8 word ≡ true
  pub letters : is_word (chars word) ≡ true
  pub ends : goes_on (chars rest) ≡ false

abbrev pub begins_digit : List ℕ → Bool
begins_digit [] = false
begins_digit (b ∷ bs) = is_ascii_digit b

-- a number of that value, before what does not go on with it
pub record IsLongestNumber (digits rest : List ℕ) (value : ℕ) : Type 0 where
  pub number : IsNumber digits value
  pub ends : begins_digit rest ≡ false

-- a mark, where no longer mark and no comment begins
pub record IsLongestMark (text rest : List ℕ) (mark : Punct) : Type 0 where
  pub spelled : text ≡ punct_text mark
  pub longest : (other : Punct) (more : List ℕ) → text ++ rest ≡ punct_text other ++ more
      → length (punct_text other) ≤ length text
  pub no_comment : begins_comment (text ++ rest) ≡ false

-- the bytes spell the token, and what follows does not make it longer
abbrev pub IsToken : List ℕ → TokenKind → List ℕ → Type 0
IsToken text token.Word rest = IsLongestWord text rest × (length text ≤ NAME_LIMIT)
    × (is_keyword text ≡ false)
IsToken text (token.Keyword keyword) rest = IsLongestWord text rest × (text ≡ keyword_text keyword)
IsToken text (token.Number value) rest = IsLongestNumber text rest value × (value ≤ NUMBER_LIMIT)
IsToken text token.Quoted rest = (value : List ℕ) × IsText value × (text ≡ quoted value)
IsToken text (token.Punct mark) rest = IsLongestMark text rest mark

-- Which texts are names: identifiers of Unicode Standard Annex 31, and `_` may begin one too.
use Rattle.std.specs.Prelude.{◌≡◌, ℕ, ◌≤◌, ◌==◌, ◌||◌, ◌&&◌, Bool, true, false, List, [], ◌∷◌, length}
use Rattle.std.specs.List.{list_all}
use Rattle.std.specs.Str.{chars}
use Rattle.hh_base.specs.declared.name.TheConstants.{NAME_LIMIT}
use Rattle.hh_base.specs.Bytes.{underscore}
use Rattle.unicode_ident.specs.Ident.{is_xid_start, is_xid_continue}

-- the characters that a word begins with
abbrev pub starts_word : ℕ → Bool
starts_word c = is_xid_start c || (c == underscore)

-- the characters are those of a word
abbrev pub is_word : List ℕ → Bool
is_word [] = false
is_word (c ∷ cs) = starts_word c && list_all is_xid_continue cs

-- the bytes are a name
pub record IsName (bs : List ℕ) : Type 0 where
  pub word : is_word (chars bs) ≡ true
  pub short : length bs ≤ NAME_LIMIT

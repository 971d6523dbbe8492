-- Which bytes are a text value. This project's own.
use Rattle.std.specs.Prelude.{◌≡◌, ℕ, ◌≤◌, ◌==◌, ◌||◌, Bool, true, List, length, nat_le}
use Rattle.std.specs.List.{list_all}
use Rattle.std.specs.Str.{is_utf8}
use Rattle.hh_base.specs.declared.text.TheConstants.{TEXT_LIMIT}
use Rattle.hh_base.specs.Bytes.{tab, line_feed, space}

-- no control character but TAB and LF
abbrev pub text_byte : ℕ → Bool
text_byte b = nat_le space b || (b == tab) || (b == line_feed)

-- each byte is one that a text may have
abbrev pub has_text_bytes : List ℕ → Bool
has_text_bytes bs = list_all text_byte bs

-- the bytes are a text value
pub record IsText (bs : List ℕ) : Type 0 where
  pub utf8 : is_utf8 bs ≡ true
  pub bytes : has_text_bytes bs ≡ true
  pub short : length bs ≤ TEXT_LIMIT

-- A bridge, and no part of a promise: what stands at the front of a text, as a function of its bytes. The
-- tokens of a text are defined without it, and a law says that the two agree.
use Rattle.std.specs.Prelude.{ℕ, ◌+◌, ◌-◌, ◌==◌, ◌&&◌, List, [], ◌∷◌, Option, Some, None, option_map, length}
use Rattle.std.specs.Prelude.{take, drop, nat_le, nat_lt, codes, slice_index, if◌then◌else◌, zero, suc}
use Rattle.std.specs.List.{prefix_len, position_or_len}
use Rattle.std.specs.Char.{len_utf8, is_ascii_digit}
use Rattle.std.specs.Str.{chars}
use Rattle.std.specs.Str.Parse.{digits_value}
use Rattle.unicode_ident.specs.Ident.{is_xid_continue}
use Rattle.hh_base.specs.Bytes.{quote, backslash, line_feed}
use Rattle.hh_base.specs.Name.{starts_word}
use Rattle.hh_base.specs.declared.name.TheConstants.{NAME_LIMIT}
use Rattle.hh_base.specs.declared.text.TheConstants.{TEXT_LIMIT}
use Rattle.module_token.specs.declared.number.TheConstants.{NUMBER_LIMIT}
use Rattle.module_token.specs.Bytes.{byte}
use Rattle.hh_base.specs.Literal.{next_byte}
use Rattle.module_token.specs.declared.fault.TokenFaultKind.TheVariants as fault
use Rattle.module_token.specs.declared.front.Front.{Front}
use Rattle.module_token.specs.declared.front.Front.TheVariants as front
use Rattle.hh_base.specs.declared.keyword.Keyword.{Keyword}
use Rattle.module_token.specs.declared.punct.Punct.{Punct}
use Rattle.module_token.specs.declared.punct.Punct.TheVariants as p
use Rattle.module_token.specs.declared.token.TokenKind.{TokenKind}
use Rattle.module_token.specs.declared.token.TokenKind.TheVariants as token
use Rattle.module_token.specs.Gap.{is_blank, starts_close}
use Rattle.hh_base.specs.Keyword.{keyword_of}

-- ---- marks and comments

abbrev pub short_mark : ℕ → Option Punct
short_mark b =
    if b == byte (codes "(") then Some p.LeftParen
    else if b == byte (codes ")") then Some p.RightParen
    else if b == byte (codes "{") then Some p.LeftBrace
    else if b == byte (codes "}") then Some p.RightBrace
    else if b == byte (codes ",") then Some p.Comma
    else if b == byte (codes ";") then Some p.Semicolon
    else if b == byte (codes ":") then Some p.Colon
    else if b == byte (codes ".") then Some p.Dot
    else if b == byte (codes "=") then Some p.Equal
    else if b == byte (codes "?") then Some p.Question
    else if b == byte (codes "+") then Some p.Plus
    else if b == byte (codes "-") then Some p.Minus
    else if b == byte (codes "*") then Some p.Star
    else if b == byte (codes "/") then Some p.Slash
    else if b == byte (codes "%") then Some p.Percent
    else if b == byte (codes "!") then Some p.Not
    else if b == byte (codes "<") then Some p.Less
    else if b == byte (codes ">") then Some p.Greater
    else None

abbrev pub long_mark : ℕ → ℕ → Option Punct
long_mark b d =
    if (b == byte (codes "=")) && (d == byte (codes "=")) then Some p.EqualEqual
    else if (b == byte (codes "!")) && (d == byte (codes "=")) then Some p.NotEqual
    else if (b == byte (codes "<")) && (d == byte (codes "=")) then Some p.LessEqual
    else if (b == byte (codes ">")) && (d == byte (codes "=")) then Some p.GreaterEqual
    else if (b == byte (codes "&")) && (d == byte (codes "&")) then Some p.And
    else if (b == byte (codes "|")) && (d == byte (codes "|")) then Some p.Or
    else None

abbrev pub short_found : Option Punct → Front
short_found (Some mark) = front.Lexeme 1 (token.Punct mark)
short_found None = front.Wrong 0 fault.BadChar

abbrev pub long_found : ℕ → Option Punct → Front
long_found b (Some mark) = front.Lexeme 2 (token.Punct mark)
long_found b None = short_found (short_mark b)

-- the bytes through the first `*/`
abbrev pub close_of : List ℕ → Option ℕ
close_of [] = None
close_of (b ∷ bs) = if starts_close (b ∷ bs) then Some 2 else option_map suc (close_of bs)

abbrev pub comment_found : Option ℕ → Front
comment_found (Some n) = front.Gap (n + 2)
comment_found None = front.Wrong 0 fault.CommentOpen

abbrev pub pair_front : ℕ → ℕ → List ℕ → Front
pair_front b d text =
    if (b == byte (codes "/")) && (d == byte (codes "/")) then front.Gap
    (position_or_len (λ c. c == line_feed) text)
    else if (b == byte (codes "/")) && (d == byte (codes "*")) then comment_found (close_of (drop 2 text))
    else long_found b (long_mark b d)

abbrev pub sign_front : List ℕ → Front
sign_front text =
    if nat_lt 1 (length text) then pair_front (slice_index text 0) (slice_index text 1) text
    else short_found (short_mark (slice_index text 0))

-- ---- words

-- the bytes of the longest front of characters that go on a word
abbrev pub word_len : List ℕ → ℕ
word_len [] = 0
word_len (c ∷ cs) = if is_xid_continue c then len_utf8 c + word_len cs else 0

abbrev pub word_found : Option Keyword → TokenKind
word_found (Some keyword) = token.Keyword keyword
word_found None = token.Word

abbrev pub word_cut : ℕ → List ℕ → Front
word_cut n text = if nat_le n NAME_LIMIT then front.Lexeme n (word_found (keyword_of (take n text)))
    else front.Wrong 0 fault.NameLong

abbrev pub word_front : List ℕ → Front
word_front text = word_cut (word_len (chars text)) text

-- ---- numbers

abbrev pub number_cut : ℕ → ℕ → Front
number_cut n value = if nat_le value NUMBER_LIMIT then front.Lexeme n (token.Number value) else front.Wrong
    0 fault.NumberLarge

abbrev pub number_front : List ℕ → Front
number_front text = number_cut (prefix_len is_ascii_digit text)
    (digits_value 10 (take (prefix_len is_ascii_digit text) text))

-- ---- quoted texts

abbrev pub stop : List ℕ → ℕ × List ℕ
stop rest = (0, rest)

abbrev pub one_more : ℕ × List ℕ → ℕ × List ℕ
one_more r = (suc r.0, r.1)

abbrev pub run_on : (List ℕ → ℕ × List ℕ) → List ℕ → Option (ℕ × List ℕ) → ℕ × List ℕ
run_on more bs None = stop bs
run_on more bs (Some next) = one_more (more next.1)

-- how many bytes of a text value are spelled at the front, and what follows; at most the given number is read
abbrev pub run_for : ℕ → List ℕ → ℕ × List ℕ
run_for zero bs = stop bs
run_for (suc n) bs = run_on (run_for n) bs (next_byte bs)

-- what ends a quoted text of n bytes of value, so many bytes from the front
abbrev pub quote_end : ℕ → ℕ → List ℕ → Front
quote_end before n [] = front.Wrong 0 fault.TextOpen
quote_end before n (b ∷ rest) =
    if b == quote then (if nat_le n TEXT_LIMIT then front.Lexeme (before + 1) token.Quoted else front.Wrong
    0 fault.TextLong)
    else if (b == backslash) && nat_lt 0 (length rest) then front.Wrong before fault.BadEscape
    else front.Wrong 0 fault.TextOpen

abbrev pub quoted_run : List ℕ → ℕ × List ℕ → Front
quoted_run text r = quote_end (length text - length r.1) r.0 r.1

abbrev pub quoted_front : List ℕ → Front
quoted_front text = quoted_run text (run_for (length (drop 1 text)) (drop 1 text))

-- ---- the front

abbrev pub front_by : List ℕ → List ℕ → Front
front_by [] text = front.End
front_by (c ∷ cs) text =
    if is_blank c then front.Gap 1
    else if is_ascii_digit c then number_front text
    else if c == quote then quoted_front text
    else if starts_word c then word_front text
    else sign_front text

unfoldable pub front_of : List ℕ → Front
front_of text = front_by (chars text) text

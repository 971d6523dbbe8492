-- A word that is a token wherever a blank follows is one there.
use Rattle.std.proofs.Common.{◌≡◌, ℕ, ◌<◌, ◌≤◌, ◌^◌, Bool, true, false, List, [], ◌∷◌, ◌++◌, length, None, refl, sym, ap, ◌∙◌, arith}
use Rattle.std.specs.Prelude.{◌==◌, ◌&&◌, ◌||◌, not}
use Rattle.std.specs.Char.{is_ascii_digit, is_ascii_alphabetic, is_ascii_alphanumeric}
use Rattle.std.specs.Fmt.{decimal}
use Rattle.std.specs.List.{list_all}
use Rattle.std.specs.Str.{chars, is_utf8, IsAscii}
use Rattle.std.proofs.lemmas.Bool.{leb-true}
use Rattle.std.proofs.lemmas.Bool.Decides.{nat_tests}
use Rattle.std.proofs.lemmas.Fmt.{decimal_nonempty, digits_decimal, digits_value-decimal}
use Rattle.std.proofs.lemmas.Str.{IsUtf8-from_ascii, is_utf8-from_IsUtf8, chars-IsAscii}
use Rattle.std.proofs.lemmas.Str.Ascii.{IsAscii-nil, IsAscii-cons}
use Rattle.unicode_ident.specs.Ident.{is_xid_continue}
use Rattle.unicode_ident.proofs.IdentLemmas.{is_xid_start-ascii, is_xid_continue-ascii}
use Rattle.hh_base.specs.Keyword.{is_keyword, keyword_text}
use Rattle.hh_base.specs.Name.{starts_word, is_word}
use Rattle.module_tree.specs.SourceWords.{is_written_name}
use Rattle.hh_base.specs.declared.keyword.Keyword.{Keyword}
use Rattle.hh_base.specs.declared.keyword.Keyword.TheVariants as k
use Rattle.module_token.specs.declared.punct.Punct.{Punct}
use Rattle.module_token.specs.declared.punct.Punct.TheVariants as p
use Rattle.module_token.specs.declared.token.TokenKind.{TokenKind}
use Rattle.module_token.specs.declared.token.TokenKind.TheVariants as token
use Rattle.module_token.specs.Front.{long_mark}
use Rattle.module_token.specs.Gap.{is_blank, begins_comment}
use Rattle.module_token.specs.Spelling.{punct_text}
use Rattle.module_token.specs.Token.{IsToken, IsLongestWord, IsLongestNumber, IsLongestMark, goes_on}
use Rattle.module_token.proofs.Digits.{own}
use Rattle.module_token.proofs.Heads.{head_ascii}
use Rattle.module_token.proofs.Marks.{Shape, one, two, shape}
use Rattle.round_trip.proofs.Lexemes.{IsLexeme}

pub and_true : (a b : Bool) → (a && b) ≡ true → (a ≡ true) × (b ≡ true)
and_true true b h = (refl, h)
and_true false b h = cc

pub blank_ascii : (b : ℕ) → is_blank b ≡ true → b < 128
blank_ascii b h = grind (arith, nat_tests)

-- ---- words of ASCII letters

abbrev pub is_plain : List ℕ → Bool
is_plain [] = false
is_plain (c ∷ cs) = is_ascii_alphabetic c && list_all is_ascii_alphabetic cs

letter_ascii : (c : ℕ) → is_ascii_alphabetic c ≡ true → c < 128
letter_ascii c h = grind (arith, nat_tests)

letter_continues : (c : ℕ) → is_ascii_alphabetic c ≡ true → is_xid_continue c ≡ true
letter_continues c h = is_xid_continue-ascii c (letter_ascii c h) ∙ either c h
  where
    either : (c : ℕ) → is_ascii_alphabetic c ≡ true → (is_ascii_alphanumeric c || (c == 95)) ≡ true
    either c h = grind (arith, nat_tests)

letter_starts : (c : ℕ) → is_ascii_alphabetic c ≡ true → starts_word c ≡ true
letter_starts c h = rw (is_xid_start-ascii c (letter_ascii c h), h) refl

letters_ascii : (cs : List ℕ) → list_all is_ascii_alphabetic cs ≡ true → IsAscii cs
letters_ascii [] h = IsAscii-nil
letters_ascii (c ∷ cs) h = let q = and_true (is_ascii_alphabetic c) (list_all is_ascii_alphabetic cs) h in
    IsAscii-cons c cs (letter_ascii c q.0) (letters_ascii cs q.1)

letters_continue : (cs : List ℕ) → list_all is_ascii_alphabetic cs ≡ true → list_all is_xid_continue cs ≡ true
letters_continue [] h = refl
letters_continue (c ∷ cs) h = let q = and_true (is_ascii_alphabetic c) (list_all is_ascii_alphabetic cs) h in
    rw (letter_continues c q.0) (letters_continue cs q.1)

-- a word, in UTF-8
pub record IsUtf8Word (w : List ℕ) : Type 0 where
  pub utf8 : is_utf8 w ≡ true
  pub letters : is_word (chars w) ≡ true

pub plain_word : (w : List ℕ) → is_plain w ≡ true → IsUtf8Word w
plain_word [] h = absurd (let never : ⊥ = cc in never)
plain_word (c ∷ cs) h =
    let q = and_true (is_ascii_alphabetic c) (list_all is_ascii_alphabetic cs) h in
    let ascii = IsAscii-cons c cs (letter_ascii c q.0) (letters_ascii cs q.1) in
    record {
      utf8 = is_utf8-from_IsUtf8 (c ∷ cs) (IsUtf8-from_ascii (c ∷ cs) ascii);
      letters = ap is_word (chars-IsAscii (c ∷ cs) ascii) ∙ rw (letter_starts c q.0)
          (letters_continue cs q.1);
    }

pub plain_keyword : (keyword : Keyword) → is_plain (keyword_text keyword) ≡ true
plain_keyword k.Module = refl
plain_keyword _ = refl

-- ---- words and numbers, which no blank goes on

module _ (b : ℕ) (rest : List ℕ) (blank : is_blank b ≡ true) where
  ends_word : goes_on (chars (b ∷ rest)) ≡ false
  ends_word = let q = head_ascii b rest (blank_ascii b blank) in
      ap goes_on q.1 ∙ is_xid_continue-ascii b (blank_ascii b blank) ∙ neither b blank
    where
      neither : (b : ℕ) → is_blank b ≡ true → (is_ascii_alphanumeric b || (b == 95)) ≡ false
      neither b h = grind (arith, nat_tests)

  longest_word : (w : List ℕ) → IsUtf8Word w → IsLongestWord w (b ∷ rest)
  longest_word w h = record { utf8 = h.utf8; letters = h.letters; ends = ends_word }

  written_name : (w : List ℕ) → is_written_name w ≡ true → IsToken w token.Word (b ∷ rest)
  written_name w h =
      let q = and_true _ _ h in
      let r = and_true _ _ q.0 in
      let s = and_true (is_utf8 w) (is_word (chars w)) r.0 in (
        longest_word w (record { utf8 = s.0; letters = s.1 }),
        leb-true (length w) 255 r.1,
        no_keyword
            (is_keyword w) q.1,
      )
    where
      no_keyword : (t : Bool) → not t ≡ true → t ≡ false
      no_keyword true h = cc
      no_keyword false h = refl

  longest_number : (n : ℕ) → n ≤ 2 ^ 63 → IsLongestNumber (decimal n) (b ∷ rest) n
  longest_number n h =
      let small : n < 2 ^ 64 = omega (arith, h) in
      record {
        number = record {
          some = decimal_nonempty n small;
          digits = digits_decimal own n small;
          value = digits_value-decimal own n small;
        };
        ends = no_digit b blank;
      }
    where
      no_digit : (b : ℕ) → is_blank b ≡ true → is_ascii_digit b ≡ false
      no_digit b h = grind (arith, nat_tests)

-- ---- marks, of which none is longer with a blank in it

mark_short : (mark : Punct) → length (punct_text mark) ≤ 2
mark_short p.LeftParen = omega arith
mark_short _ = omega arith

no_second : (b d : ℕ) → is_blank d ≡ true → long_mark b d ≡ None
no_second b d h = grind (arith, nat_tests)

no_comment : (b : ℕ) (rest : List ℕ) → is_blank b ≡ true → (mark : Punct)
    → begins_comment (punct_text mark ++ b ∷ rest) ≡ false
no_comment b rest h p.Slash = slash b h
  where
    slash : (b : ℕ) → is_blank b ≡ true → ((b == 47) || (b == 42)) ≡ false
    slash b h = grind (arith, nat_tests)
no_comment b rest h _ = refl

-- where one mark, and a blank behind it, stand in front, another one is not longer
longest : (b : ℕ) (rest : List ℕ) → is_blank b ≡ true → (mark other : Punct) → Shape mark → Shape other
    → (more : List ℕ) → punct_text mark ++ b ∷ rest ≡ punct_text other ++ more
    → length (punct_text other) ≤ length (punct_text mark)
longest b rest h mark other (one c is found sign) (one d same found2 sign2) more e =
    omega (arith, ap length is, ap length same)
longest b rest h mark other (two c d is found sign) s more e = omega (arith, ap length is, mark_short other)
longest b rest h mark other (one c is found sign) (two x y same found2 sign2) more e =
    let split : c ∷ b ∷ rest ≡ x ∷ y ∷ more = ap (λ l. l ++ b ∷ rest) (sym is) ∙ e
    ∙ ap (λ l. l ++ more) same in
    absurd (never (second split))
  where
    second : c ∷ b ∷ rest ≡ x ∷ y ∷ more → b ≡ y
    second e = cc

    never : b ≡ y → ⊥
    never e = let none : long_mark x y ≡ None = ap (long_mark x) (sym e) ∙ no_second x b h in cc

longest_mark : (mark : Punct) (b : ℕ) (rest : List ℕ) → is_blank b ≡ true
    → IsLongestMark (punct_text mark) (b ∷ rest) mark
longest_mark mark b rest h = record {
  spelled = refl;
  longest = λ other more e. longest b rest h mark other (shape mark) (shape other) more e;
  no_comment = no_comment b rest h mark;
}

-- ---- all tokens

pub before_blank : (w : List ℕ) (what : TokenKind) (b : ℕ) (rest : List ℕ) → is_blank b ≡ true
    → IsLexeme w what → IsToken w what (b ∷ rest)
before_blank w token.Word b rest blank h = written_name b rest blank w h
before_blank w (token.Keyword keyword) b rest blank h = (
  longest_word b rest blank w
      (rw h (plain_word (keyword_text keyword) (plain_keyword keyword))),
  h,
)
before_blank w (token.Number n) b rest blank h = (rw h.0 (longest_number b rest blank n h.1), h.1)
before_blank w token.Quoted b rest blank h = h
before_blank w (token.Punct mark) b rest blank h = rw h (longest_mark mark b rest blank)

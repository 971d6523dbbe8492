-- What a word spells is told by the word: the kind of its token.
use Rattle.std.proofs.Common.{◌≡◌, ℕ, ◌<◌, ◌≤◌, ◌^◌, Bool, true, false, List, [], ◌∷◌, length, Option, Some, None, refl, sym, ap, subst, ◌∙◌, ⊎_elim, decimal, arith}
use Rattle.std.specs.Prelude.{not, ◌==◌, ◌||◌, nat_le, if◌then◌else◌}
use Rattle.std.specs.Char.{is_ascii_digit, is_ascii_alphabetic}
use Rattle.std.specs.List.{list_all}
use Rattle.std.specs.Str.{chars, is_utf8, all_ascii_digits}
use Rattle.std.proofs.lemmas.Bool.{cases_lt, leb-true}
use Rattle.std.proofs.lemmas.Bool.Decides.{nat_tests}
use Rattle.std.proofs.lemmas.Fmt.{digits_decimal, decimal_nonempty, decimal_injective}
use Rattle.unicode_ident.proofs.IdentLemmas.{is_xid_start-ascii}
use Rattle.hh_base.specs.Keyword.{is_keyword, keyword_text, keyword_of}
use Rattle.hh_base.specs.Name.{starts_word, is_word}
use Rattle.hh_base.specs.Literal.{quoted}
use Rattle.module_tree.specs.SourceWords.{is_written_name}
use Rattle.grammar.proofs.KindSets.{both as parts}
use Rattle.hh_base.specs.declared.keyword.Keyword.{Keyword}
use Rattle.hh_base.specs.declared.keyword.Keyword.TheVariants as k
use Rattle.module_token.specs.declared.punct.Punct.{Punct}
use Rattle.module_token.specs.declared.punct.Punct.TheVariants as p
use Rattle.module_token.specs.declared.token.TokenKind.{TokenKind}
use Rattle.module_token.specs.declared.token.TokenKind.TheVariants as token
use Rattle.module_token.specs.Front.{short_mark, long_mark}
use Rattle.module_token.specs.Spelling.{punct_text}
use Rattle.module_token.proofs.Digits.{own}
use Rattle.module_token.proofs.Heads.{head_ascii}
use Rattle.hh_base.proofs.Keywords.{is_keyword_spelled, keyword_spelled}
use Rattle.round_trip.proofs.Lexemes.{IsLexeme}

-- ---- by the first byte

-- 1: a number, 2: a quoted text, 3: a word, 4: a mark
abbrev pub look : List ℕ → ℕ
look [] = 0
look (b ∷ bs) =
    if is_ascii_digit b then 1
    else if b == 34 then 2
    else if (is_ascii_alphabetic b || (b == 95)) || nat_le 128 b then 3
    else 4

abbrev kind_look : TokenKind → ℕ
kind_look token.Word = 3
kind_look (token.Keyword keyword) = 3
kind_look (token.Number value) = 1
kind_look token.Quoted = 2
kind_look (token.Punct mark) = 4

keyword_look : (keyword : Keyword) → look (keyword_text keyword) ≡ 3
keyword_look k.Module = refl
keyword_look _ = refl

punct_look : (mark : Punct) → look (punct_text mark) ≡ 4
punct_look p.LeftParen = refl
punct_look _ = refl

digits_look : (bs : List ℕ) → 0 < length bs → all_ascii_digits bs ≡ true → look bs ≡ 1
digits_look [] l h = absurd (let no : ⊥ = omega (arith, l) in no)
digits_look (b ∷ bs) l h = rw (parts (is_ascii_digit b) (list_all is_ascii_digit bs) h).0 refl

number_look : (n : ℕ) → n ≤ 2 ^ 63 → look (decimal n) ≡ 1
number_look n h = digits_look (decimal n) (decimal_nonempty n (omega (arith, h)))
    (digits_decimal own n (omega (arith, h)))

word_look : (b : ℕ) (bs : List ℕ) → (is_ascii_alphabetic b || (b == 95)) ≡ true → look (b ∷ bs) ≡ 3
word_look b bs h = rw (no_digit b h, no_quote b h, h) refl
  where
    no_digit : (b : ℕ) → (is_ascii_alphabetic b || (b == 95)) ≡ true → is_ascii_digit b ≡ false
    no_digit b h = grind (arith, nat_tests)

    no_quote : (b : ℕ) → (is_ascii_alphabetic b || (b == 95)) ≡ true → (b == 34) ≡ false
    no_quote b h = grind (arith, nat_tests)

high_look : (b : ℕ) (bs : List ℕ) → 128 ≤ b → look (b ∷ bs) ≡ 3
high_look b bs h = rw (no_digit b h, no_quote b h, no_letter b h, high b h) refl
  where
    no_digit : (b : ℕ) → 128 ≤ b → is_ascii_digit b ≡ false
    no_digit b h = grind (arith, nat_tests)

    no_quote : (b : ℕ) → 128 ≤ b → (b == 34) ≡ false
    no_quote b h = grind (arith, nat_tests)

    no_letter : (b : ℕ) → 128 ≤ b → (is_ascii_alphabetic b || (b == 95)) ≡ false
    no_letter b h = grind (arith, nat_tests)

    high : (b : ℕ) → 128 ≤ b → nat_le 128 b ≡ true
    high b h = grind (arith, nat_tests)

name_look : (w : List ℕ) → is_word (chars w) ≡ true → look w ≡ 3
unfolding chars
name_look [] h = absurd (let no : ⊥ = cc in no)
name_look (b ∷ bs) h = ⊎_elim low (high_look b bs) (cases_lt b 128)
  where
    low : b < 128 → look (b ∷ bs) ≡ 3
    low small =
        let q = head_ascii b bs small in
        let starts = (parts (starts_word b) _ (subst (λ cs. is_word cs ≡ true) q.1 h)).0 in
        word_look b bs (sym (ap (λ t. t || (b == 95)) (is_xid_start-ascii b small)) ∙ starts)

-- what a written name keeps
pub record Written (w : List ℕ) : Type 0 where
  pub utf8 : is_utf8 w ≡ true
  pub word : is_word (chars w) ≡ true
  pub short : length w ≤ 255
  pub plain : is_keyword w ≡ false

pub written : (w : List ℕ) → is_written_name w ≡ true → Written w
written w h =
    let outer = parts _ (not (is_keyword w)) h in
    let inner = parts _ (nat_le (length w) 255) outer.0 in
    let both = parts (is_utf8 w) (is_word (chars w)) inner.0 in
    record {
      utf8 = both.0;
      word = both.1;
      short = leb-true (length w) 255 inner.1;
      plain = no_keyword (is_keyword w) outer.1;
    }
  where
    no_keyword : (b : Bool) → not b ≡ true → b ≡ false
    no_keyword true h = sym h
    no_keyword false h = refl

quote_look : (v : List ℕ) → look (quoted v) ≡ 2
quote_look v = refl

lexeme_look : (w : List ℕ) (what : TokenKind) → IsLexeme w what → look w ≡ kind_look what
lexeme_look w token.Word h = name_look w (written w h).word
lexeme_look w (token.Keyword keyword) h = ap look h ∙ keyword_look keyword
lexeme_look w (token.Number value) h = ap look h.0 ∙ number_look value h.1
lexeme_look w token.Quoted h = ap look h.2 ∙ quote_look h.0
lexeme_look w (token.Punct mark) h = ap look h ∙ punct_look mark

-- ---- the kind

mark_of : List ℕ → Option Punct
mark_of [] = None
mark_of (b ∷ []) = short_mark b
mark_of (b ∷ d ∷ bs) = long_mark b d

mark_spelled : (mark : Punct) → mark_of (punct_text mark) ≡ Some mark
unfolding mark_of
mark_spelled p.LeftParen = refl
mark_spelled _ = refl

keyword_no_name : (keyword : Keyword) → is_keyword (keyword_text keyword) ≡ false → ⊥
keyword_no_name keyword h = let e = sym (is_keyword_spelled keyword) ∙ h in let no : ⊥ = cc in no

-- what begins as a word and is no keyword is a word
pub only_plain : (w : List ℕ) (what : TokenKind) → look w ≡ 3 → is_keyword w ≡ false → IsLexeme w what
    → what ≡ token.Word
only_plain w token.Word l p h = refl
only_plain w (token.Keyword keyword) l p h = absurd (keyword_no_name keyword
    (subst (λ z. is_keyword z ≡ false) h p))
only_plain w (token.Number value) l p h = absurd (let e = sym l ∙ lexeme_look w (token.Number value) h in
    let no : ⊥ = cc in no)
only_plain w token.Quoted l p h = absurd (let e = sym l ∙ lexeme_look w token.Quoted h in let no : ⊥ = cc in
    no)
only_plain w (token.Punct mark) l p h = absurd (let e = sym l ∙ lexeme_look w (token.Punct mark) h in
    let no : ⊥ = cc in no)

pub only_word : (w : List ℕ) (what : TokenKind) → is_written_name w ≡ true → IsLexeme w what
    → what ≡ token.Word
only_word w what n h = let q = written w n in only_plain w what (name_look w q.word) q.plain h

some_same : {A : Type 0} {a b : A} → Some a ≡ Some b → a ≡ b
some_same e = cc

pub only_keyword : (keyword : Keyword) (what : TokenKind) → IsLexeme (keyword_text keyword) what
    → what ≡ token.Keyword keyword
only_keyword keyword token.Word h = absurd (keyword_no_name keyword (written (keyword_text keyword) h).plain)
only_keyword keyword (token.Keyword other) h = ap token.Keyword
    (some_same (sym (keyword_spelled other) ∙ ap keyword_of (sym h) ∙ keyword_spelled keyword))
only_keyword keyword (token.Number value) h = absurd (let e = sym (keyword_look keyword)
    ∙ lexeme_look _ (token.Number value) h in let no : ⊥ = cc in no)
only_keyword keyword token.Quoted h = absurd (let e = sym (keyword_look keyword)
    ∙ lexeme_look _ token.Quoted h in let no : ⊥ = cc in no)
only_keyword keyword (token.Punct mark) h = absurd (let e = sym (keyword_look keyword)
    ∙ lexeme_look _ (token.Punct mark) h in let no : ⊥ = cc in no)

pub only_punct : (mark : Punct) (what : TokenKind) → IsLexeme (punct_text mark) what → what ≡ token.Punct mark
only_punct mark token.Word h = absurd (let e = sym (punct_look mark) ∙ lexeme_look _ token.Word h in
    let no : ⊥ = cc in no)
only_punct mark (token.Keyword keyword) h = absurd (let e = sym (punct_look mark)
    ∙ lexeme_look _ (token.Keyword keyword) h in let no : ⊥ = cc in no)
only_punct mark (token.Number value) h = absurd (let e = sym (punct_look mark)
    ∙ lexeme_look _ (token.Number value) h in let no : ⊥ = cc in no)
only_punct mark token.Quoted h = absurd (let e = sym (punct_look mark) ∙ lexeme_look _ token.Quoted h in
    let no : ⊥ = cc in no)
only_punct mark (token.Punct other) h = ap token.Punct (some_same
    (sym (mark_spelled other) ∙ ap mark_of (sym h) ∙ mark_spelled mark))

pub only_number : (n : ℕ) (what : TokenKind) → n ≤ 2 ^ 63 → IsLexeme (decimal n) what → what ≡ token.Number n
only_number n token.Word l h = absurd (let e = sym (number_look n l) ∙ lexeme_look _ token.Word h in
    let no : ⊥ = cc in no)
only_number n (token.Keyword keyword) l h = absurd (let e = sym (number_look n l)
    ∙ lexeme_look _ (token.Keyword keyword) h in let no : ⊥ = cc in no)
only_number n (token.Number value) l h = ap token.Number (decimal_injective value n (omega (arith, h.1))
    (omega (arith, l)) (sym h.0))
only_number n token.Quoted l h = absurd (let e = sym (number_look n l) ∙ lexeme_look _ token.Quoted h in
    let no : ⊥ = cc in no)
only_number n (token.Punct mark) l h = absurd (let e = sym (number_look n l)
    ∙ lexeme_look _ (token.Punct mark) h in let no : ⊥ = cc in no)

pub only_quoted : (v : List ℕ) (what : TokenKind) → IsLexeme (quoted v) what → what ≡ token.Quoted
only_quoted v token.Word h = absurd (let e = sym (quote_look v) ∙ lexeme_look _ token.Word h in
    let no : ⊥ = cc in no)
only_quoted v (token.Keyword keyword) h = absurd (let e = sym (quote_look v)
    ∙ lexeme_look _ (token.Keyword keyword) h in let no : ⊥ = cc in no)
only_quoted v (token.Number value) h = absurd (let e = sym (quote_look v)
    ∙ lexeme_look _ (token.Number value) h in let no : ⊥ = cc in no)
only_quoted v token.Quoted h = refl
only_quoted v (token.Punct mark) h = absurd (let e = sym (quote_look v)
    ∙ lexeme_look _ (token.Punct mark) h in let no : ⊥ = cc in no)

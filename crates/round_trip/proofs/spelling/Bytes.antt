-- Words that are tokens are UTF-8.
use Rattle.std.proofs.Common.{◌≡◌, ◌≢◌, ℕ, ◌<◌, ◌⊎◌, inl, inr, true, List, [], ◌∷◌, ◌++◌, decimal, refl, sym, subst, ⊎_elim, append_assoc, arith}
use Rattle.std.specs.Prelude.{Bool, nat_lt}
use Rattle.std.specs.List.{flat_map, list_all}
use Rattle.std.specs.Str.{IsUtf8, is_utf8, IsAscii}
use Rattle.std.proofs.lemmas.Bool.{cases_eq, ltb-true}
use Rattle.std.proofs.lemmas.Bool.Decides.{nat_tests}
use Rattle.std.proofs.lemmas.Fmt.{IsAscii-decimal}
use Rattle.std.proofs.lemmas.Str.{IsUtf8-append, IsUtf8-from_ascii, IsUtf8-from_is_utf8}
use Rattle.std.proofs.lemmas.Str.Ascii.{IsAscii-nil, IsAscii-cons}
use Rattle.hh_base.specs.Literal.{escaped, quoted}
use Rattle.module_token.specs.declared.punct.Punct.{Punct}
use Rattle.module_token.specs.declared.punct.Punct.TheVariants as p
use Rattle.module_token.specs.declared.token.TokenKind.{TokenKind}
use Rattle.module_token.specs.declared.token.TokenKind.TheVariants as token
use Rattle.hh_base.specs.Keyword.{keyword_text}
use Rattle.module_token.specs.Spelling.{punct_text}
use Rattle.module_token.proofs.Values.{before_ascii, after_ascii}
use Rattle.round_trip.proofs.Lexemes.{IsLexeme}
use Rattle.round_trip.proofs.spelling.Blanks.{and_true, plain_word, plain_keyword}

-- ---- texts between quotes

-- a byte stands as it is, or is ASCII and stands as a backslash and another ASCII byte
abbrev Escape : ℕ → Type 0
Escape b = (escaped b ≡ b ∷ []) ⊎ ((m : ℕ) × (escaped b ≡ 92 ∷ m ∷ []) × (m < 128) × (b < 128))

plain : (b : ℕ) → b ≢ 34 → b ≢ 92 → b ≢ 10 → b ≢ 9 → escaped b ≡ b ∷ []
plain b p q r s = grind (arith, nat_tests)

escape : (b : ℕ) → Escape b
escape b =
    ⊎_elim (λ e. subst Escape (sym e) (inr (34, refl, omega arith, omega arith)))
    (λ p. ⊎_elim (λ e. subst Escape (sym e) (inr (92, refl, omega arith, omega arith)))
    (λ q. ⊎_elim (λ e. subst Escape (sym e) (inr (110, refl, omega arith, omega arith)))
    (λ r. ⊎_elim (λ e. subst Escape (sym e) (inr (116, refl, omega arith, omega arith)))
    (λ s. inl (plain b p q r s)) (cases_eq b 9)) (cases_eq b 10)) (cases_eq b 92)) (cases_eq b 34)

-- a byte more of the value, given what holds of the others
module _ (before : List ℕ) (b : ℕ) (value : List ℕ) (again : (front : List ℕ) → IsUtf8 (front ++ value)
    → IsUtf8 (front ++ flat_map escaped value)) (u : IsUtf8 (before ++ b ∷ value)) where
  as_it_is : escaped b ≡ b ∷ [] → IsUtf8 (before ++ flat_map escaped (b ∷ value))
  as_it_is e = rw e (subst IsUtf8 (append_assoc before (b ∷ []) (flat_map escaped value))
      (again (before ++ b ∷ []) (subst IsUtf8 (sym (append_assoc before (b ∷ []) value)) u)))

  by_escape : (m : ℕ) × (escaped b ≡ 92 ∷ m ∷ []) × (m < 128) × (b < 128)
      → IsUtf8 (before ++ flat_map escaped (b ∷ value))
  by_escape (m, e, low, ascii) =
      let two = IsUtf8-from_ascii (92 ∷ m ∷ []) (IsAscii-cons 92 (m ∷ []) (omega arith)
      (IsAscii-cons m [] low IsAscii-nil)) in
      let more = IsUtf8-append (92 ∷ m ∷ []) (flat_map escaped value) two
      (again [] (after_ascii before value b ascii u)) in
      rw e (IsUtf8-append before (92 ∷ m ∷ flat_map escaped value) (before_ascii before value b ascii u) more)

-- bytes before a value, and what stands for the value
escaped_utf8 : (before value : List ℕ) → IsUtf8 (before ++ value) → IsUtf8 (before ++ flat_map escaped value)
escaped_utf8 before [] u = u
escaped_utf8 before (b ∷ value) u =
    let again : (front : List ℕ) → IsUtf8 (front ++ value) → IsUtf8 (front ++ flat_map escaped value) =
    λ front. escaped_utf8 front value in
    ⊎_elim (as_it_is before b value again u) (by_escape before b value again u) (escape b)

quoted_utf8 : (value : List ℕ) → IsUtf8 value → IsUtf8 (quoted value)
quoted_utf8 value u =
    let quote = IsUtf8-from_ascii (34 ∷ []) (IsAscii-cons 34 [] (omega arith) IsAscii-nil) in
    IsUtf8-append (34 ∷ []) (flat_map escaped value ++ 34 ∷ []) quote
    (IsUtf8-append (flat_map escaped value) (34 ∷ []) (escaped_utf8 [] value u) quote)

-- ---- all words

low : List ℕ → Bool
low = list_all (λ b. nat_lt b 128)

low_ascii : (bs : List ℕ) → low bs ≡ true → IsAscii bs
unfolding low
low_ascii [] h = IsAscii-nil
low_ascii (b ∷ bs) h = let q = and_true (nat_lt b 128) (list_all (λ c. nat_lt c 128) bs) h in
    IsAscii-cons b bs (ltb-true b 128 q.0) (low_ascii bs q.1)

mark_low : (mark : Punct) → low (punct_text mark) ≡ true
unfolding low
mark_low p.LeftParen = refl
mark_low _ = refl

pub lexeme_utf8 : (w : List ℕ) (what : TokenKind) → IsLexeme w what → IsUtf8 w
lexeme_utf8 w token.Word h = IsUtf8-from_is_utf8 w (and_true (is_utf8 w) _
    (and_true _ _ (and_true _ _ h).0).0).0
lexeme_utf8 w (token.Keyword keyword) h = subst IsUtf8 (sym h)
    (IsUtf8-from_is_utf8 _ (plain_word (keyword_text keyword) (plain_keyword keyword)).utf8)
lexeme_utf8 w (token.Number n) h = subst IsUtf8 (sym h.0) (IsUtf8-from_ascii (decimal n)
    (IsAscii-decimal n (omega (arith, h.1))))
lexeme_utf8 w token.Quoted h = subst IsUtf8 (sym h.2) (quoted_utf8 h.0 (IsUtf8-from_is_utf8 h.0 h.1.utf8))
lexeme_utf8 w (token.Punct mark) h = subst IsUtf8 (sym h) (IsUtf8-from_ascii (punct_text mark)
    (low_ascii (punct_text mark) (mark_low mark)))

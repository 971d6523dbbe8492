-- A step of a walk over the characters of a text.
use Rattle.std.proofs.Common.{◌≡◌, ℕ, ◌+◌, ◌≤◌, true, false, List, [], ◌∷◌, ◌++◌, length, drop, refl, sym, ap}
use Rattle.std.proofs.Common.{subst, ◌∙◌, arith, length-drop, length-append}
use Rattle.std.specs.Char.{len_utf8}
use Rattle.std.specs.Str.{chars, IsUtf8}
use lib.Utf8.{encode}
use Rattle.std.proofs.lemmas.Str.{drop_past_char, IsUtf8-past_char, chars_past_char, length-encode}
use Rattle.unicode_ident.specs.Ident.{is_xid_continue}
use Rattle.module_token.specs.Front.{word_len}

-- the next character, and what stands behind it
module _ (text rest : List ℕ) (i c : ℕ) (utf8 : IsUtf8 (drop i text)) (e : drop i text ≡ encode c ++ rest)
  where
    pub past : drop (i + len_utf8 c) text ≡ rest
    past = drop_past_char text rest i c e

    pub past_utf8 : IsUtf8 (drop (i + len_utf8 c) text)
    past_utf8 = subst IsUtf8 (sym past) (IsUtf8-past_char (drop i text) rest c utf8 e)

    pub past_within : i ≤ length text → i + len_utf8 c ≤ length text
    past_within le = omega (
      arith,
      ap length e,
      length-append (encode c) rest,
      length-encode c,
      length-drop i text,
    )

    unfolded : chars (drop i text) ≡ c ∷ chars (drop (i + len_utf8 c) text)
    unfolded = chars_past_char (drop i text) rest c utf8 e ∙ ap (λ r. c ∷ chars r) (sym past)

    pub goes_on : is_xid_continue c ≡ true → word_len (chars text) ≡ i + word_len (chars (drop i text))
        → word_len (chars text) ≡ i + len_utf8 c + word_len (chars (drop (i + len_utf8 c) text))
    goes_on h total =
        let one : word_len (chars (drop i text)) ≡ len_utf8 c + word_len
        (chars (drop (i + len_utf8 c) text)) = ap word_len unfolded ∙ rw h refl in
        omega (arith, total, one)

    pub stops : is_xid_continue c ≡ false → word_len (chars text) ≡ i + word_len (chars (drop i text))
        → i ≡ word_len (chars text)
    stops h total =
        let one : word_len (chars (drop i text)) ≡ 0 = ap word_len unfolded ∙ rw h refl in
        omega (arith, total, one)

nil : (xs : List ℕ) → length xs ≡ 0 → xs ≡ []
nil [] e = refl
nil (x ∷ xs) e = absurd (let no : ⊥ = omega arith in no)

no_word : word_len (chars []) ≡ 0
unfolding chars
no_word = refl

pub ends : (text : List ℕ) (i : ℕ) → length (drop i text) ≡ 0
    → word_len (chars text) ≡ i + word_len (chars (drop i text)) → i ≡ word_len (chars text)
ends text i e total = let one : word_len (chars (drop i text)) ≡ 0 = rw (nil (drop i text) e) no_word in
    omega (arith, total, one)

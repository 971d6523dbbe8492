-- The tokens of lines of words, each of which is a token before any blank.
use Rattle.std.proofs.Common.{◌≡◌, ℕ, ◌+◌, true, List, [], ◌∷◌, ◌++◌, length, None, refl, sym, subst, ◌∙◌, append_assoc, inl}
use Rattle.std.specs.List.{AllByRecursion}
use Rattle.std.specs.Str.{IsUtf8}
use Rattle.std.proofs.lemmas.Str.{IsUtf8-append, IsUtf8-from_ascii, IsUtf8-nil}
use Rattle.std.proofs.lemmas.Str.Ascii.{IsAscii-nil, IsAscii-cons}
use Rattle.module_token.specs.Gap.{is_blank}
use Rattle.module_token.specs.Tokens.{TextToken, Tokenizes, ended, passed, taken}
use Rattle.round_trip.proofs.Lexemes.{Spells}
use Rattle.module_printer.specs.Printed.{spaced, line_of}
use Rattle.round_trip.proofs.spelling.Blanks.{blank_ascii, before_blank}
use Rattle.round_trip.proofs.spelling.Bytes.{lexeme_utf8}
use Rattle.round_trip.proofs.spelling.Words.{IsSpelt, Spelt}

-- the text is UTF-8, and has the tokens that these words spell, wherever it stands
abbrev pub Reading : List ℕ → List (List ℕ) → Type 0
Reading text words = IsUtf8 text × ((at : ℕ) → (ts : List TextToken) × Tokenizes at text ts None
    × Spells words ts)

pub nothing : Reading [] []
nothing = (IsUtf8-nil, λ at. ([], ended, tt))

module _ (b : ℕ) (text : List ℕ) (words : List (List ℕ)) (blank : is_blank b ≡ true) where
  blank_utf8 : IsUtf8 text → IsUtf8 (b ∷ text)
  blank_utf8 u = IsUtf8-append (b ∷ []) text (IsUtf8-from_ascii (b ∷ [])
      (IsAscii-cons b [] (blank_ascii b blank) IsAscii-nil)) u

  behind_blank : Reading text words → Reading (b ∷ text) words
  behind_blank reads = (
    blank_utf8 reads.0,
    λ at. let q = reads.1 (at + 1) in
        (q.0, passed (b ∷ []) text (inl (b, refl, blank)) q.1, q.2),
  )

  -- a word before a blank
  behind_word : (w : List ℕ) → IsSpelt w → Reading (b ∷ text) words → Reading (w ++ b ∷ text) (w ∷ words)
  behind_word w spelt reads =
      let lexeme = spelt.of in
      let text_of : (at : ℕ) → (ts : List TextToken) × Tokenizes at (w ++ b ∷ text) ts None
      × Spells (w ∷ words) ts =
      λ at. let q = reads.1 (at + length w) in (
        record { place = at; what = lexeme.0; text = w } ∷ q.0,
        taken w (b ∷ text) lexeme.0
            (before_blank w lexeme.0 b text blank lexeme.1) q.1,
        (refl, lexeme.1, q.2),
      ) in
      (IsUtf8-append w (b ∷ text) (lexeme_utf8 w lexeme.0 lexeme.1) reads.0, text_of)

module _ (rest : List ℕ) (others : List (List ℕ)) (reads : Reading rest others) where
  words : (w : List ℕ) (ws : List (List ℕ)) → IsSpelt w → AllByRecursion IsSpelt ws
      → Reading (w ++ (spaced ws ++ 10 ∷ rest)) (w ∷ (ws ++ others))
  words w [] h hs = behind_word 10 rest others refl w h (behind_blank 10 rest others refl reads)
  words w (v ∷ ws) h hs =
      let text = v ++ (spaced ws ++ 10 ∷ rest) in
      let next = behind_word 32 text (v ∷ (ws ++ others)) refl w h
      (behind_blank 32 text (v ∷ (ws ++ others)) refl (words v ws hs.0 hs.1)) in
      subst (λ l. Reading (w ++ 32 ∷ l) (w ∷ v ∷ (ws ++ others)))
      (sym (append_assoc v (spaced ws) (10 ∷ rest))) next

  pub line : (ws : List (List ℕ)) → Spelt ws → Reading (line_of ws ++ rest) (ws ++ others)
  line [] h = behind_blank 10 rest others refl reads
  line (w ∷ ws) h =
      let whole = append_assoc (w ++ spaced ws) (10 ∷ []) rest ∙ append_assoc w (spaced ws) (10 ∷ rest) in
      subst (λ l. Reading l (w ∷ (ws ++ others))) (sym whole) (words w ws h.all.0 h.all.1)

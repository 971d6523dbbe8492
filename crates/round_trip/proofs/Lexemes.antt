-- Words that are tokens before any blank, and the tokens that such words spell. This project's own.
use Rattle.std.specs.Prelude.{◌≡◌, ℕ, ◌≤◌, ◌^◌, true, List, [], ◌∷◌}
use Rattle.std.specs.Fmt.{decimal}
use Rattle.hh_base.specs.Literal.{quoted}
use Rattle.hh_base.specs.Text.{IsText}
use Rattle.module_tree.specs.SourceWords.{is_written_name}
use Rattle.module_token.specs.declared.token.TokenKind.{TokenKind}
use Rattle.module_token.specs.declared.token.TokenKind.TheVariants as token
use Rattle.hh_base.specs.Keyword.{keyword_text}
use Rattle.module_token.specs.Spelling.{punct_text}
use Rattle.module_token.specs.Tokens.{TextToken}

-- the bytes spell this token wherever a blank follows them
abbrev pub IsLexeme : List ℕ → TokenKind → Type 0
IsLexeme w token.Word = is_written_name w ≡ true
IsLexeme w (token.Keyword keyword) = w ≡ keyword_text keyword
IsLexeme w (token.Number value) = (w ≡ decimal value) × (value ≤ 2 ^ 63)
IsLexeme w token.Quoted = (value : List ℕ) × IsText value × (w ≡ quoted value)
IsLexeme w (token.Punct mark) = w ≡ punct_text mark

-- one token for each word, in order
abbrev pub Spells : List (List ℕ) → List TextToken → Type 0
Spells [] [] = Unit {0}
Spells [] (t ∷ ts) = ⊥
Spells (w ∷ ws) [] = ⊥
Spells (w ∷ ws) (t ∷ ts) = (t.text ≡ w) × IsLexeme w t.what × Spells ws ts

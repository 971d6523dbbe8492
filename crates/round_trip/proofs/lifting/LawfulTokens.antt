-- Tokens that words spell are lawful.
use Rattle.std.proofs.Common.{◌≡◌, ℕ, true, false, List, [], ◌∷◌, map, sym, subst}
use Rattle.hh_base.specs.Text.{IsText}
use Rattle.module_token.specs.Tokens.{TextToken}
use Rattle.module_token.specs.declared.token.TokenKind.{TokenKind}
use Rattle.module_token.specs.declared.token.TokenKind.TheVariants as token
use Rattle.module_token.proofs.Unquoted.{value_of_quoted}
use Rattle.expression_reader.specs.declared.terminal.Terminal.{Terminal}
use Rattle.expression_reader.specs.declared.terminal.Terminal.TheVariants as t
use Rattle.expression_reader.specs.Cursor.{spelled, value_of}
use Rattle.expression_reader.specs.Terminals.{terminal, is_name, word}
use Rattle.round_trip.proofs.Lexemes.{IsLexeme, Spells}
use Rattle.module_reader.specs.Reading.{to_grammar}
use Rattle.module_printer.specs.ExpressionTokens.{Lexemes}
use Rattle.expression_reader.specs.Rules.{is_quoted}
use Rattle.expression_reader.proofs.Lawful.{IsLawful, Lawful}
use Rattle.round_trip.proofs.lifting.TokenKinds.{written}
use Rattle.round_trip.proofs.lifting.OneToken.{word_is_name}

name_unquoted : (a : Terminal) → is_name a ≡ true → is_quoted a ≡ true → ⊥
name_unquoted t.Quoted h e = let no : ⊥ = cc in no
name_unquoted t.Word h e = let no : ⊥ = cc in no
name_unquoted _ h e = let no : ⊥ = cc in no

never : {X : Type 0} → false ≡ true → X
never e = absurd (let no : ⊥ = cc in no)

-- a token of these bytes is lawful
kind_lawful : (what : TokenKind) (place : ℕ) (w : List ℕ) → IsLexeme w what
    → IsLawful (record {
      place = place;
      kind = terminal what w;
      text = spelled what w;
      value = value_of what;
    })
kind_lawful token.Word place w h =
    let q = written w h in
    record {
      name = λ e. record { word = q.word; short = q.short };
      utf8 = λ e. q.utf8;
      no_keyword = λ e. q.plain;
      quoted = λ e. absurd (name_unquoted (word w) (word_is_name w) e);
    }
kind_lawful (token.Keyword keyword) place w h = record {
  name = λ e. never e;
  utf8 = λ e. never e;
  no_keyword = λ e. never e;
  quoted = λ e. never e;
}
kind_lawful (token.Number value) place w h = record {
  name = λ e. never e;
  utf8 = λ e. never e;
  no_keyword = λ e. never e;
  quoted = λ e. never e;
}
kind_lawful token.Quoted place w h = record {
  name = λ e. never e;
  utf8 = λ e. never e;
  no_keyword = λ e. never e;
  quoted = λ e. subst IsText (sym (value_of_quoted h.0 w h.1 h.2)) h.1;
}
kind_lawful (token.Punct mark) place w h = record {
  name = λ e. never e;
  utf8 = λ e. never e;
  no_keyword = λ e. never e;
  quoted = λ e. never e;
}

pub lawful : (ws : Lexemes) (ts : List TextToken) → Spells ws ts → Lawful (map to_grammar ts)
lawful [] [] h = tt
lawful [] (t ∷ ts) h = absurd h
lawful (w ∷ ws) [] h = absurd h
lawful (w ∷ ws) (t ∷ ts) h = (
  kind_lawful t.what t.place t.text
      (subst (λ z. IsLexeme z t.what) (sym h.0) h.1),
  lawful ws ts h.2,
)

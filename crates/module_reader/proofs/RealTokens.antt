-- The tokens of a text keep what the reader and the tree rely on: names are names, and quoted texts are text
-- values.
use Rattle.std.proofs.Common.{◌≡◌, ℕ, Bool, true, false, List, map, Option, refl, sym, subst}
use Rattle.std.proofs.lemmas.Simd.{map-map}
use Rattle.hh_base.specs.Text.{IsText}
use Rattle.module_token.specs.declared.fault.TokenFault.{TokenFault}
use Rattle.module_token.specs.declared.token.Token.{Token}
use Rattle.module_token.specs.declared.token.TokenKind.{TokenKind}
use Rattle.module_token.specs.declared.token.TokenKind.TheVariants as kind
use Rattle.module_token.specs.Token.{IsToken}
use Rattle.module_token.specs.Tokens as token
use Rattle.module_token.specs.Tokens.{Tokenizes, ended, refused, passed, taken}
use Rattle.module_token.specs.Place as place
use Rattle.module_token.proofs.Unquoted.{value_of_quoted}
use Rattle.expression_reader.specs.Terminals.{word}
use Rattle.expression_reader.specs.Rules.{is_quoted}
use Rattle.expression_reader.specs.Cursor as cursor
use Rattle.expression_reader.proofs.Lawful.{IsLawful, Lawful}
use Rattle.expression_reader.proofs.QuotedWords.{word_plain}
use Rattle.module_reader.specs.Reading.{to_grammar}

not_both : {X : Type 0} (b : Bool) → b ≡ false → b ≡ true → X
not_both b e h = absurd (let no : ⊥ = cc in no)

is_lawful : (at : ℕ) (text : List ℕ) (what : TokenKind) (rest : List ℕ) → IsToken text what rest
    → IsLawful (to_grammar (record { place = at; what = what; text = text }))
is_lawful at text kind.Word rest h = record {
  name = λ e. record { word = h.0.letters; short = h.1 };
  utf8 = λ e. h.0.utf8;
  no_keyword = λ e. h.2;
  quoted = λ e. not_both (is_quoted (word text))
      (word_plain text) e;
}
is_lawful at text (kind.Keyword k) rest h = record {
  name = λ e. not_both false refl e;
  utf8 = λ e. not_both false refl e;
  no_keyword = λ e. not_both false refl e;
  quoted = λ e. not_both false refl e;
}
is_lawful at text (kind.Number n) rest h = record {
  name = λ e. not_both false refl e;
  utf8 = λ e. not_both false refl e;
  no_keyword = λ e. not_both false refl e;
  quoted = λ e. not_both false refl e;
}
is_lawful at text kind.Quoted rest h = record {
  name = λ e. not_both false refl e;
  utf8 = λ e. not_both false refl e;
  no_keyword = λ e. not_both false refl e;
  quoted = λ e. subst IsText (sym (value_of_quoted h.0 text h.1 h.2)) h.1;
}
is_lawful at text (kind.Punct k) rest h = record {
  name = λ e. not_both false refl e;
  utf8 = λ e. not_both false refl e;
  no_keyword = λ e. not_both false refl e;
  quoted = λ e. not_both false refl e;
}

pub all_lawful : {at : ℕ} {text : List ℕ} {tokens : List token.TextToken} {end : Option TokenFault}
    → Tokenizes at text tokens end → Lawful (map to_grammar tokens)
all_lawful ended = tt
all_lawful (refused n kind h) = tt
all_lawful (passed gap rest g more) = all_lawful more
all_lawful {at = at} (taken text rest what h more) = (is_lawful at text what rest h, all_lawful more)

-- they are to the reader what they are to the grammar
pub same_tokens : (text : List ℕ) (ts : List Token) → map to_grammar (place.toks text ts)
    ≡ cursor.toks text ts
same_tokens text ts = map-map to_grammar (place.tok text) ts

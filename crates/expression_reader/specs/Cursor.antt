-- What the tokens that are left show: their kinds, texts and values. This project's own.
use Rattle.std.specs.Prelude.{◌≡◌, ℕ, true, List, map, slice_range, All, Option, Some, Result, Ok, Err}
use Rattle.hh_base.specs.Name.{IsName}
use Rattle.module_token.specs.Place.{InText}
use Rattle.module_token.specs.Value.{quoted_value}
use Rattle.grammar.specs.Tokens.{Tok}
use Rattle.grammar.specs.Fault.{Refusal}
use Rattle.grammar.specs.Parser.{Unread, Parsed, Refuses, next}
use Rattle.module_token.specs.declared.token.Token.{Token}
use Rattle.module_token.specs.declared.token.TokenKind.{TokenKind}
use Rattle.module_token.specs.declared.token.TokenKind.TheVariants as kind
use Rattle.expression_reader.specs.declared.terminal.Terminal.{Terminal}
use Rattle.expression_reader.specs.declared.tokens_left.TokensLeft.TheInside.{Inside}
use Rattle.expression_reader.specs.Terminals.{terminal, is_name}

abbrev pub value_of : TokenKind → ℕ
value_of (kind.Number n) = n
value_of _ = 0

-- the text of a token, of a quoted one what stands between its quotes
abbrev pub spelled : TokenKind → List ℕ → List ℕ
spelled kind.Quoted word = quoted_value word
spelled _ word = word

abbrev pub tok : List ℕ → Token → Tok Terminal
tok text t =
    let word = slice_range text t.start t.«end» in
    record {
      place = t.start;
      kind = terminal t.what word;
      text = spelled t.what word;
      value = value_of t.what;
    }

abbrev pub toks : List ℕ → List Token → List (Tok Terminal)
toks text ts = map (tok text) ts

abbrev pub left_of : Inside → List (Tok Terminal)
left_of s = toks s.text.now s.rest.now

-- a token of the text, which is a name where it may be one
pub record IsReadable (text : List ℕ) (t : Token) : Type 0 where
  pub in_text : InText text t
  pub name : is_name (terminal t.what (slice_range text t.start t.«end»)) ≡ true
      → IsName (slice_range text t.start t.«end»)

abbrev pub AllReadable : Inside → Type 0
AllReadable s = All (IsReadable s.text.now) s.rest.now

-- What the next token is read as, which is still to be taken, or why it is refused. `seen` tells what refusal
-- an error is, None for want of memory.
abbrev pub Shows : {A E : Type 0} → (E → Option Refusal) → Parsed Terminal A → Result A E → Unread Terminal
    → Type 0
Shows seen outcome (Ok a) i = outcome ≡ Ok (a, next i)
Shows seen outcome (Err e) i = (r : Refusal) → seen e ≡ Some r → Refuses outcome r i

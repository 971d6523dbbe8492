-- The tokens of a text stand one behind the other, so that each position has at most one, whose name it has.
use Rattle.std.proofs.Common.{◌≡◌, ℕ, suc, ◌+◌, ◌<◌, ◌≤◌, true, false, List, [], ◌∷◌, length, map, Option}
use Rattle.std.proofs.Common.{None, sym, ap, ◌∙◌, arith}
use Rattle.std.specs.Prelude.{cond, ◌==◌}
use Rattle.std.specs.Str.{chars}
use Rattle.std.proofs.lemmas.Str.{chars-nil}
use Rattle.std.proofs.lemmas.Bool.Decides.{nat_tests}
use Rattle.hh_base.specs.declared.value.Pos.{Pos}
use Rattle.hh_base.specs.Name.{is_word}
use Rattle.module_token.specs.declared.fault.TokenFault.{TokenFault}
use Rattle.module_token.specs.declared.punct.Punct.{Punct}
use Rattle.module_token.specs.declared.punct.Punct.TheVariants as mark
use Rattle.module_token.specs.declared.token.TokenKind.{TokenKind}
use Rattle.module_token.specs.declared.token.TokenKind.TheVariants as kind
use Rattle.module_token.specs.Spelling.{punct_text}
use Rattle.module_token.specs.Token.{IsToken}
use Rattle.module_token.specs.Tokens as token
use Rattle.module_token.specs.Tokens.{Tokenizes, ended, refused, passed, taken}
use Rattle.grammar.specs.Tokens.{Tok}
use Rattle.expression_reader.specs.declared.terminal.Terminal.{Terminal}
use Rattle.expression_reader.specs.Trees.{pos_at}
use Rattle.module_reader.specs.Reading.{to_grammar}
use Rattle.module_reader.proofs.named.Naming.{name_of, Named}

-- from a place on, one behind the other
abbrev StandFrom : ℕ → List (Tok Terminal) → Type 0
StandFrom at [] = Unit {0}
StandFrom at (t ∷ ts) = (at ≤ t.place) × StandFrom (suc t.place) ts

from_before : (at before : ℕ) (ts : List (Tok Terminal)) → before ≤ at → StandFrom at ts
    → StandFrom before ts
from_before at before [] le h = tt
from_before at before (t ∷ ts) le h = (omega (arith, le, h.0), h.1)

-- ---- a token has bytes

word_some : (text : List ℕ) → is_word (chars text) ≡ true → 0 < length text
word_some [] h = let none = sym (ap is_word chars-nil) ∙ h in absurd (let no : ⊥ = cc in no)
word_some (b ∷ bs) h = omega arith

mark_some : (m : Punct) → 0 < length (punct_text m)
mark_some mark.LeftParen = omega arith
mark_some _ = omega arith

some_bytes : (text : List ℕ) (what : TokenKind) (rest : List ℕ) → IsToken text what rest → 0 < length text
some_bytes text kind.Word rest h = word_some text h.0.letters
some_bytes text (kind.Keyword k) rest h = word_some text h.0.letters
some_bytes text (kind.Number n) rest h = h.0.number.some
some_bytes text kind.Quoted rest h = rw h.2 (omega arith)
some_bytes text (kind.Punct m) rest h = rw h.spelled (mark_some m)

tokens_stand : {at : ℕ} {text : List ℕ} {tokens : List token.TextToken} {end : Option TokenFault}
    → Tokenizes at text tokens end → StandFrom at (map to_grammar tokens)
tokens_stand ended = tt
tokens_stand (refused n kind h) = tt
tokens_stand {at = at} {tokens = tokens} (passed gap rest g more) =
    from_before (at + length gap) at (map to_grammar tokens) (omega arith) (tokens_stand more)
tokens_stand {at = at} (taken text rest what {tokens = others} h more) = (
  omega arith,
  from_before (at + length text) (suc at) (map to_grammar others)
      (omega (arith, some_bytes text what rest h)) (tokens_stand more),
)

-- ---- names

abbrev pub name_in : List (Tok Terminal) → Pos → Option (List ℕ)
name_in [] p = None
name_in (t ∷ ts) p = cond (t.place == p.0) (name_of t) (name_in ts p)

same : (n : ℕ) → (n == n) ≡ true
same n = grind (arith, nat_tests)

apart : (m n : ℕ) → m < n → (m == n) ≡ false
apart m n lt = grind (arith, nat_tests)

module _ (t : Tok Terminal) (ts : List (Tok Terminal)) where
  here : name_of t ≡ name_in (t ∷ ts) (pos_at t.place)
  here = sym (ap (λ b. cond b (name_of t) (name_in ts (pos_at t.place))) (same t.place))

  passed_by : (n : ℕ) → t.place < n → name_in ts (pos_at n) ≡ name_in (t ∷ ts) (pos_at n)
  passed_by n lt = sym (ap (λ b. cond b (name_of t) (name_in ts (pos_at n))) (apart t.place n lt))

  behind : (at : ℕ) (us : List (Tok Terminal)) → t.place < at → StandFrom at us
      → Named (name_in ts) us → Named (name_in (t ∷ ts)) us
  behind at [] lt h named = tt
  behind at (u ∷ us) lt h named =
      let further : t.place < u.place = omega (arith, lt, h.0) in
      (named.0 ∙ passed_by u.place further, behind (suc u.place) us (omega (arith, further)) h.1 named.1)

all_named : (at : ℕ) (ts : List (Tok Terminal)) → StandFrom at ts → Named (name_in ts) ts
all_named at [] h = tt
all_named at (t ∷ ts) h =
    (here t ts, behind t ts (suc t.place) ts (omega arith) h.1 (all_named (suc t.place) ts h.1))

pub tokens_named : {text : List ℕ} {tokens : List token.TextToken} → token.HasTokens text tokens
    → Named (name_in (map to_grammar tokens)) (map to_grammar tokens)
tokens_named {tokens = tokens} h = all_named 0 (map to_grammar tokens) (tokens_stand h)

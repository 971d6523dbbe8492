-- What the grammar takes for a quoted text is one.
use Rattle.std.proofs.Common.{◌≡◌, ℕ, Bool, true, false, cond, List, [], ◌∷◌, slice_range, slice_index_or, refl}
use Rattle.std.specs.Prelude.{codes}
use Rattle.std.specs.Str.{bytes_eq}
use Rattle.grammar.specs.Tokens.{kind_of, passes}
use Rattle.module_token.specs.declared.token.Token.{Token}
use Rattle.module_token.specs.declared.token.TokenKind.{TokenKind}
use Rattle.module_token.specs.declared.token.TokenKind.TheVariants as kind
use Rattle.expression_reader.specs.declared.terminal.Terminal.{Terminal}
use Rattle.expression_reader.specs.declared.terminal.Terminal.TheVariants as t
use Rattle.expression_reader.specs.Terminals.{word, terminal}
use Rattle.expression_reader.specs.Rules.{is_quoted}
use Rattle.expression_reader.specs.Cursor.{toks}

cond_plain : (b : Bool) (x y : Terminal) → is_quoted x ≡ false → is_quoted y ≡ false
    → is_quoted (cond b x y) ≡ false
cond_plain true x y hx hy = hx
cond_plain false x y hx hy = hy

-- no word is a quoted text
pub word_plain : (text : List ℕ) → is_quoted (word text) ≡ false
unfolding word
word_plain text =
    cond_plain (bytes_eq text (codes "now")) t.Now _ refl (cond_plain
    (bytes_eq text (codes "pre")) t.Pre _ refl (cond_plain
    (bytes_eq text (codes "nowval")) t.NowVal _ refl
    (cond_plain (bytes_eq text (codes "preval")) t.PreVal _ refl
    (cond_plain (bytes_eq text (codes "plus")) t.Plus _ refl
    (cond_plain (bytes_eq text (codes "min")) t.Min _ refl
    (cond_plain (bytes_eq text (codes "max")) t.Max _ refl (cond_plain
    (bytes_eq text (codes "and")) t.And _ refl (cond_plain
    (bytes_eq text (codes "or")) t.Or t.Word refl refl))))))))

only_quoted : (what : TokenKind) (text : List ℕ) → is_quoted (terminal what text) ≡ true → what ≡ kind.Quoted
only_quoted kind.Word text h = absurd (let plain : is_quoted (word text) ≡ false = word_plain text in
    let no : ⊥ = cc in no)
only_quoted (kind.Keyword k) text h = absurd (let no : ⊥ = cc in no)
only_quoted (kind.Number n) text h = absurd (let no : ⊥ = cc in no)
only_quoted kind.Quoted text h = refl
only_quoted (kind.Punct k) text h = absurd (let no : ⊥ = cc in no)

pub first_quoted : (text : List ℕ) (ts : List Token) (other : Token)
    → passes is_quoted (kind_of (toks text ts)) ≡ true → (slice_index_or ts 0 other).what ≡ kind.Quoted
first_quoted text [] other h = absurd (let no : ⊥ = cc in no)
first_quoted text (first ∷ ts) other h = only_quoted first.what (slice_range text first.start first.«end») h

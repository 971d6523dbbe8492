-- The terminal symbols of the grammar: what a token is to it, which may be names, which are brackets, and the
-- limits. This project's own.
use Rattle.std.specs.Prelude.{◌≡◌, ℕ, ◌+◌, Bool, true, false, not, List, [], ◌∷◌, Some, refl, codes}
use Rattle.std.specs.Prelude.{if◌then◌else◌}
use Rattle.std.specs.Str.{bytes_eq}
use Rattle.host_expr.specs.declared.expr.TheConstants.{EXPRESSION_LIMIT}
use Rattle.module_tree.specs.declared.limits.TheConstants.{OPEN_LIMIT}
use Rattle.hh_base.specs.declared.keyword.Keyword.{Keyword}
use Rattle.hh_base.specs.declared.keyword.Keyword.TheVariants as w
use Rattle.module_token.specs.declared.punct.Punct.{Punct}
use Rattle.module_token.specs.declared.punct.Punct.TheVariants as p
use Rattle.module_token.specs.declared.token.TokenKind.{TokenKind}
use Rattle.module_token.specs.declared.token.TokenKind.TheVariants as kind
use Rattle.grammar.specs.Tokens.{Alphabet, nth, is}
use Rattle.expression_reader.specs.declared.terminal.Terminal.{Terminal}
use Rattle.expression_reader.specs.declared.terminal.Terminal.TheVariants as t

-- a word, by what it means behind `.` and `combine`
unfoldable pub word : List ℕ → Terminal
word text =
    if bytes_eq text (codes "now") then t.Now
    else if bytes_eq text (codes "pre") then t.Pre
    else if bytes_eq text (codes "nowval") then t.NowVal
    else if bytes_eq text (codes "preval") then t.PreVal
    else if bytes_eq text (codes "plus") then t.Plus
    else if bytes_eq text (codes "min") then t.Min
    else if bytes_eq text (codes "max") then t.Max
    else if bytes_eq text (codes "and") then t.And
    else if bytes_eq text (codes "or") then t.Or
    else t.Word

-- what a token of this text is
abbrev pub terminal : TokenKind → List ℕ → Terminal
terminal kind.Word text = word text
terminal (kind.Keyword k) text = t.Keyword k
terminal (kind.Number n) text = t.Number
terminal kind.Quoted text = t.Quoted
terminal (kind.Punct k) text = t.Punct k

-- words that may be names
abbrev pub is_name : Terminal → Bool
is_name t.Word = true
is_name t.Now = true
is_name t.Pre = true
is_name t.NowVal = true
is_name t.PreVal = true
is_name t.Plus = true
is_name t.Min = true
is_name t.Max = true
is_name t.And = true
is_name t.Or = true
is_name _ = false

abbrev pub opens : Terminal → Bool
opens (t.Punct p.LeftParen) = true
opens (t.Punct p.LeftBrace) = true
opens _ = false

abbrev pub closes : Terminal → Bool
closes (t.Punct p.RightParen) = true
closes (t.Punct p.RightBrace) = true
closes _ = false

-- ---- terminals are told apart by numbers

abbrev pub keyword_number : Keyword → ℕ
keyword_number w.Module = 0
keyword_number w.In = 1
keyword_number w.Out = 2
keyword_number w.Inout = 3
keyword_number w.Body = 4
keyword_number w.Host = 5
keyword_number w.Signal = 6
keyword_number w.Nothing = 7
keyword_number w.Pause = 8
keyword_number w.Halt = 9
keyword_number w.Emit = 10
keyword_number w.Sustain = 11
keyword_number w.If = 12
keyword_number w.Else = 13
keyword_number w.Loop = 14
keyword_number w.Fork = 15
keyword_number w.Par = 16
keyword_number w.Await = 17
keyword_number w.Every = 18
keyword_number w.Do = 19
keyword_number w.Abort = 20
keyword_number w.WeakAbort = 21
keyword_number w.Suspend = 22
keyword_number w.Immediate = 23
keyword_number w.Count = 24
keyword_number w.Trap = 25
keyword_number w.Break = 26
keyword_number w.Run = 27
keyword_number w.Async = 28
keyword_number w.Call = 29
keyword_number w.Kill = 30
keyword_number w.Resume = 31
keyword_number w.Combine = 32
keyword_number w.Pure = 33
keyword_number w.Int = 34
keyword_number w.Bool = 35
keyword_number w.Text = 36
keyword_number w.True = 37
keyword_number w.False = 38

abbrev pub punct_number : Punct → ℕ
punct_number p.LeftParen = 0
punct_number p.RightParen = 1
punct_number p.LeftBrace = 2
punct_number p.RightBrace = 3
punct_number p.Comma = 4
punct_number p.Semicolon = 5
punct_number p.Colon = 6
punct_number p.Dot = 7
punct_number p.Equal = 8
punct_number p.Question = 9
punct_number p.Plus = 10
punct_number p.Minus = 11
punct_number p.Star = 12
punct_number p.Slash = 13
punct_number p.Percent = 14
punct_number p.Not = 15
punct_number p.Less = 16
punct_number p.Greater = 17
punct_number p.EqualEqual = 18
punct_number p.NotEqual = 19
punct_number p.LessEqual = 20
punct_number p.GreaterEqual = 21
punct_number p.And = 22
punct_number p.Or = 23

abbrev pub class : Terminal → ℕ
class t.Word = 0
class t.Now = 1
class t.Pre = 2
class t.NowVal = 3
class t.PreVal = 4
class t.Plus = 5
class t.Min = 6
class t.Max = 7
class t.And = 8
class t.Or = 9
class t.Number = 10
class t.Quoted = 11
class (t.Keyword k) = 12 + keyword_number k
class (t.Punct k) = 51 + punct_number k

abbrev pub kinds : List Terminal
kinds =
    t.Word ∷ t.Now ∷ t.Pre ∷ t.NowVal ∷ t.PreVal ∷ t.Plus
    ∷ t.Min ∷ t.Max ∷ t.And ∷ t.Or ∷ t.Number ∷ t.Quoted
    ∷ t.Keyword w.Module ∷ t.Keyword w.In ∷ t.Keyword w.Out ∷ t.Keyword w.Inout ∷ t.Keyword w.Body ∷ t.Keyword
    w.Host
    ∷ t.Keyword w.Signal ∷ t.Keyword w.Nothing ∷ t.Keyword w.Pause ∷ t.Keyword w.Halt ∷ t.Keyword w.Emit ∷
    t.Keyword w.Sustain
    ∷ t.Keyword w.If ∷ t.Keyword w.Else ∷ t.Keyword w.Loop ∷ t.Keyword w.Fork ∷ t.Keyword w.Par ∷ t.Keyword
    w.Await
    ∷ t.Keyword w.Every ∷ t.Keyword w.Do ∷ t.Keyword w.Abort ∷ t.Keyword w.WeakAbort ∷ t.Keyword w.Suspend ∷
    t.Keyword w.Immediate
    ∷ t.Keyword w.Count ∷ t.Keyword w.Trap ∷ t.Keyword w.Break ∷ t.Keyword w.Run ∷ t.Keyword w.Async ∷
    t.Keyword w.Call
    ∷ t.Keyword w.Kill ∷ t.Keyword w.Resume ∷ t.Keyword w.Combine ∷ t.Keyword w.Pure ∷ t.Keyword w.Int ∷
    t.Keyword w.Bool
    ∷ t.Keyword w.Text ∷ t.Keyword w.True ∷ t.Keyword w.False ∷ t.Punct p.LeftParen ∷ t.Punct p.RightParen ∷
    t.Punct p.LeftBrace
    ∷ t.Punct p.RightBrace ∷ t.Punct p.Comma ∷ t.Punct p.Semicolon ∷ t.Punct p.Colon ∷ t.Punct p.Dot ∷ t.Punct
    p.Equal
    ∷ t.Punct p.Question ∷ t.Punct p.Plus ∷ t.Punct p.Minus ∷ t.Punct p.Star ∷ t.Punct p.Slash ∷ t.Punct
    p.Percent
    ∷ t.Punct p.Not ∷ t.Punct p.Less ∷ t.Punct p.Greater ∷ t.Punct p.EqualEqual ∷ t.Punct p.NotEqual ∷ t.Punct
    p.LessEqual
    ∷ t.Punct p.GreaterEqual ∷ t.Punct p.And ∷ t.Punct p.Or ∷ []

pub is_listed : (a : Terminal) → nth kinds (class a) ≡ Some a
is_listed (t.Keyword w.Module) = refl
is_listed (t.Keyword _) = refl
is_listed (t.Punct p.LeftParen) = refl
is_listed (t.Punct _) = refl
is_listed _ = refl

-- the terminals with their limits
abbrev pub symbols : Alphabet Terminal
symbols = record {
  class = class;
  kinds = kinds;
  is_listed = is_listed;
  opens = opens;
  closes = closes;
  most_open = OPEN_LIMIT;
  most_counted = EXPRESSION_LIMIT;
}

abbrev pub is_keyword : Keyword → Terminal → Bool
is_keyword k = is symbols (t.Keyword k)

abbrev pub is_punct : Punct → Terminal → Bool
is_punct k = is symbols (t.Punct k)

-- what closes no list in round brackets, and no block
abbrev pub is_in_round : Terminal → Bool
is_in_round a = not (is_punct p.RightParen a)

abbrev pub is_in_curly : Terminal → Bool
is_in_curly a = not (is_punct p.RightBrace a)

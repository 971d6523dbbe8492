-- The keywords of the language, and how each is written. This project's own, after HipHop.js.
use Rattle.std.specs.Prelude.{ℕ, Bool, List, [], ◌∷◌, Option, Some, None, is_some, codes, if◌then◌else◌}
use Rattle.std.specs.Str.{bytes_eq}
use Rattle.hh_base.specs.declared.keyword.Keyword.{Keyword}
use Rattle.hh_base.specs.declared.keyword.Keyword.TheVariants as k
use Rattle.hh_base.specs.declared.keyword.TheConstants.{KEYWORDS}

abbrev pub keyword_text : Keyword → List ℕ
keyword_text k.Module = codes "module"
keyword_text k.In = codes "in"
keyword_text k.Out = codes "out"
keyword_text k.Inout = codes "inout"
keyword_text k.Body = codes "body"
keyword_text k.Host = codes "host"
keyword_text k.Signal = codes "signal"
keyword_text k.Nothing = codes "nothing"
keyword_text k.Pause = codes "pause"
keyword_text k.Halt = codes "halt"
keyword_text k.Emit = codes "emit"
keyword_text k.Sustain = codes "sustain"
keyword_text k.If = codes "if"
keyword_text k.Else = codes "else"
keyword_text k.Loop = codes "loop"
keyword_text k.Fork = codes "fork"
keyword_text k.Par = codes "par"
keyword_text k.Await = codes "await"
keyword_text k.Every = codes "every"
keyword_text k.Do = codes "do"
keyword_text k.Abort = codes "abort"
keyword_text k.WeakAbort = codes "weakabort"
keyword_text k.Suspend = codes "suspend"
keyword_text k.Immediate = codes "immediate"
keyword_text k.Count = codes "count"
keyword_text k.Trap = codes "trap"
keyword_text k.Break = codes "break"
keyword_text k.Run = codes "run"
keyword_text k.Async = codes "async"
keyword_text k.Call = codes "call"
keyword_text k.Kill = codes "kill"
keyword_text k.Resume = codes "resume"
keyword_text k.Combine = codes "combine"
keyword_text k.Pure = codes "pure"
keyword_text k.Int = codes "int"
keyword_text k.Bool = codes "bool"
keyword_text k.Text = codes "text"
keyword_text k.True = codes "true"
keyword_text k.False = codes "false"

-- the first of these keywords that is written so
abbrev pub keyword_among : List Keyword → List ℕ → Option Keyword
keyword_among [] w = None
keyword_among (k ∷ ks) w = if bytes_eq w (keyword_text k) then Some k else keyword_among ks w

-- the keyword that the bytes spell
unfoldable pub keyword_of : List ℕ → Option Keyword
keyword_of w = keyword_among KEYWORDS w

-- whether the bytes spell a keyword
unfoldable pub is_keyword : List ℕ → Bool
is_keyword w = is_some (keyword_among KEYWORDS w)

-- The reading of lines of bodies, tests, emissions and async sites. Bridges to the reader, and no part of a
-- promise. (This project's own.)
use Rattle.std.specs.Prelude.{ℕ, Bool, true, false, if◌then◌else◌, Option, Some, None, List, codes}
use Rattle.std.specs.Str.{bytes_eq}
use Rattle.hh_base.specs.declared.value.Pos.{Pos}
use Rattle.host_expr.specs.declared.expr.Expr.{Expr}
use Rattle.host_expr.specs.declared.expr.TheConstants.{EXPRESSION_LIMIT}
use Rattle.hh_term.specs.declared.program.BodyDecl.{BodyDecl}
use Rattle.net_list.specs.declared.record.Sent.{Sent}
use Rattle.net_list.specs.declared.record.Sent.TheVariants as sent
use Rattle.net_list.specs.declared.record.NetTest.{NetTest}
use Rattle.net_list.specs.declared.record.NetEmit.{NetEmit}
use Rattle.net_list.specs.declared.record.NetExec.{NetExec}
use Rattle.net_line.specs.Decoding.{number_of, kind_of}
use Rattle.net_line.specs.ExpressionReading.{expression}
use Rattle.net_line.specs.GateReading.{number, first_number}
use Rattle.net_line.specs.Literals.{is_dash, is_name_part, handler_of}
use Rattle.net_line.specs.Reading.{Reader, ◌>>=◌, pure, part_as, word_as, counted, line_end}
use Rattle.record_line.specs.declared.sent.SentWord.{SentWord}
use Rattle.record_line.specs.declared.sent.SentWord.TheVariants as word
use Rattle.record_line.specs.declared.body.BodyLine.{BodyLine}

-- a number that only version 2 says
abbrev pub later_number : Bool → Reader ℕ
later_number true = number
later_number false = pure 0

-- an expression with at most so many leaves and operators
abbrev pub sized_expression : ℕ → Reader (Expr ℕ)
sized_expression size = expression size size >>= λ e. pure e.0

abbrev pub line_expression : Reader (Expr ℕ)
line_expression = sized_expression EXPRESSION_LIMIT

-- ---- bodies

abbrev pub has_expression : List ℕ → Option Bool
has_expression w =
    if bytes_eq w (codes "body") then Some true else if bytes_eq w (codes "host") then Some false else None

abbrev pub body_name_of : List ℕ → Option (List ℕ)
body_name_of w = if is_name_part w then Some w else None

abbrev pub expression_if : Bool → Reader (Option (Expr ℕ))
expression_if true = line_expression >>= λ e. pure (Some e)
expression_if false = pure None

-- the body of a line, with this name
abbrev pub named_body : List ℕ → BodyLine → BodyDecl
named_body name b =
    record { name = name; params = b.params; answer = b.answer; expr = b.expr; pos = b.pos }

abbrev pub at : ℕ → Pos
at n = record { 0 = n }

abbrev pub body_row : Reader BodyDecl
body_row =
    word_as has_expression >>= λ h. part_as body_name_of >>= λ n. part_as kind_of >>= λ k.
    counted number (part_as kind_of) >>= λ ks. expression_if h >>= λ e. number >>= λ p. line_end >>= λ u.
    pure (record { name = n; params = ks; answer = k; expr = e; pos = at p })

-- ---- tests

abbrev pub test_row : Bool → Reader NetTest
test_row later =
    first_number >>= λ c. line_expression >>= λ e. later_number later >>= λ p. line_end >>= λ u.
    pure (record { control = c; expr = e; pos = at p })

-- ---- emissions

abbrev pub sent_word : List ℕ → Option SentWord
sent_word w =
    if bytes_eq w (codes "-") then Some word.Nothing
    else if bytes_eq w (codes "=") then Some word.Computed
    else if bytes_eq w (codes "ans") then Some word.Answer
    else None

abbrev pub sent_behind : SentWord → Reader Sent
sent_behind word.Nothing = pure sent.Nothing
sent_behind word.Computed = line_expression >>= λ e. pure (sent.Computed e)
sent_behind word.Answer = number >>= λ x. pure (sent.Answer x)

abbrev pub sent_row : Reader Sent
sent_row = part_as sent_word >>= λ w. sent_behind w

abbrev pub emit_row : Bool → Reader NetEmit
emit_row later =
    first_number >>= λ c. number >>= λ s. sent_row >>= λ v. later_number later >>= λ p. line_end >>= λ u.
    pure (record { control = c; signal = s; sent = v; pos = at p })

-- ---- async sites

abbrev pub some_number : Option ℕ → Option (Option ℕ)
some_number (Some n) = Some (Some n)
some_number None = None

abbrev pub number_or_none : List ℕ → Option (Option ℕ)
number_or_none w = if is_dash w then Some None else some_number (number_of w)

abbrev pub expressions : Reader (List (Expr ℕ))
expressions = counted number line_expression

abbrev pub exec_of : ℕ → Option ℕ → ℕ → ℕ → ℕ → ℕ → ℕ → ℕ → ℕ → Option (List ℕ) → Option (List ℕ)
    → Option (List ℕ) → List (Expr ℕ) → ℕ → NetExec
exec_of body signal go reg end used held resumed next kill suspend resume args pos =
    record {
      site = record {
        body = body;
        signal = signal;
        args = args;
        kill = kill;
        suspend = suspend;
        resume = resume;
      };
      go = go;
      reg = reg;
      end = end;
      used = used;
      held = held;
      resumed = resumed;
      next = next;
      pos = at pos;
    }

abbrev pub exec_row : Bool → Reader NetExec
exec_row later =
    first_number >>= λ body. part_as number_or_none >>= λ signal. number >>= λ go. number >>= λ reg.
    number >>= λ end. later_number later >>= λ used. number >>= λ held. number >>= λ resumed.
    number >>= λ next. part_as handler_of >>= λ kill. part_as handler_of >>= λ suspend.
    part_as handler_of >>= λ resume. expressions >>= λ args. later_number later >>= λ p. line_end >>= λ u.
    pure (exec_of body signal go reg end used held resumed next kill suspend resume args p)

-- The lines of a net text, in version 1 and in version 2, which says more. (This project's own.)
use Rattle.std.specs.Prelude.{ℕ, ◌==◌, Bool, true, false, Option, Some, None, List, [], ◌++◌, codes, decimal}
use Rattle.std.specs.Prelude.{if◌then◌else◌}
use Rattle.std.specs.List.{flat_map}
use Rattle.hh_base.specs.declared.value.Pos.{Pos}
use Rattle.host_expr.specs.declared.expr.Expr.{Expr}
use Rattle.host_expr.specs.Expression.{expression_of}
use Rattle.hh_term.specs.declared.program.BodyDecl.{BodyDecl}
use Rattle.net_list.specs.declared.gate.NetGate.{NetGate}
use Rattle.net_list.specs.declared.gate.NetGate.TheVariants as gate
use Rattle.net_list.specs.declared.record.Sent.{Sent}
use Rattle.net_list.specs.declared.record.Sent.TheVariants as sent
use Rattle.net_list.specs.declared.record.NetSignal.{NetSignal}
use Rattle.net_list.specs.declared.record.NetTest.{NetTest}
use Rattle.net_list.specs.declared.record.NetEmit.{NetEmit}
use Rattle.net_list.specs.declared.record.NetExec.{NetExec}
use Rattle.net_text.specs.Parts.{line_end, spaced, number, nothing, dir_word, kind_part, combine_or_nothing}
use Rattle.net_text.specs.Parts.{name_or_nothing, first_or_nothing, text_or_nothing, number_or_nothing, counted}
use Rattle.net_text.specs.ExpressionText.{expression_text}

-- an expression of a record
abbrev pub written : Expr ℕ → List ℕ
written e = expression_text (expression_of e)

-- what only version 2 says
abbrev pub from_version_2 : ℕ → List ℕ → List ℕ
from_version_2 version part = if version == 1 then [] else part

-- in|out|inout|local NAME KIND FIRST COMBINE POS STATUS PRE SEL
abbrev pub signal_line : NetSignal → List ℕ
signal_line s =
    dir_word s.decl.dir ++ spaced (name_or_nothing s.decl.name) ++ kind_part s.decl.kind
    ++ spaced (first_or_nothing s.decl.first) ++ spaced (combine_or_nothing s.decl.combine)
    ++ number s.decl.pos.0 ++ number s.status ++ number s.pre ++ number s.sel ++ line_end

abbrev pub body_word : Option (Expr ℕ) → List ℕ
body_word (Some e) = codes "body"
body_word None = codes "host"

abbrev pub written_if_there : Option (Expr ℕ) → List ℕ
written_if_there (Some e) = written e
written_if_there None = []

-- body NAME KIND n KIND1 .. KINDn EXPR POS, or host NAME KIND n KIND1 .. KINDn POS
abbrev pub body_line : BodyDecl → List ℕ
body_line b =
    body_word b.expr ++ spaced b.name ++ kind_part b.answer ++ counted kind_part b.params
    ++ written_if_there b.expr ++ number b.pos.0 ++ line_end

abbrev pub state_digit : Bool → List ℕ
state_digit true = codes "1"
state_digit false = codes "0"

-- 0|1 NEXT
abbrev pub register_line : Bool × ℕ → List ℕ
register_line r = state_digit r.0 ++ number r.1 ++ line_end

abbrev pub gate_parts : NetGate → List ℕ
gate_parts gate.Zero = codes "0"
gate_parts gate.One = codes "1"
gate_parts (gate.Not g) = codes "not" ++ number g
gate_parts (gate.And gs) = codes "and" ++ flat_map number gs
gate_parts (gate.Or gs) = codes "or" ++ flat_map number gs
gate_parts (gate.Reg r) = codes "reg" ++ number r
gate_parts (gate.Test t) = codes "test" ++ number t
gate_parts (gate.Input s) = codes "in" ++ number s
gate_parts (gate.Answer x) = codes "ans" ++ number x
gate_parts (gate.Part x) = codes "part" ++ number x

-- 0 | 1 | not G | and G .. | or G .. | reg R | test T | in S | ans X | part X
abbrev pub gate_line : NetGate → List ℕ
gate_line g = gate_parts g ++ line_end

-- the position of a record
abbrev pub place : ℕ → Pos → List ℕ
place version p = from_version_2 version (number p.0)

-- a line whose first part is a number
abbrev pub led_by : ℕ → List ℕ → List ℕ
led_by n rest = decimal n ++ rest ++ line_end

-- CONTROL EXPR, and POS
abbrev pub test_line : ℕ → NetTest → List ℕ
test_line version t = led_by t.control (written t.expr ++ place version t.pos)

abbrev pub sent_parts : Sent → List ℕ
sent_parts sent.Nothing = spaced nothing
sent_parts (sent.Computed e) = codes " =" ++ written e
sent_parts (sent.Answer x) = codes " ans" ++ number x

-- CONTROL SIGNAL -, or CONTROL SIGNAL = EXPR, or CONTROL SIGNAL ans X, and POS
abbrev pub emit_line : ℕ → NetEmit → List ℕ
emit_line version e = led_by e.control (number e.signal ++ sent_parts e.sent ++ place version e.pos)

-- GO REG END USED HELD RESUMED NEXT
abbrev pub exec_gates : ℕ → NetExec → List ℕ
exec_gates version e =
    number e.go ++ number e.reg ++ number e.end ++ from_version_2 version (number e.used) ++ number e.held
    ++ number e.resumed ++ number e.next

-- KILL SUSPEND RESUME
abbrev pub handlers : NetExec → List ℕ
handlers e =
    spaced (text_or_nothing e.site.kill) ++ spaced (text_or_nothing e.site.suspend)
    ++ spaced (text_or_nothing e.site.resume)

-- SIGNAL GO REG END USED HELD RESUMED NEXT KILL SUSPEND RESUME n EXPR1 .. EXPRn, and POS
abbrev pub exec_parts : ℕ → NetExec → List ℕ
exec_parts version e =
    spaced (number_or_nothing e.site.signal) ++ exec_gates version e ++ handlers e
    ++ counted written e.site.args ++ place version e.pos

-- BODY, and these
abbrev pub exec_line : ℕ → NetExec → List ℕ
exec_line version e = led_by e.site.body (exec_parts version e)

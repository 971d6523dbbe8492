-- Each place that a line of nets names is there. (This project's own.)
use Rattle.std.specs.Prelude.{◌≡◌, ℕ, ◌&&◌, Bool, true, false, Option, Some, None, List, length}
use Rattle.std.specs.Prelude.{slice_get, nat_lt}
use Rattle.std.specs.List.{list_all}
use Rattle.hh_base.specs.declared.value.Dir.{Dir}
use Rattle.hh_base.specs.declared.value.Dir.TheVariants as dir
use Rattle.host_expr.specs.declared.expr.Expr.{Expr}
use Rattle.host_expr.specs.Expression.{Expression, Now, Pre, NowVal, PreVal, Arg, Not, Neg, Arith, Compare}
use Rattle.host_expr.specs.Expression.{And, Or, Choose, expression_of}
use Rattle.hh_term.specs.declared.program.BodyDecl.{BodyDecl}
use Rattle.net_list.specs.declared.gate.NetGate.{NetGate}
use Rattle.net_list.specs.declared.gate.NetGate.TheVariants as gate
use Rattle.net_list.specs.declared.record.Sent.{Sent}
use Rattle.net_list.specs.declared.record.Sent.TheVariants as sent
use Rattle.net_list.specs.declared.record.NetSignal.{NetSignal}
use Rattle.net_list.specs.declared.record.NetTest.{NetTest}
use Rattle.net_list.specs.declared.record.NetEmit.{NetEmit}
use Rattle.net_list.specs.declared.record.NetExec.{NetExec}
use Rattle.net_list.specs.declared.record.NetRecords.{NetRecords}

-- a place in a list
abbrev pub is_in : {X : Type 0} → List X → ℕ → Bool
is_in xs n = nat_lt n (length xs)

-- each signal that it reads is one of the first `signals`, and each parameter one of the first `params`
abbrev pub reads_within : ℕ → ℕ → Expression → Bool
reads_within signals params (Now s) = nat_lt s signals
reads_within signals params (Pre s) = nat_lt s signals
reads_within signals params (NowVal s) = nat_lt s signals
reads_within signals params (PreVal s) = nat_lt s signals
reads_within signals params (Arg n) = nat_lt n params
reads_within signals params (Not a) = reads_within signals params a
reads_within signals params (Neg p a) = reads_within signals params a
reads_within signals params (Arith p op a b) = reads_within signals params a && reads_within signals params b
reads_within signals params (Compare r a b) = reads_within signals params a && reads_within signals params b
reads_within signals params (And a b) = reads_within signals params a && reads_within signals params b
reads_within signals params (Or a b) = reads_within signals params a && reads_within signals params b
reads_within signals params (Choose a b c) =
    reads_within signals params a && reads_within signals params b && reads_within signals params c
reads_within signals params e = true

-- the expression of a body reads its parameters and no signals, and any other one signals and no parameters
abbrev pub body_reads_within : ℕ → Option (Expr ℕ) → Bool
body_reads_within params (Some e) = reads_within 0 params (expression_of e)
body_reads_within params None = true

abbrev pub line_reads : NetRecords → Expr ℕ → Bool
line_reads N e = reads_within (length N.signals) 0 (expression_of e)

abbrev pub signal_in_range : NetRecords → NetSignal → Bool
signal_in_range N s = is_in N.gates s.status && is_in N.gates s.pre && is_in N.gates s.sel

abbrev pub body_in_range : BodyDecl → Bool
body_in_range b = body_reads_within (length b.params) b.expr

abbrev pub register_in_range : NetRecords → Bool × ℕ → Bool
register_in_range N r = is_in N.gates r.1

abbrev pub takes_input : Dir → Bool
takes_input dir.Input = true
takes_input dir.Both = true
takes_input _ = false

-- an input is a signal that the environment gives
abbrev pub is_input : NetRecords → ℕ → Bool
is_input N s = (elim (slice_get N.signals s) [ Some d ↦ takes_input d.decl.dir | None ↦ false ])

abbrev pub gate_in_range : NetRecords → NetGate → Bool
gate_in_range N gate.Zero = true
gate_in_range N gate.One = true
gate_in_range N (gate.Not g) = is_in N.gates g
gate_in_range N (gate.And gs) = list_all (is_in N.gates) gs
gate_in_range N (gate.Or gs) = list_all (is_in N.gates) gs
gate_in_range N (gate.Reg r) = is_in N.registers r
gate_in_range N (gate.Test t) = is_in N.tests t
gate_in_range N (gate.Input s) = is_input N s
gate_in_range N (gate.Answer x) = is_in N.execs x
gate_in_range N (gate.Part x) = is_in N.execs x

abbrev pub test_in_range : NetRecords → NetTest → Bool
test_in_range N t = is_in N.gates t.control && line_reads N t.expr

abbrev pub sent_in_range : NetRecords → Sent → Bool
sent_in_range N sent.Nothing = true
sent_in_range N (sent.Computed e) = line_reads N e
sent_in_range N (sent.Answer x) = is_in N.execs x

abbrev pub emit_in_range : NetRecords → NetEmit → Bool
emit_in_range N e = is_in N.gates e.control && is_in N.signals e.signal && sent_in_range N e.sent

abbrev pub target_in_range : NetRecords → Option ℕ → Bool
target_in_range N (Some s) = is_in N.signals s
target_in_range N None = true

abbrev pub exec_gates_in_range : NetRecords → NetExec → Bool
exec_gates_in_range N e =
    is_in N.gates e.go && is_in N.gates e.reg && is_in N.gates e.end && is_in N.gates e.used
    && is_in N.gates e.held && is_in N.gates e.resumed && is_in N.gates e.next

abbrev pub exec_in_range : NetRecords → NetExec → Bool
exec_in_range N e =
    is_in N.bodies e.site.body && target_in_range N e.site.signal && exec_gates_in_range N e
    && list_all (line_reads N) e.site.args

pub record AllInRange (N : NetRecords) : Type 0 where
  pub signals : list_all (signal_in_range N) N.signals ≡ true
  pub bodies : list_all body_in_range N.bodies ≡ true
  pub registers : list_all (register_in_range N) N.registers ≡ true
  pub gates : list_all (gate_in_range N) N.gates ≡ true
  pub tests : list_all (test_in_range N) N.tests ≡ true
  pub emits : list_all (emit_in_range N) N.emits ≡ true
  pub execs : list_all (exec_in_range N) N.execs ≡ true
  pub done : is_in N.gates N.done ≡ true

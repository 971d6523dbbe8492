-- What the values of the code stand for: terms for statements, marks for selections, declarations with a
-- term for kernel programs.
use Rattle.std.specs.Prelude.{ℕ, List, map}
use Rattle.host_expr.specs.Expression.{expression_of, optional_expression}
use Rattle.hh_term.specs.declared.program.SignalDecl.{SignalDecl}
use Rattle.hh_term.specs.declared.program.BodyDecl.{BodyDecl}
use Rattle.hh_term.specs.declared.program.Site.{Site}
use Rattle.hh_term.specs.declared.term.Term.{Term}
use Rattle.hh_term.specs.declared.term.TermNode.{TermNode}
use Rattle.hh_term.specs.declared.term.TermNode.TheVariants as term
use Rattle.hh_term.specs.declared.mark.Mark.{Mark}
use Rattle.hh_term.specs.declared.mark.Mark.TheVariants as mark
use Rattle.hh_term.specs.declared.mark.Control.{Control as AControl}
use Rattle.hh_term.specs.declared.mark.Control.TheVariants as control
use Rattle.hh_term.specs.declared.mark.Marked.{Marked}
use Rattle.hh_term.specs.Statement.{Statement, Nothing, Pause, Emit, If, Suspend, Seq, Par, Loop, Trap}
use Rattle.hh_term.specs.Statement.{Exit, Local, Async}
use Rattle.hh_term.specs.Kernel.{Kernel, Body, AsyncSite}
use Rattle.hh_term.specs.Selection.{Selection, AtPause, AtAsync, First, Second, Both, Inside, Scope}
use Rattle.hh_term.specs.Selection.{Control, Fresh, At, Ended}

abbrev pub node_statement : TermNode → Statement
node_statement term.Nothing = Nothing
node_statement term.Pause = Pause
node_statement (term.Emit s e) = Emit s (optional_expression e)
node_statement (term.If' e _ _ p _ _ q) = If (expression_of e) (node_statement p) (node_statement q)
node_statement (term.Suspend' e _ _ p) = Suspend (expression_of e) (node_statement p)
node_statement (term.Seq' _ _ p _ _ q) = Seq (node_statement p) (node_statement q)
node_statement (term.Par' _ _ p _ _ q) = Par (node_statement p) (node_statement q)
node_statement (term.Loop' _ _ p) = Loop (node_statement p)
node_statement (term.Trap' _ _ p) = Trap (node_statement p)
node_statement (term.Exit k) = Exit k
node_statement (term.Local' s _ _ p) = Local s (node_statement p)
node_statement (term.Async n) = Async n

abbrev pub statement_of : Term → Statement
statement_of t = node_statement t.node

abbrev pub selection_of : Mark → Selection
selection_of mark.Pause = AtPause
selection_of (mark.Async a) = AtAsync a.id a.args a.queue a.suspended
selection_of (mark.First' _ m) = First (selection_of m)
selection_of (mark.Second' _ m) = Second (selection_of m)
selection_of (mark.Both' _ m _ n) = Both (selection_of m) (selection_of n)
selection_of (mark.Inside' _ m) = Inside (selection_of m)
selection_of (mark.Local' _ m b v) = Scope (selection_of m) b v

abbrev pub control_of : AControl → Control
control_of control.Fresh = Fresh
control_of (control.At m) = At (selection_of m)
control_of control.Ended = Ended

abbrev pub control_in : Marked → Control
control_in m = control_of m.control

abbrev pub body_of : BodyDecl → Body
body_of b =
    record {
      name = b.name;
      params = b.params;
      answer = b.answer;
      expr = optional_expression b.expr;
      pos = b.pos;
    }

abbrev pub site_of : Site → AsyncSite
site_of a =
    record {
      body = a.body;
      signal = a.signal;
      args = map expression_of a.args;
      kill = a.kill;
      suspend = a.suspend;
      resume = a.resume;
    }

abbrev pub kernel_from : List SignalDecl → ℕ → List BodyDecl → List Site → Term → Kernel
kernel_from signals interface bodies sites term =
    record {
      signals = signals;
      interface = interface;
      bodies = map body_of bodies;
      sites = map site_of sites;
      statement = statement_of term;
    }

use Rattle.std.proofs.Common.{◌≡◌, sym, ◌∙◌, ℕ, List, Some, None, Result, Ok, Err}
use Rattle.std.specs.Prelude.{IfOk, OnErr}
use Rattle.hh_base.specs.declared.value.Kind.{Kind}
use Rattle.host_expr.specs.declared.check.TypeFault.{TypeFault}
use Rattle.host_expr.specs.declared.expr.Expr.{Expr}
use Rattle.host_expr.specs.Expression.{expression_of}
use Rattle.host_expr.specs.Kinds.{kind_of_expression}
use Rattle.host_expr.specs.Misfit.{judged_expr}
use Rattle.host_expr.specs.Verdicts.{IsVerdict}
use Rattle.host_expr.proofs.Misfits.{judged_by_kind}
use Rattle.host_expr.proofs.check.check.Goals as goal

kind_of : (signals args : List Kind) (e : Expr ℕ) (r : Result Kind TypeFault)
    → IsVerdict (judged_expr signals args e) r
    → IfOk r (λ k. kind_of_expression signals args (expression_of e) ≡ Some k)
kind_of signals args e (Ok k) v = sym (judged_by_kind signals args e) ∙ v.kind
kind_of signals args e (Err f) v = tt

no_kind : (signals args : List Kind) (e : Expr ℕ) (r : Result Kind TypeFault)
    → IsVerdict (judged_expr signals args e) r
    → OnErr r (kind_of_expression signals args (expression_of e) ≡ None)
no_kind signals args e (Ok k) v = tt
no_kind signals args e (Err f) v = sym (judged_by_kind signals args e) ∙ v.kind

pub returns-clause-kind : goal.returns-clause-kind
returns-clause-kind c =
    kind_of c.args.scope.now.signals.items c.args.scope.now.args.items
    c.args.expr.now c.judge.result c.judge.ensures

pub returns-clause-fault : goal.returns-clause-fault
returns-clause-fault c =
    no_kind c.args.scope.now.signals.items c.args.scope.now.args.items
    c.args.expr.now c.judge.result c.judge.ensures

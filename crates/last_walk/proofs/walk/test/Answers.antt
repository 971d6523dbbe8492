use Rattle.std.proofs.Common.{ap, ◌∙◌, subst}
use Rattle.host_expr.specs.Environment.{env_of}
use Rattle.host_expr.specs.Evaluation.{eval_of}
use Rattle.host_expr.specs.Expression.{expression_of}
use Rattle.last_walk.specs.LastWalk.{Tested}
use Rattle.last_walk.proofs.walk.test.Goals as goal

pub returns-clause-tested : goal.returns-clause-tested
returns-clause-tested c T =
    let e = expression_of c.args.condition.now in
    let E = env_of c.args.pass.now.cells.signals.items in
    subst (λ x. Tested T x c.verdict.result c.args.pass.now c.note_fault.new.self)
    (c.in_ok-cell.ensures ∙ ap (eval_of e E) c.requires)
    (record { is = c.verdict.ensures; noted = c.note_fault.ensures.noted T })

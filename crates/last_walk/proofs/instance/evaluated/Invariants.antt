use Rattle.std.proofs.Common.{◌≡◌, [], map, take}
use Rattle.host_expr.specs.Environment.{env_of}
use Rattle.host_expr.specs.Evaluation.{eval_of}
use Rattle.host_expr.specs.Expression.{expression_of}
use Rattle.last_walk.proofs.instance.evaluated.Given as goal

abbrev pub invariant-loop-expression : goal.invariant-loop-expression
invariant-loop-expression l = l.values.items ≡ map
    (λ e. eval_of (expression_of e) (env_of l.cells.signals.items) []) (take l.expression-index l.expressions)

use Rattle.std.proofs.Common.{◌≡◌, ℕ, take}
use Rattle.std.specs.Prelude.{sum_by}
use Rattle.host_expr.specs.Measures.{size_of_expression}
use Rattle.host_expr.specs.Expression.{expression_of}
use Rattle.module_tree.specs.declared.source.ExprAt.{ExprAt}
use Rattle.kernel_expand.specs.Measures.{counted}
use Rattle.kernel_expand.proofs.weights.of_arguments.Given as goal

abbrev pub invariant-loop-argument : goal.invariant-loop-argument
invariant-loop-argument l = l.weight ≡ counted (sum_by
    (λ (x : ExprAt ℕ). size_of_expression (expression_of x.expr)) (take l.argument-index l.arguments))

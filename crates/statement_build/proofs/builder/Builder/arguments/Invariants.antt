use Rattle.std.proofs.Common.{◌≡◌, ℕ, map, take}
use Rattle.module_tree.specs.declared.source.ExprAt.{ExprAt}
use Rattle.statement_build.specs.Building.{numbered_of}
use Rattle.kernel_expand.specs.Numbering.{in_numbers}
use Rattle.statement_build.proofs.builder.Builder.arguments.Given as goal

abbrev pub invariant-loop-argument : goal.invariant-loop-argument
invariant-loop-argument l = l.renamed.items ≡ map
    (λ (x : ExprAt ℕ). in_numbers (numbered_of l.self) x.expr) (take l.argument-index l.arguments)

use Rattle.std.proofs.Common.{◌≡◌, ℕ, map, take}
use Rattle.module_tree.specs.declared.source.Binding.{Binding}
use Rattle.statement_build.specs.Building.{numbered_of}
use Rattle.kernel_expand.specs.Numbering.{number_of}
use Rattle.statement_build.proofs.builder.Builder.bound.Given as goal

abbrev pub invariant-loop-binding : goal.invariant-loop-binding
invariant-loop-binding l = l.bound.items ≡ map
    (λ (b : Binding ℕ). number_of (numbered_of l.self) b.right.name) (take l.binding-index l.bindings)

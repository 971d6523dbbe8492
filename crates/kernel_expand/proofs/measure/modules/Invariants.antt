use Rattle.std.proofs.Common.{◌≡◌, ℕ, map, take, Bor}
use Rattle.module_tree.specs.declared.source.ModuleNode.{ModuleNode}
use Rattle.module_tree.specs.Callables.{modules_of}
use Rattle.kernel_expand.proofs.measure.modules.Given as goal

abbrev pub invariant-loop-part : goal.invariant-loop-part
invariant-loop-part l = map (λ (m : Bor (ModuleNode ℕ)). m.now) l.modules.items ≡ modules_of
    (take l.part-index l.parts)

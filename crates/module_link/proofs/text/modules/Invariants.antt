use Rattle.std.proofs.Common.{◌≡◌, map, take, Bor}
use Rattle.module_tree.specs.declared.source.ModuleNode.{ModuleNode}
use Rattle.module_tree.specs.Callables.{modules_of}
use Rattle.link_faults.specs.Named.{Name}
use Rattle.module_link.proofs.text.modules.Given as goal

abbrev pub invariant-loop-part : goal.invariant-loop-part
invariant-loop-part l = map (λ (m : Bor (ModuleNode Name)). m.now) l.modules.items ≡ modules_of
    (take l.part-index l.parts)

use Rattle.std.proofs.Common.{◌≡◌, map, take, Bor}
use Rattle.module_tree.specs.declared.source.ModuleNode.{ModuleNode}
use Rattle.link_faults.specs.Named.{Name}
use Rattle.module_link.proofs.text.names_of_modules.Given as goal

abbrev pub invariant-loop-module : goal.invariant-loop-module
invariant-loop-module l = map (λ (n : Bor Name). n.now) l.names.items ≡ map
    (λ (m : Bor (ModuleNode Name)). m.now.name) (take l.module-index l.modules)

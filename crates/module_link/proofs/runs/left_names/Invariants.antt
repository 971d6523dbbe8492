use Rattle.std.proofs.Common.{◌≡◌, map, take, Bor}
use Rattle.module_tree.specs.declared.source.Binding.{Binding}
use Rattle.link_faults.specs.Named.{Name}
use Rattle.module_link.proofs.runs.left_names.Given as goal

abbrev pub invariant-loop-binding : goal.invariant-loop-binding
invariant-loop-binding l = map (λ (n : Bor Name). n.now) l.names.items ≡ map
    (λ (b : Binding Name). b.left.name) (take l.binding-index l.written)

use Rattle.std.proofs.Common.{◌≡◌, map, take, Bor}
use Rattle.module_tree.specs.Callables.{Signature, signatures_of}
use Rattle.link_faults.specs.Named.{Name}
use Rattle.module_link.proofs.text.names_of_bodies.Given as goal

abbrev pub invariant-loop-part : goal.invariant-loop-part
invariant-loop-part l = map (λ (n : Bor Name). n.now) l.names.items ≡ map (λ (s : Signature). s.name)
    (signatures_of (take l.part-index l.parts))

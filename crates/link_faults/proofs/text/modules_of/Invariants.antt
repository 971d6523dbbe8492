use Rattle.std.proofs.Common.{◌≡◌, map, take}
use Rattle.module_tree.specs.Callables.{modules_of}
use Rattle.link_faults.proofs.text.modules_of.Given as goal

abbrev pub invariant-parts : goal.invariant-parts
invariant-parts l = map (λ m. m.now) l.modules.items ≡ modules_of (take l.part-index l.parts)

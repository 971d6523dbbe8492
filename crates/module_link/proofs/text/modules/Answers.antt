use Rattle.std.proofs.Common.{take, arith, Bor, Vec, Global, ap, ◌∙◌, [], ◌∷◌}
use Rattle.module_tree.specs.declared.source.ModuleNode.{ModuleNode}
use Rattle.module_tree.specs.declared.source.Part.{Part}
use Rattle.module_tree.specs.Callables.{modules_of}
use Rattle.link_faults.specs.Named.{Name}
use Rattle.module_link.proofs.TextLists.{modules_more, pushed, kept, no_module}
use Rattle.module_link.proofs.text.modules.Goals as goal
use Rattle.module_link.proofs.text.modules.Goals.{in-Module+in_ok-push, in_default}

pub loop-part-preserved : goal.loop-part-preserved
loop-part-preserved c =
    let more = modules_more c.args.parts.now c.loop-part.part-index c.part-item.result
    (omega (arith, c.loop-part-test.true)) c.part-item.is in
    elim c.match-part.branch [
      | in-Module+in_ok-push w ↦
          pushed c.loop-part.modules.items c.match-part.modules.items _
          (modules_of (take c.loop-part.part-index c.args.parts.now)) _
          (modules_of (c.part-item.result ∷ [])) c.loop-part.invariant more
          (ap (λ (t : Part Name). modules_of (t ∷ [])) w.in-Module.is)
          (ap (λ (v : Vec (Bor (ModuleNode Name)) Global). v.items) w.modules-is ∙ w.in_ok-push.ensures.items)
      | in_default w ↦
          kept c.loop-part.modules.items c.match-part.modules.items
          (modules_of (take c.loop-part.part-index c.args.parts.now)) _
          (modules_of (c.part-item.result ∷ [])) c.loop-part.invariant more
          (no_module c.part-item.result w.in_default.not-Module)
          (ap (λ (v : Vec (Bor (ModuleNode Name)) Global). v.items) w.modules-is)
    ]

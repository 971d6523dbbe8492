use Rattle.std.proofs.Common.{ℕ, take, arith, Bor, Vec, Global, ap, ◌∙◌}
use Rattle.module_tree.specs.declared.source.ModuleNode.{ModuleNode}
use Rattle.module_tree.specs.Callables.{modules_of}
use Rattle.kernel_expand.proofs.Listing.{one_more, a_module, no_module}
use Rattle.kernel_expand.proofs.measure.modules.Goals as goal
use Rattle.kernel_expand.proofs.measure.modules.Goals.{in-Module+in_ok-push, in_default}

pub loop-part-preserved : goal.loop-part-preserved
loop-part-preserved c =
    let more = one_more c.args.parts.now c.loop-part.part-index c.part-item.result (omega arith)
    c.part-item.is in
    elim c.match-part.branch [
      | in-Module+in_ok-push w ↦
          a_module c.loop-part.modules.items c.match-part.modules.items _
          (modules_of (take c.loop-part.part-index c.args.parts.now)) c.part-item.result _
          c.loop-part.invariant more w.in-Module.is
          (ap (λ (v : Vec (Bor (ModuleNode ℕ)) Global). v.items) w.modules-is ∙ w.in_ok-push.ensures.items)
      | in_default w ↦
          no_module c.loop-part.modules.items c.match-part.modules.items
          (modules_of (take c.loop-part.part-index c.args.parts.now)) c.part-item.result _
          c.loop-part.invariant more w.in_default.not-Module
          (ap (λ (v : Vec (Bor (ModuleNode ℕ)) Global). v.items) w.modules-is)
    ]

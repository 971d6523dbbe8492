use Rattle.std.proofs.Common.{take, arith, Bor, Vec, Global, ap, ◌∙◌, [], ◌∷◌}
use Rattle.module_tree.specs.declared.source.Part.{Part}
use Rattle.link_faults.specs.Named.{Name}
use Rattle.module_link.proofs.TextLists.{names_of, names_more, pushed, kept}
use Rattle.module_link.proofs.text.names_of_bodies.Goals as goal
use Rattle.module_link.proofs.text.names_of_bodies.Goals.{in-Body+in_ok-push-in-Body}
use Rattle.module_link.proofs.text.names_of_bodies.Goals.{in-Host+in_ok-push-in-Host, in-Module}

pub loop-part-preserved : goal.loop-part-preserved
loop-part-preserved c =
    let more = names_more c.args.parts.now c.loop-part.part-index c.part-item.result
    (omega (arith, c.loop-part-test.true)) c.part-item.is in
    let before = names_of (take c.loop-part.part-index c.args.parts.now) in
    let own = names_of (c.part-item.result ∷ []) in
    elim c.match-part.branch [
      | in-Body+in_ok-push-in-Body w ↦
          pushed c.loop-part.names.items c.match-part.names.items _ before _ own c.loop-part.invariant more
          (ap (λ (t : Part Name). names_of (t ∷ [])) w.in-Body.is)
          (ap (λ (v : Vec (Bor Name) Global). v.items) w.names-is ∙ w.in_ok-push-in-Body.ensures.items)
      | in-Host+in_ok-push-in-Host w ↦
          pushed c.loop-part.names.items c.match-part.names.items _ before _ own c.loop-part.invariant more
          (ap (λ (t : Part Name). names_of (t ∷ [])) w.in-Host.is)
          (ap (λ (v : Vec (Bor Name) Global). v.items) w.names-is ∙ w.in_ok-push-in-Host.ensures.items)
      | in-Module w ↦
          kept c.loop-part.names.items c.match-part.names.items before _ own c.loop-part.invariant more
          (ap (λ (t : Part Name). names_of (t ∷ [])) w.in-Module.is)
          (ap (λ (v : Vec (Bor Name) Global). v.items) w.names-is)
    ]

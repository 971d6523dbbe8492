use Rattle.std.proofs.Common.{[], ◌∷◌, ◌++◌, sym, ◌∙◌, ap}
use Rattle.module_tree.specs.Callables.{modules_of}
use Rattle.link_faults.proofs.TextLaws.{modules_more}
use Rattle.link_faults.proofs.text.modules_of.Goals as goal

pub parts-preserved : goal.parts-preserved
parts-preserved c = c.in_ok-push_module.ensures
    ∙ ap (λ ms. ms ++ modules_of (c.part-item.result ∷ [])) c.parts.invariant
    ∙ sym (modules_more c.args.parts.now c.parts.part-index c.part-item.result c.parts-test.true
    c.part-item.is)

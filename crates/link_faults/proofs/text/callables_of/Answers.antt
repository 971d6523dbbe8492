use Rattle.std.proofs.Common.{[], ◌∷◌, sym, subst, take}
use Rattle.module_tree.specs.Callables.{signatures_of}
use Rattle.link_faults.specs.Rows.{Program}
use Rattle.link_faults.specs.CallableTables.{AreCallables}
use Rattle.link_faults.proofs.TextLaws.{one_more, signatures_joined}
use Rattle.link_faults.proofs.text.callables_of.Goals as goal

pub parts-preserved : goal.parts-preserved
parts-preserved c =
    let before = take c.parts.part-index c.args.parts.now in
    one_more (λ (ps : Program). AreCallables (signatures_of ps) c.add_part.new.self) c.args.parts.now
    c.parts.part-index c.part-item.result c.parts-test.true c.part-item.is
    (subst (λ ss. AreCallables ss c.add_part.new.self)
    (sym (signatures_joined before (c.part-item.result ∷ [])))
    (c.in_ok-add_part.ensures (signatures_of before) c.parts.invariant))

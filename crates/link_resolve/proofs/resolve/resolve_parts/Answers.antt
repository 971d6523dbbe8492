use Rattle.std.proofs.Common.{◌∙◌, ap, arith, map}
use Rattle.std.proofs.lemmas.List.{take_all}
use Rattle.link_faults.specs.Rows.{Program}
use Rattle.module_link.specs.Resolved.{resolved_part}
use Rattle.link_resolve.proofs.ModuleParts.{part_more}
use Rattle.link_resolve.proofs.resolve.resolve_parts.Goals as goal

pub parts-preserved : goal.parts-preserved
parts-preserved c =
    let parts = c.args.parts.now in
    part_more (resolved_part parts) parts c.parts.part-index c.part-item.result c.parts.resolved.items _
    c.in_ok-resolve_part.field-0 c.parts-test.true c.part-item.is c.parts.invariant
    (c.in_ok-resolve_part.ensures ∙ ap (λ (ps : Program). resolved_part ps c.part-item.result)
    c.in_ok-text.ensures.parts) c.in_ok-push.ensures.items

pub returns : goal.returns
returns c =
    let parts = c.args.parts.now in
    c.from_vec.ensures ∙ c.parts.invariant
    ∙ ap (map (resolved_part parts)) (take_all c.parts.part-index parts (omega arith))

use Rattle.std.proofs.Common.{sym, ap, ◌∙◌}
use Rattle.kernel_expand.specs.Interpretation.{locals}
use Rattle.kernel_expand.specs.Measures.{sizes, around}
use Rattle.kernel_expand.proofs.Nested.{last_inmost}
use Rattle.kernel_expand.proofs.blocks.declared.Goals as goal

pub inward-preserved : goal.inward-preserved
inward-preserved c =
    let before = c.in-Some.before.now in
    let sig = c.in-Some.sig.now in
    ap (locals sizes before) (c.around-whole.ensures
    ∙ ap (λ w. around w c.inward.whole) c.of_first.ensures)
    ∙ sym (last_inmost sizes before sig c.inward.whole) ∙ ap (λ ds. locals sizes ds c.inward.whole)
    (sym c.in-Some.ensures.cases.0) ∙ c.inward.invariant

use Rattle.std.proofs.Common.{None, ◌∙◌, ap, sym}
use Rattle.link_faults.specs.declared.judge.Judgement.{Judgement}
use Rattle.link_faults.specs.Faults.{earlier}
use Rattle.std.proofs.Common.{get_or}
use Rattle.link_faults.proofs.EarlierLaws.{first_by_more}
use Rattle.link_faults.proofs.judge.Judgement.over.Goals as goal

abbrev nothing : Judgement
nothing = record { kind = None; misfit = None; unknown = None }

pub parts-preserved : goal.parts-preserved
parts-preserved c =
    let part = get_or c.args.parts.now c.parts.part-index nothing in
    record {
      misfit = c.earlier-misfit.ensures ∙ ap (λ m. earlier m part.misfit) c.parts.invariant.misfit
          ∙ sym (first_by_more (λ (j : Judgement). j.misfit) c.args.parts.now c.parts.part-index nothing
          c.parts-test.true);
      unknown = c.earlier-unknown.ensures ∙ ap (λ m. earlier m part.unknown) c.parts.invariant.unknown
          ∙ sym (first_by_more (λ (j : Judgement). j.unknown) c.args.parts.now c.parts.part-index nothing
          c.parts-test.true);
    }

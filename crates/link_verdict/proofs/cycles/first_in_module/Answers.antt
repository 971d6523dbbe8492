use Rattle.std.proofs.Common.{take, sym, ◌∙◌, ap}
use Rattle.link_faults.specs.Faults.{earlier}
use Rattle.link_faults.specs.Earliest.{first_by}
use Rattle.link_faults.proofs.EarlierLaws.{first_by_more}
use Rattle.link_verdict.specs.Cycles.{first_of_run}
use Rattle.link_verdict.proofs.cycles.first_in_module.Goals as goal

pub runs-preserved : goal.runs-preserved
runs-preserved c =
    let f = first_of_run c.args.components.now.roots c.args.caller in
    c.earlier-first.ensures ∙ ap (λ o. earlier o c.in_ok-first_of_run.field-0) c.runs.invariant
    ∙ ap (earlier (first_by f (take c.runs.run-index c.args.runs.now))) c.in_ok-first_of_run.ensures
    ∙ sym (first_by_more f c.args.runs.now c.runs.run-index _ c.runs-test.true)

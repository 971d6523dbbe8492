use Rattle.std.proofs.Common.{◌∙◌, subst}
use Rattle.std.proofs.lemmas.Result.{IfOk-weaker}
use Rattle.run_graph.specs.Components.{ShowCycles}
use Rattle.link_verdict.specs.Cycles.{IsFirstCycle}
use Rattle.link_verdict.proofs.CycleLaws.{cycles_found}
use Rattle.link_verdict.proofs.cycles.first_cycle.Goals as goal

pub returns : goal.returns
returns c = λ parts e. IfOk-weaker c.first_in_all.result _ (IsFirstCycle parts)
    (λ v is. cycles_found parts c.args.runs.now c.in_ok-components.components.roots v e
    (subst (λ g. ShowCycles g c.in_ok-components.components.roots) (c.as_slice.ensures.value ∙ c.in_ok-graph.ensures)
    c.in_ok-components.ensures.cycles) is) c.first_in_all.ensures

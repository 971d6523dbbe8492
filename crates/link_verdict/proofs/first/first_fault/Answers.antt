use Rattle.std.proofs.Common.{◌≡◌, ◌∙◌, ap, subst}
use Rattle.link_faults.specs.declared.fault.LinkKind.TheVariants as fault
use Rattle.link_faults.specs.Faults.{earlier}
use Rattle.link_faults.specs.Earliest.{first_at, first_by}
use Rattle.link_faults.specs.FirstFault.{IsVerdict}
use Rattle.link_faults.specs.Rows.{repeated}
use Rattle.link_verdict.specs.Declarations.{first_in_declaration}
use Rattle.link_verdict.specs.Cycles.{IsFirstCycle}
use Rattle.link_verdict.proofs.CycleLaws.{runs_in_range}
use Rattle.link_verdict.proofs.TextRows.{module_names, first_repeated, verdict_of}
use Rattle.link_verdict.proofs.first.first_fault.Goals as goal

pub first_cycle-requires : goal.first_cycle-requires
first_cycle-requires c = runs_in_range c.in_ok-text.text.parts.now c.as_slice.result.now
    (c.as_slice.ensures.value ∙ c.in_ok-found.ensures.runs)

pub returns : goal.returns
returns c =
    let text = c.in_ok-text.text in
    let parts = text.parts.now in
    let is = c.in_ok-text.ensures.text in
    let cycle : IsFirstCycle parts c.in_ok-cycle.cycle = c.in_ok-cycle.ensures parts
    (c.as_slice.ensures.value ∙ c.in_ok-found.ensures.runs) in
    let names : c.earlier-names.result ≡ first_repeated parts = c.earlier-names.ensures
    ∙ ap (λ o. earlier o c.first-2.result) (c.first.ensures ∙ is.names.first)
    ∙ ap (earlier (first_at fault.TwiceDeclared (repeated (module_names parts)))) (c.first-2.ensures ∙ is.callables.names.first) in
    let declared : c.earlier.result ≡ earlier (first_repeated parts) (first_by (first_in_declaration parts) parts) =
    c.earlier.ensures ∙ ap (λ o. earlier o c.in_ok-found.found.first) names
    ∙ ap (earlier (first_repeated parts)) c.in_ok-found.ensures.first in
    subst (λ ps. IsVerdict ps c.earlier-2.result) (c.in_ok-text.ensures.parts ∙ c.parts.ensures.parts)
    (verdict_of parts cycle.0 c.earlier-2.result cycle.2 (c.earlier-2.ensures
    ∙ ap (λ o. earlier o c.in_ok-cycle.cycle) declared
    ∙ ap (earlier (earlier (first_repeated parts) (first_by (first_in_declaration parts) parts))) cycle.1))

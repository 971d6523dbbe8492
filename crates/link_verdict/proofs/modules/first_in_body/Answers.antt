use Rattle.std.proofs.Common.{map, ◌∙◌, ap}
use Rattle.link_faults.specs.declared.fault.LinkKind.TheVariants as fault
use Rattle.link_faults.specs.Faults.{earlier}
use Rattle.link_faults.specs.Earliest.{first_at}
use Rattle.link_faults.specs.NameTables.{name_of_parameter}
use Rattle.link_faults.specs.Rows.{no_kinds, repeated}
use Rattle.link_faults.specs.Meanings.{kind_of_parameter}
use Rattle.link_faults.specs.PartFaults.{first_expected}
use Rattle.link_verdict.specs.Declarations.{kinds_of_parameters}
use Rattle.link_verdict.proofs.modules.first_in_body.Goals as goal

pub returns : goal.returns
returns c =
    let b = c.args.body.now in
    c.earlier.ensures
    ∙ ap (λ o. earlier o c.first_expected-found.result) (c.first.ensures ∙ c.in_ok-table.ensures.first
    ∙ ap (λ ps. first_at fault.TwiceDeclared (repeated (map name_of_parameter ps))) c.as_slice.ensures)
    ∙ ap (earlier (first_at fault.TwiceDeclared (repeated (map name_of_parameter b.parameters))))
    (c.first_expected-found.ensures
    ∙ ap (λ signals. first_expected signals (kind_of_parameter c.in_ok-names.names) b.answer b.expr)
    c.in_ok-names.ensures.signals
    ∙ ap (λ args. first_expected no_kinds args b.answer b.expr) (c.in_ok-names.ensures.parameters
    ∙ ap kinds_of_parameters c.as_slice-2.ensures))

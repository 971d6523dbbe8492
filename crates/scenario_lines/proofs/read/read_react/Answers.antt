use Rattle.std.proofs.Common.{subst}
use Rattle.scenario_lines.specs.Lines.{parts_of}
use Rattle.scenario_lines.specs.Scenario.{AreInputs}
use Rattle.scenario_lines.specs.Tells.{Tells}
use Rattle.scenario_lines.proofs.Forms.{react_found, react_none}
use Rattle.scenario_lines.proofs.read.read_react.Goals as goal

pub returns-in-Some-clause-line : goal.returns-in-Some-clause-line
returns-in-Some-clause-line c mode =
    react_found mode c.args.index.now (parts_of c.args.rest.now) c.in-Some.inputs
    (subst (λ o. Tells (AreInputs c.args.index.now (parts_of c.args.rest.now)) o) c.in-Some.is
    c.in_ok-inputs.ensures.inputs)

pub returns-in-None-clause-line : goal.returns-in-None-clause-line
returns-in-None-clause-line c mode =
    react_none mode c.args.index.now (parts_of c.args.rest.now)
    (subst (λ o. Tells (AreInputs c.args.index.now (parts_of c.args.rest.now)) o) c.in-None.is
    c.in_ok-inputs.ensures.inputs)

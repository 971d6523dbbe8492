use Rattle.std.proofs.Common.{◌≡◌, ◌∷◌}
use Rattle.scenario_lines.proofs.Lining.{first_lines}
use Rattle.scenario_lines.proofs.lines.split_line.Goals as goal

pub returns-in-Some-clause-lines : goal.returns-in-Some-clause-lines
returns-in-Some-clause-lines c =
    let first : c.cut.result.1.now ≡ c.in-Some.field-0-0.now ∷ c.in-Some.rest.now =
    (let f = c.in-Some.ensures.cases.0 in cc) in
    first_lines c.args.text.now c.cut.result.0.now c.cut.result.1.now c.in-Some.field-0-0.now
    c.in-Some.rest.now c.strip_return.result.now c.cut.ensures first c.strip_return.ensures

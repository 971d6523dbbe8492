use Rattle.std.proofs.Common.{◌≡◌, List, ℕ, get_or, Ok, ap, ◌∙◌}
use Rattle.scenario_lines.proofs.Numbers.{id_found, id_only}
use Rattle.scenario_lines.proofs.literals.read_number.Goals as goal

pub returns-in-Ok-clause-found : goal.returns-in-Ok-clause-found
returns-in-Ok-clause-found c =
    let no_plus = λ (h : get_or c.args.text.now 0 0 ≡ 43). let plus =
    c.begins_with_plus.ensures.1 (ap (λ (bs : List ℕ). get_or bs 0 0) c.as_bytes.ensures.value ∙ h) in
    let no : ⊥ = cc in no in
    id_found c.args.text.now c.parse.result c.parse.ensures.value.0 no_plus c.in-Ok.number c.in-Ok.is

pub returns-in-Err-clause-only : goal.returns-in-Err-clause-only
returns-in-Err-clause-only c n h =
    let parsed : c.parse.result ≡ Ok n = id_only c.args.text.now c.parse.result c.parse.ensures.value.0 n h in cc

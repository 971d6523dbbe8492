use Rattle.std.proofs.Common.{sym, ◌∙◌, subst}
use Rattle.std.specs.Prelude.{IfSome}
use Rattle.scenario_lines.specs.Literals.{IsValue}
use Rattle.scenario_lines.proofs.Forms.{answer_parts, answer_no_id, answer_no_value, answer_found}
use Rattle.scenario_lines.proofs.read.read_answer.Goals as goal

pub returns-in_default : goal.returns-in_default
returns-in_default c mode signals =
    answer_parts mode signals c.args.last c.args.rest.now c.in_default.ensures

pub returns-in_default-read_id : goal.returns-in_default-read_id
returns-in_default-read_id c mode signals =
    answer_no_id mode signals c.args.last c.args.rest.now c.in-Some.digits.now c.in-Some.literal.now
    c.in-Some.ensures c.in_default-read_id.ensures.only

pub returns-in-Some-2 : goal.returns-in-Some-2
returns-in-Some-2 c mode signals =
    answer_found mode signals c.args.last c.args.rest.now c.in-Some.digits.now c.in-Some.literal.now
    c.in-Some-read_id.id c.in-Some-2.value c.in-Some.ensures c.in-Some-read_id.ensures.found
    c.in-Some-read_id.ensures.only
    (subst (λ o. IfSome o (IsValue c.in-Some.literal.now)) c.in-Some-2.is c.in_ok-value.ensures.found)
    (λ w h. sym c.in-Some-2.is ∙ c.in_ok-value.ensures.only w h)

pub returns-in-None : goal.returns-in-None
returns-in-None c mode signals =
    answer_no_value mode signals c.args.last c.args.rest.now c.in-Some.digits.now c.in-Some.literal.now
    c.in-Some.ensures (λ w h. sym c.in-None.is ∙ c.in_ok-value.ensures.only w h)

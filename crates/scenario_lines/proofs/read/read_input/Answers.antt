use Rattle.std.proofs.Common.{rules, ◌≡◌, ◌≢◌, sym, ◌∙◌, subst}
use Rattle.std.specs.Prelude.{IfSome}
use Rattle.hh_base.specs.Value.{kind_of}
use Rattle.scenario_lines.specs.Reader.{Carries}
use Rattle.scenario_lines.proofs.Inputs.{nameless, valueless, kindless, input}
use Rattle.scenario_lines.proofs.read.read_input.Goals as goal

pub returns-in_default : goal.returns-in_default
returns-in_default c =
    nameless c.args.index.now c.args.part.now c.cut.result.0.now c.cut.result.1.now
    c.in_default.ensures.words c.cut.ensures c.in_default.ensures.input

pub returns-in_default-2 : goal.returns-in_default-2
returns-in_default-2 c =
    valueless c.args.index.now c.args.part.now c.cut.result.0.now c.cut.result.1.now
    c.in-Some.ensures.words c.cut.ensures (λ w h. sym c.in_default-2.is ∙ c.in_ok-value.ensures.only w h)

pub returns-then-ne : goal.returns-then-ne
returns-then-ne c =
    let other : kind_of c.in-Some-2.value ≢ c.in-Some.kind = search rules in
    kindless c.args.index.now c.args.part.now c.cut.result.0.now c.cut.result.1.now c.in-Some.signal
    c.in-Some.kind c.in-Some-2.value c.in-Some.ensures.words c.cut.ensures c.in-Some.ensures.input
    (λ w h. sym c.in-Some-2.is ∙ c.in_ok-value.ensures.only w h) other

pub returns : goal.returns
returns c =
    let same : kind_of c.in-Some-2.value ≡ c.in-Some.kind = search rules in
    input c.args.index.now c.args.part.now c.cut.result.0.now c.cut.result.1.now c.in-Some.signal
    c.in-Some.kind c.in-Some-2.value c.in-Some.ensures.words c.cut.ensures c.in-Some.ensures.input
    (λ w h. sym c.in-Some-2.is ∙ c.in_ok-value.ensures.only w h)
    (subst (λ o. IfSome o (Carries c.cut.result.1.now)) c.in-Some-2.is c.in_ok-value.ensures.found) same

use Rattle.std.proofs.Common.{◌<◌, refl, sym, inr, subst, length}
use Rattle.scenario_lines.specs.Reader.{IsTheInput}
use Rattle.scenario_lines.specs.Scenario.{IsInput}
use Rattle.scenario_lines.specs.Tells.{Tells}
use Rattle.scenario_lines.proofs.Inputs.{input_within, no_part, the_input}
use Rattle.scenario_lines.proofs.read.take_input.Goals as goal

pub returns-in_default : goal.returns-in_default
returns-in_default c = (
  no_part c.args.index.now c.args.part.now c.args.number c.args.noted.now
      (subst (λ o. Tells (IsInput c.args.index.now c.args.part.now) o) c.in_default.is c.in_ok-input.ensures),
  refl,
)

pub bounds-noted-input : goal.bounds-noted-input
bounds-noted-input c =
    let the : IsTheInput c.args.index.now c.args.part.now c.in-Some.input =
    the_input c.args.index.now c.args.part.now c.in-Some.input
    (subst (λ o. Tells (IsInput c.args.index.now c.args.part.now) o) c.in-Some.is c.in_ok-input.ensures) in
    let inside : c.in-Some.input.signal < length c.args.noted.now =
    subst (λ k. c.in-Some.input.signal < k) (sym c.requires)
    (input_within c.args.index.now c.args.part.now c.in-Some.input the.gives) in
    inside

pub returns-then-noted-input : goal.returns-then-noted-input
returns-then-noted-input c =
    let the : IsTheInput c.args.index.now c.args.part.now c.in-Some.input =
    the_input c.args.index.now c.args.part.now c.in-Some.input
    (subst (λ o. Tells (IsInput c.args.index.now c.args.part.now) o) c.in-Some.is c.in_ok-input.ensures) in
    let inside : c.in-Some.input.signal < length c.args.noted.now =
    subst (λ k. c.in-Some.input.signal < k) (sym c.requires)
    (input_within c.args.index.now c.args.part.now c.in-Some.input the.gives) in
    (inr (c.in-Some.input, the, inside, c.if-noted-input.true), refl)

pub bounds-noted-input-2 : goal.bounds-noted-input-2
bounds-noted-input-2 c =
    let the : IsTheInput c.args.index.now c.args.part.now c.in-Some.input =
    the_input c.args.index.now c.args.part.now c.in-Some.input
    (subst (λ o. Tells (IsInput c.args.index.now c.args.part.now) o) c.in-Some.is c.in_ok-input.ensures) in
    let inside : c.in-Some.input.signal < length c.args.noted.now =
    subst (λ k. c.in-Some.input.signal < k) (sym c.requires)
    (input_within c.args.index.now c.args.part.now c.in-Some.input the.gives) in
    inside

pub returns : goal.returns
returns c =
    let the : IsTheInput c.args.index.now c.args.part.now c.in-Some.input =
    the_input c.args.index.now c.args.part.now c.in-Some.input
    (subst (λ o. Tells (IsInput c.args.index.now c.args.part.now) o) c.in-Some.is c.in_ok-input.ensures) in
    let inside : c.in-Some.input.signal < length c.args.noted.now =
    subst (λ k. c.in-Some.input.signal < k) (sym c.requires)
    (input_within c.args.index.now c.args.part.now c.in-Some.input the.gives) in
    record { input = the; noted = inside; once = c.if-noted-input.false; new_is = refl }

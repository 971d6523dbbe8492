use Rattle.std.proofs.Common.{◌≤◌, None, sym, subst}
use Rattle.std.specs.Prelude.{All}
use Rattle.scenario_lines.specs.Reader.{IsTakenPart, TakesPart}
use Rattle.scenario_lines.proofs.Taking.{step, finish, refuse}
use Rattle.scenario_lines.proofs.read.read_inputs.Goals as goal

pub returns-in_default-2-clause-inputs : goal.returns-in_default-2-clause-inputs
returns-in_default-2-clause-inputs c =
    let far = c.loop-part in
    let refused : TakesPart c.args.index.now c.in-Some.part.now c.args.number far.noted None
    c.take_input.new.noted =
    subst (λ o. TakesPart c.args.index.now c.in-Some.part.now c.args.number far.noted o
    c.take_input.new.noted) c.in_default-2.is c.in_ok-input.ensures in
    refuse c.args.index.now c.args.line.now c.args.number far.inputs.items far.rest.now far.noted
    c.in-Some.part.now c.in-Some.behind.now c.in-Some.ensures.parts refused.0 far.invariant

pub returns-in_default-2-clause-noted : goal.returns-in_default-2-clause-noted
returns-in_default-2-clause-noted c =
    let far = c.loop-part in
    let refused : TakesPart c.args.index.now c.in-Some.part.now c.args.number far.noted None
    c.take_input.new.noted =
    subst (λ o. TakesPart c.args.index.now c.in-Some.part.now c.args.number far.noted o
    c.take_input.new.noted) c.in_default-2.is c.in_ok-input.ensures in
    subst (All (λ m. m ≤ c.args.number)) (sym refused.1) far.invariant.until

pub loop-part-preserved : goal.loop-part-preserved
loop-part-preserved c =
    let far = c.loop-part in
    let taken : IsTakenPart c.args.index.now c.in-Some.part.now c.args.number far.noted
    c.take_input.new.noted c.in-Some-2.input =
    subst (λ o. TakesPart c.args.index.now c.in-Some.part.now c.args.number far.noted o
    c.take_input.new.noted) c.in-Some-2.is c.in_ok-input.ensures in
    rw c.in_ok-push.ensures.items (step c.args.index.now c.args.line.now c.args.number far.inputs.items
    far.rest.now far.noted c.in-Some.part.now c.in-Some.behind.now c.take_input.new.noted c.in-Some-2.input
    c.in-Some.ensures.parts taken far.invariant)

pub returns-clause-inputs : goal.returns-clause-inputs
returns-clause-inputs c =
    let far = c.loop-part in
    rw c.from_vec.ensures (finish c.args.index.now c.args.line.now c.args.number far.inputs.items far.rest.now
    far.noted c.in_default.ensures.parts far.invariant)

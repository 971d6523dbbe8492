use Rattle.std.proofs.Common.{sym, ◌∙◌}
use Rattle.exec_instance.proofs.Tries.{Seen, seen_at, repeated, enters, mistyped, is_open}
use Rattle.exec_instance.proofs.instances.Instances.judge.Goals as goal

pub returns-then-ends_with_last-clause-drops : goal.returns-then-ends_with_last-clause-drops
returns-then-ends_with_last-clause-drops c =
    let s : Seen c.args.kinds.now c.args.parts c.args.self.now c.args.answer.now c.in-Some.place c.index-instance.result.now =
    seen_at c.args.kinds.now c.args.parts c.args.self.now c.self.inside.last c.self.inside.running.items c.args.answer.now c.in-Some.place c.index-instance.result.now c.self.view_is c.self.invariant c.if-answer-eq0.false c.if-answer-self.false c.in-Some.ensures c.index-instance.ensures in
    repeated _ _ _ _ _ _ s (sym c.ends_with_last.ensures.value ∙ c.if-ends_with_last.true)

pub returns-then-is_well_typed-clause-enters : goal.returns-then-is_well_typed-clause-enters
returns-then-is_well_typed-clause-enters c =
    let s : Seen c.args.kinds.now c.args.parts c.args.self.now c.args.answer.now c.in-Some.place c.index-instance.result.now =
    seen_at c.args.kinds.now c.args.parts c.args.self.now c.self.inside.last c.self.inside.running.items c.args.answer.now c.in-Some.place c.index-instance.result.now c.self.view_is c.self.invariant c.if-answer-eq0.false c.if-answer-self.false c.in-Some.ensures c.index-instance.ensures in
    enters _ _ _ _ _ _ s (sym c.ends_with_last.ensures.value ∙ c.if-ends_with_last.false) (sym (c.is_well_typed.ensures c.args.self.now.last) ∙ c.if-is_well_typed.true)

pub returns-then-is_well_typed-clause-place : goal.returns-then-is_well_typed-clause-place
returns-then-is_well_typed-clause-place c =
    let s : Seen c.args.kinds.now c.args.parts c.args.self.now c.args.answer.now c.in-Some.place c.index-instance.result.now =
    seen_at c.args.kinds.now c.args.parts c.args.self.now c.self.inside.last c.self.inside.running.items c.args.answer.now c.in-Some.place c.index-instance.result.now c.self.view_is c.self.invariant c.if-answer-eq0.false c.if-answer-self.false c.in-Some.ensures c.index-instance.ensures in
    is_open _ _ _ _ _ _ s (sym c.ends_with_last.ensures.value ∙ c.if-ends_with_last.false)

pub returns-else-is_well_typed-clause-drops : goal.returns-else-is_well_typed-clause-drops
returns-else-is_well_typed-clause-drops c =
    let s : Seen c.args.kinds.now c.args.parts c.args.self.now c.args.answer.now c.in-Some.place c.index-instance.result.now =
    seen_at c.args.kinds.now c.args.parts c.args.self.now c.self.inside.last c.self.inside.running.items c.args.answer.now c.in-Some.place c.index-instance.result.now c.self.view_is c.self.invariant c.if-answer-eq0.false c.if-answer-self.false c.in-Some.ensures c.index-instance.ensures in
    mistyped _ _ _ _ _ _ s (sym c.ends_with_last.ensures.value ∙ c.if-ends_with_last.false) (sym (c.is_well_typed.ensures c.args.self.now.last) ∙ c.if-is_well_typed.false)

use Rattle.std.proofs.Common.{Ok, sym, ◌∙◌, ap, subst}
use Rattle.grammar.proofs.Lists.{Rest, list_done, list_more, list_fails}
use Rattle.grammar.proofs.Steps.{reads_exit}
use Rattle.expression_reader.specs.Refusals.{as_refusal}
use Rattle.module_reader.specs.Reference as rule
use Rattle.module_reader.proofs.Items.{top_takes}
use Rattle.module_reader.proofs.parts.read_parts.Goals as goal

pub returns-in_err-part : goal.returns-in_err-part
returns-in_err-part c =
    let whole = rule.parts 128 c.args.reader.now in
    reads_exit as_refusal whole _ _ c.in_err-part.field-0.0 c.from_residual.ensures.1
    (list_fails rule.begins_part (rule.part 128) as_refusal whole c.each.list.items c.each.reader _
    c.in_err-part.field-0.0 (sym c.sees_part.ensures ∙ c.each-test.true) c.in_err-part.ensures
    c.each.invariant)

pub each-smaller : goal.each-smaller
each-smaller c = top_takes 127 c.each.reader (c.in_ok-part.part, c.read_part.new.reader) c.in_ok-part.ensures

pub each-preserved : goal.each-preserved
each-preserved c =
    let lt = top_takes 127 c.each.reader (c.in_ok-part.part, c.read_part.new.reader) c.in_ok-part.ensures in
    let whole = rule.parts 128 c.args.reader.now in
    let more = list_more rule.begins_part (rule.part 128) whole c.each.list.items c.each.reader c.in_ok-part.part
    c.read_part.new.reader (sym c.sees_part.ensures ∙ c.each-test.true) c.in_ok-part.ensures lt
    c.each.invariant in
    subst (λ xs. Rest rule.begins_part (rule.part 128) whole xs c.read_part.new.reader)
    (sym c.in_ok-push.ensures.items) more

pub returns : goal.returns
returns c = list_done rule.begins_part (rule.part 128) (rule.parts 128 c.args.reader.now) c.each.list.items
    c.each.reader (sym c.sees_part.ensures ∙ c.each-test.false) c.each.invariant
    ∙ ap (λ xs. Ok (xs, c.each.reader)) (sym c.whole_list.ensures)

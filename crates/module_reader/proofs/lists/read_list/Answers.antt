use Rattle.std.proofs.Common.{Ok, sym, ◌∙◌, ap, subst}
use Rattle.module_token.specs.declared.punct.Punct.TheVariants as p
use Rattle.grammar.proofs.Lists.{Rest, list_done, list_more, list_fails}
use Rattle.grammar.proofs.Steps.{reads_exit}
use Rattle.expression_reader.specs.Refusals.{as_refusal}
use Rattle.expression_reader.specs.Terminals.{is_punct}
use Rattle.expression_reader.specs.Reference as part
use Rattle.module_reader.proofs.lists.read_list.Goals as goal

pub returns-in_err-item : goal.returns-in_err-item
returns-in_err-item g c =
    let item = g.T.Listed.rule in
    let whole = part.listed item c.args.reader.now in
    reads_exit as_refusal whole _ _ c.in_err-item.field-0.0 c.from_residual-in_err-item.ensures.1
    (list_fails (is_punct p.Comma) (part.behind_comma item) as_refusal whole c.each.list.items c.each.reader _
    c.in_err-item.field-0.0 (sym c.sees_punct.ensures ∙ c.each-test.true) c.in_err-item.ensures
    c.each.invariant)

pub each-smaller : goal.each-smaller
each-smaller g c = c.read.ensures.takes c.each.reader (c.in_ok-item.item, c.read_next.new.reader)
    c.in_ok-item.ensures

pub each-preserved : goal.each-preserved
each-preserved g c =
    let item = g.T.Listed.rule in
    let lt = c.read.ensures.takes c.each.reader (c.in_ok-item.item, c.read_next.new.reader)
    c.in_ok-item.ensures in
    let whole = part.listed item c.args.reader.now in
    let more = list_more (is_punct p.Comma) (part.behind_comma item) whole c.each.list.items c.each.reader
    c.in_ok-item.item c.read_next.new.reader (sym c.sees_punct.ensures ∙ c.each-test.true)
    c.in_ok-item.ensures lt c.each.invariant in
    subst (λ xs. Rest (is_punct p.Comma) (part.behind_comma item) whole xs c.read_next.new.reader)
    (sym c.in_ok-push-2.ensures.items) more

pub returns : goal.returns
returns g c = let item = g.T.Listed.rule in list_done (is_punct p.Comma) (part.behind_comma item)
    (part.listed item c.args.reader.now) c.each.list.items c.each.reader
    (sym c.sees_punct.ensures ∙ c.each-test.false) c.each.invariant
    ∙ ap (λ xs. Ok (xs, c.each.reader)) (sym c.whole_list.ensures)

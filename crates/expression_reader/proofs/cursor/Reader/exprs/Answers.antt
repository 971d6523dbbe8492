use Rattle.std.proofs.Common.{Ok, sym, ◌∙◌, ap, subst}
use Rattle.module_token.specs.declared.punct.Punct.TheVariants as p
use Rattle.grammar.proofs.Lists.{Rest, list_done, list_more, list_fails}
use Rattle.grammar.proofs.Steps.{reads_exit}
use Rattle.expression_reader.specs.Refusals.{as_refusal}
use Rattle.expression_reader.specs.Terminals.{is_punct}
use Rattle.expression_reader.specs.Reference as rule
use Rattle.expression_reader.proofs.Items.{argument_takes}
use Rattle.expression_reader.proofs.cursor.Reader.exprs.Goals as goal

pub returns-in_err-item : goal.returns-in_err-item
returns-in_err-item c =
    let whole = rule.listed (rule.outermost c.args.room) c.args.self.now in
    reads_exit as_refusal whole _ _ c.in_err-item.field-0.0 c.from_residual-in_err-item.ensures.1
    (list_fails (is_punct p.Comma) (rule.behind_comma (rule.outermost c.args.room)) as_refusal whole
    c.each.list.items c.each.self _ c.in_err-item.field-0.0 (sym c.sees_punct.ensures ∙ c.each-test.true)
    c.in_err-item.ensures c.each.invariant)

pub each-smaller : goal.each-smaller
each-smaller c = argument_takes c.args.room c.each.self (c.in_ok-item.item, c.next_outermost.new.self)
    c.in_ok-item.ensures

pub each-preserved : goal.each-preserved
each-preserved c =
    let lt = argument_takes c.args.room c.each.self (c.in_ok-item.item, c.next_outermost.new.self)
    c.in_ok-item.ensures in
    let whole = rule.listed (rule.outermost c.args.room) c.args.self.now in
    let more = list_more (is_punct p.Comma) (rule.behind_comma (rule.outermost c.args.room)) whole c.each.list.items
    c.each.self c.in_ok-item.item c.next_outermost.new.self
    (sym c.sees_punct.ensures ∙ c.each-test.true) c.in_ok-item.ensures lt c.each.invariant in
    subst (λ xs. Rest (is_punct p.Comma) (rule.behind_comma (rule.outermost c.args.room)) whole xs
    c.next_outermost.new.self) (sym c.in_ok-push-2.ensures.items) more

pub returns : goal.returns
returns c = list_done (is_punct p.Comma) (rule.behind_comma (rule.outermost c.args.room))
    (rule.listed (rule.outermost c.args.room) c.args.self.now) c.each.list.items c.each.self
    (sym c.sees_punct.ensures ∙ c.each-test.false) c.each.invariant
    ∙ ap (λ xs. Ok (xs, c.each.self)) (sym c.whole_list.ensures)

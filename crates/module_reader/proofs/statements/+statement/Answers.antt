use Rattle.std.proofs.Common.{Ok, sym, ◌∙◌, ap, subst}
use Rattle.hh_base.specs.declared.keyword.Keyword.TheVariants as w
use Rattle.grammar.specs.Parser.{many}
use Rattle.grammar.proofs.Lists.{Rest, list_done, list_more, list_fails}
use Rattle.grammar.proofs.Steps.{reads_exit}
use Rattle.expression_reader.specs.Refusals.{as_refusal}
use Rattle.expression_reader.specs.Terminals.{is_keyword, is_in_curly}
use Rattle.module_reader.specs.Reference as rule
use Rattle.module_reader.proofs.Items.{statement_takes, par_takes}
use Rattle.module_reader.proofs.statements.+statement.Goals as goal

pub read_statements-returns-in_err-statement : goal.read_statements-returns-in_err-statement
read_statements-returns-in_err-statement t c =
    let whole = many is_in_curly (rule.statement (rule.block c.args.room) c.args.room) c.args.reader.now in
    reads_exit as_refusal whole _ _ c.in_err-statement.field-0.0 c.from_residual.ensures.1
    (list_fails is_in_curly (rule.statement (rule.block c.args.room) c.args.room) as_refusal whole c.each.list.items
    c.each.reader _ c.in_err-statement.field-0.0 (sym c.sees_in_curly.ensures ∙ c.each-test.true)
    c.in_err-statement.ensures c.each.invariant)

pub read_statements-each-smaller : goal.read_statements-each-smaller
read_statements-each-smaller t c = statement_takes c.args.room c.each.reader
    (c.in_ok-statement.statement, c.read_statement.new.reader) c.in_ok-statement.ensures

pub read_statements-each-preserved : goal.read_statements-each-preserved
read_statements-each-preserved t c =
    let lt = statement_takes c.args.room c.each.reader (
      c.in_ok-statement.statement,
      c.read_statement.new.reader,
    ) c.in_ok-statement.ensures in
    let whole = many is_in_curly (rule.statement (rule.block c.args.room) c.args.room) c.args.reader.now in
    let more = list_more is_in_curly (rule.statement (rule.block c.args.room) c.args.room) whole c.each.list.items
    c.each.reader c.in_ok-statement.statement c.read_statement.new.reader
    (sym c.sees_in_curly.ensures ∙ c.each-test.true) c.in_ok-statement.ensures lt c.each.invariant in
    subst (λ xs. Rest is_in_curly (rule.statement (rule.block c.args.room) c.args.room) whole xs
    c.read_statement.new.reader) (sym c.in_ok-push.ensures.items) more

pub read_statements-returns : goal.read_statements-returns
read_statements-returns t c = list_done is_in_curly (rule.statement (rule.block c.args.room) c.args.room)
    (many is_in_curly (rule.statement (rule.block c.args.room) c.args.room) c.args.reader.now) c.each.list.items
    c.each.reader (sym c.sees_in_curly.ensures ∙ c.each-test.false) c.each.invariant
    ∙ ap (λ xs. Ok (xs, c.each.reader)) (sym c.whole_list.ensures)

pub read_par_blocks-returns-in_err-branch : goal.read_par_blocks-returns-in_err-branch
read_par_blocks-returns-in_err-branch t c =
    let whole = rule.par_blocks (rule.block c.args.room) c.args.reader.now in
    reads_exit as_refusal whole _ _ c.in_err-branch.field-0.0 c.from_residual-in_err-branch.ensures.1
    (list_fails (is_keyword w.Par) (rule.behind_par (rule.block c.args.room)) as_refusal whole c.each.list.items
    c.each.reader _ c.in_err-branch.field-0.0 (sym c.sees_keyword.ensures ∙ c.each-test.true)
    c.in_err-branch.ensures c.each.invariant)

pub read_par_blocks-each-smaller : goal.read_par_blocks-each-smaller
read_par_blocks-each-smaller t c = par_takes c.args.room c.each.reader
    (c.in_ok-branch.branch, c.read_behind_par.new.reader) c.in_ok-branch.ensures

pub read_par_blocks-each-preserved : goal.read_par_blocks-each-preserved
read_par_blocks-each-preserved t c =
    let lt = par_takes c.args.room c.each.reader (c.in_ok-branch.branch, c.read_behind_par.new.reader)
    c.in_ok-branch.ensures in
    let whole = rule.par_blocks (rule.block c.args.room) c.args.reader.now in
    let more = list_more (is_keyword w.Par) (rule.behind_par (rule.block c.args.room)) whole c.each.list.items
    c.each.reader c.in_ok-branch.branch c.read_behind_par.new.reader
    (sym c.sees_keyword.ensures ∙ c.each-test.true) c.in_ok-branch.ensures lt c.each.invariant in
    subst (λ xs. Rest (is_keyword w.Par) (rule.behind_par (rule.block c.args.room)) whole xs
    c.read_behind_par.new.reader) (sym c.in_ok-push-2.ensures.items) more

pub read_par_blocks-returns : goal.read_par_blocks-returns
read_par_blocks-returns t c = list_done (is_keyword w.Par) (rule.behind_par (rule.block c.args.room))
    (rule.par_blocks (rule.block c.args.room) c.args.reader.now) c.each.list.items c.each.reader
    (sym c.sees_keyword.ensures ∙ c.each-test.false) c.each.invariant
    ∙ ap (λ xs. Ok (xs, c.each.reader)) (sym c.whole_list.ensures)

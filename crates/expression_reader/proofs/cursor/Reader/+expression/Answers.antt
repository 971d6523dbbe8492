use Rattle.std.proofs.Common.{sym, ◌∙◌, subst}
use Rattle.grammar.proofs.Lists.{Left, fold_done, fold_more, fold_fails}
use Rattle.grammar.proofs.Steps.{reads_exit}
use Rattle.expression_reader.specs.Refusals.{as_refusal}
use Rattle.expression_reader.specs.Reference as rule
use Rattle.expression_reader.specs.Trees.{applied}
use Rattle.expression_reader.proofs.Items.{term_takes}
use Rattle.expression_reader.proofs.cursor.Reader.+expression.Goals as goal

pub chain-returns-in_err-operator : goal.chain-returns-in_err-operator
chain-returns-in_err-operator t c =
    let item = rule.term (rule.operator c.args.grouping) (rule.between c.args.grouping
    (rule.inside c.args.room)) in
    let whole = rule.chain c.args.grouping (rule.between c.args.grouping (rule.inside c.args.room))
    c.args.self.now in
    reads_exit as_refusal whole _ _ c.in_err-operator.field-0.0 c.from_residual-in_err-operator.ensures.1
    (fold_fails (rule.operates c.args.grouping) item applied as_refusal whole c.terms.left c.terms.self _
    c.in_err-operator.field-0.0 (sym c.sees_operator.ensures ∙ c.terms-test.true)
    c.in_err-operator.ensures c.terms.invariant)

pub chain-terms-smaller : goal.chain-terms-smaller
chain-terms-smaller t c = term_takes c.args.grouping c.args.room c.terms.self
    ((c.in_ok-operator.operator, c.in_ok-operator.right), c.term.new.self) c.in_ok-operator.ensures

pub chain-terms-preserved : goal.chain-terms-preserved
chain-terms-preserved t c =
    let item = rule.term (rule.operator c.args.grouping) (rule.between c.args.grouping
    (rule.inside c.args.room)) in
    let whole = rule.chain c.args.grouping (rule.between c.args.grouping (rule.inside c.args.room))
    c.args.self.now in
    let lt = term_takes c.args.grouping c.args.room c.terms.self
    ((c.in_ok-operator.operator, c.in_ok-operator.right), c.term.new.self) c.in_ok-operator.ensures in
    let more = fold_more (rule.operates c.args.grouping) item applied whole c.terms.left c.terms.self
    (c.in_ok-operator.operator, c.in_ok-operator.right) c.term.new.self
    (sym c.sees_operator.ensures ∙ c.terms-test.true) c.in_ok-operator.ensures lt c.terms.invariant in
    subst (λ e. Left (rule.operates c.args.grouping) item applied whole e c.term.new.self)
    (sym c.in_ok-left-2.ensures) more

pub chain-returns : goal.chain-returns
chain-returns t c =
    let item = rule.term (rule.operator c.args.grouping) (rule.between c.args.grouping
    (rule.inside c.args.room)) in
    let whole = rule.chain c.args.grouping (rule.between c.args.grouping (rule.inside c.args.room))
    c.args.self.now in
    fold_done (rule.operates c.args.grouping) item applied whole c.terms.left c.terms.self
    (sym c.sees_operator.ensures ∙ c.terms-test.false) c.terms.invariant

use Rattle.net_text.specs.Lines.{written}
use Rattle.net_text.proofs.Growing.{grown}
use Rattle.net_text.proofs.expression.write_each.Goals as goal

pub loop-expr-preserved : goal.loop-expr-preserved
loop-expr-preserved c =
    grown written c.args.exprs.now c.loop-expr.expr-index c.expr-item.result c.args.out.now.items
    c.loop-expr.out.items c.write_expression.new.out.items c.loop-expr-test.true c.expr-item.is
    c.loop-expr.invariant c.in_ok-write_expression.ensures

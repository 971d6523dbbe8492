use Rattle.std.proofs.Common.{ap, ◌∙◌, sym, ◌-◌}
use Rattle.net_line.specs.Reading.{times, behind}
use Rattle.net_line.proofs.Loops.{one_more}
use Rattle.record_line.specs.RecordReading.{expressions, line_expression}
use Rattle.record_line.proofs.part.expressions.Goals as goal

pub loop-left-preserved : goal.loop-left-preserved
loop-left-preserved c =
    one_more line_expression (expressions c.args.unread.now) c.loop-left.exprs c.loop-left.left
    c.loop-left.unread c.in_ok-expr.expr c.line_expression.new.unread c.loop-left.invariant
    c.loop-left-test.true c.in_ok-expr.ensures
    ∙ ap (λ xs. behind xs (times (c.loop-left.left - 1) line_expression c.line_expression.new.unread))
    (sym c.in_ok-push.ensures.ok)

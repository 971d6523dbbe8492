use Rattle.std.proofs.Common.{◌≡◌}
use Rattle.net_line.specs.Reading.{times, behind}
use Rattle.record_line.specs.RecordReading.{expressions, line_expression}
use Rattle.record_line.proofs.part.expressions.Given as goal

abbrev pub invariant-loop-left : goal.invariant-loop-left
invariant-loop-left l = expressions l.fn.unread ≡ behind l.exprs (times l.left line_expression l.unread)

abbrev pub decreases-loop-left : goal.decreases-loop-left
decreases-loop-left l = l.left

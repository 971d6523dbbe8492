use Rattle.std.proofs.Common.{◌+◌, ◌*◌}
use Rattle.net_line.proofs.unread.Unread.+expression.Given as goal

abbrev pub decreases-operand : goal.decreases-operand
decreases-operand l = 3 * l.depth

abbrev pub decreases-unary : goal.decreases-unary
decreases-unary l = 3 * l.depth + 1

abbrev pub decreases-binary : goal.decreases-binary
decreases-binary l = 3 * l.depth + 1

abbrev pub decreases-choose : goal.decreases-choose
decreases-choose l = 3 * l.depth + 1

abbrev pub decreases-node : goal.decreases-node
decreases-node l = 3 * l.depth + 2

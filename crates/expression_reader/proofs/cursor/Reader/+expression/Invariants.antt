use Rattle.std.proofs.Common.{length, ◌+◌, ◌*◌}
use Rattle.grammar.proofs.Lists.{Left}
use Rattle.expression_reader.specs.Reference as rule
use Rattle.expression_reader.specs.Trees.{applied}
use Rattle.expression_reader.proofs.Ranks.{rank}
use Rattle.expression_reader.proofs.cursor.Reader.+expression.Given as goal

abbrev pub decreases-inside : goal.decreases-inside
decreases-inside l = 20 * l.room

abbrev pub decreases-operand : goal.decreases-operand
decreases-operand l = 20 * l.room + 1

abbrev pub decreases-negated : goal.decreases-negated
decreases-negated l = 20 * l.room + 2

abbrev pub decreases-negative : goal.decreases-negative
decreases-negative l = 20 * l.room + 2

abbrev pub decreases-factor : goal.decreases-factor
decreases-factor l = 20 * l.room + 3

abbrev pub decreases-between : goal.decreases-between
decreases-between l = 20 * l.room + rank l.grouping

abbrev pub decreases-term : goal.decreases-term
decreases-term l = 20 * l.room + (rank l.grouping + 1)

abbrev pub decreases-chain : goal.decreases-chain
decreases-chain l = 20 * l.room + (rank l.grouping + 2)

abbrev pub decreases-related : goal.decreases-related
decreases-related l = 20 * l.room + 10

abbrev pub decreases-comparison : goal.decreases-comparison
decreases-comparison l = 20 * l.room + 11

abbrev pub decreases-branches : goal.decreases-branches
decreases-branches l = 20 * l.room + 18

abbrev pub decreases-expression : goal.decreases-expression
decreases-expression l = 20 * l.room + 19

abbrev pub invariant-chain-terms : goal.invariant-chain-terms
invariant-chain-terms l = Left (rule.operates l.grouping) (rule.term (rule.operator l.grouping)
    (rule.between l.grouping (rule.inside l.room))) applied (rule.chain l.grouping
    (rule.between l.grouping (rule.inside l.room)) l.fn.self) l.left l.self

abbrev pub decreases-chain-terms : goal.decreases-chain-terms
decreases-chain-terms l = length l.self.rest

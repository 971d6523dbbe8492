use Rattle.std.proofs.Common.{length}
use Rattle.grammar.proofs.Lists.{Rest}
use Rattle.module_reader.specs.Reference as rule
use Rattle.module_reader.proofs.parts.read_parts.Given as goal

abbrev pub invariant-each : goal.invariant-each
invariant-each l = Rest rule.begins_part (rule.part 128) (rule.parts 128 l.fn.reader) l.list.items l.reader

abbrev pub decreases-each : goal.decreases-each
decreases-each l = length l.reader.rest

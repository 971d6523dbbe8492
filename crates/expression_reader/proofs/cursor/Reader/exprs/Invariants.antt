use Rattle.std.proofs.Common.{length}
use Rattle.module_token.specs.declared.punct.Punct.TheVariants as p
use Rattle.grammar.proofs.Lists.{Rest}
use Rattle.expression_reader.specs.Terminals.{is_punct}
use Rattle.expression_reader.specs.Reference as rule
use Rattle.expression_reader.proofs.cursor.Reader.exprs.Given as goal

abbrev pub invariant-each : goal.invariant-each
invariant-each l = Rest (is_punct p.Comma) (rule.behind_comma (rule.outermost l.room))
    (rule.listed (rule.outermost l.room) l.fn.self) l.list.items l.self

abbrev pub decreases-each : goal.decreases-each
decreases-each l = length l.self.rest

use Rattle.std.proofs.Common.{length}
use Rattle.module_token.specs.declared.punct.Punct.TheVariants as p
use Rattle.grammar.proofs.Lists.{Rest}
use Rattle.expression_reader.specs.Terminals.{is_punct}
use Rattle.expression_reader.specs.Reference as part
use Rattle.module_reader.proofs.lists.read_list.Given as goal

abbrev pub invariant-each : goal.invariant-each
invariant-each g l = Rest (is_punct p.Comma) (part.behind_comma g.T.Listed.rule)
    (part.listed g.T.Listed.rule l.fn.reader) l.list.items l.reader

abbrev pub decreases-each : goal.decreases-each
decreases-each g l = length l.reader.rest

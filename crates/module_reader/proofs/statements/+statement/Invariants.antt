use Rattle.std.proofs.Common.{length, ◌+◌, ◌*◌}
use Rattle.hh_base.specs.declared.keyword.Keyword.TheVariants as w
use Rattle.grammar.specs.Parser.{many}
use Rattle.grammar.proofs.Lists.{Rest}
use Rattle.expression_reader.specs.Terminals.{is_keyword, is_in_curly}
use Rattle.module_reader.specs.Reference as rule
use Rattle.module_reader.proofs.statements.+statement.Given as goal

abbrev pub decreases-read_block : goal.decreases-read_block
decreases-read_block l = 7 * l.room

abbrev pub decreases-read_behind_else : goal.decreases-read_behind_else
decreases-read_behind_else l = 7 * l.room + 1

abbrev pub decreases-read_behind_par : goal.decreases-read_behind_par
decreases-read_behind_par l = 7 * l.room + 1

abbrev pub decreases-read_par_blocks : goal.decreases-read_par_blocks
decreases-read_par_blocks l = 7 * l.room + 2

abbrev pub decreases-read_if_else : goal.decreases-read_if_else
decreases-read_if_else l = 7 * l.room + 2

abbrev pub decreases-read_loop : goal.decreases-read_loop
decreases-read_loop l = 7 * l.room + 2

abbrev pub decreases-read_fork : goal.decreases-read_fork
decreases-read_fork l = 7 * l.room + 3

abbrev pub decreases-read_every : goal.decreases-read_every
decreases-read_every l = 7 * l.room + 2

abbrev pub decreases-read_do_every : goal.decreases-read_do_every
decreases-read_do_every l = 7 * l.room + 2

abbrev pub decreases-read_abort : goal.decreases-read_abort
decreases-read_abort l = 7 * l.room + 2

abbrev pub decreases-read_weak_abort : goal.decreases-read_weak_abort
decreases-read_weak_abort l = 7 * l.room + 2

abbrev pub decreases-read_suspend : goal.decreases-read_suspend
decreases-read_suspend l = 7 * l.room + 2

abbrev pub decreases-read_local : goal.decreases-read_local
decreases-read_local l = 7 * l.room + 2

abbrev pub decreases-read_trap : goal.decreases-read_trap
decreases-read_trap l = 7 * l.room + 2

abbrev pub decreases-read_nested : goal.decreases-read_nested
decreases-read_nested l = 7 * l.room + 2

abbrev pub decreases-read_statement_by : goal.decreases-read_statement_by
decreases-read_statement_by l = 7 * l.room + 4

abbrev pub decreases-read_statement : goal.decreases-read_statement
decreases-read_statement l = 7 * l.room + 5

abbrev pub decreases-read_statements : goal.decreases-read_statements
decreases-read_statements l = 7 * l.room + 6

abbrev pub invariant-read_statements-each : goal.invariant-read_statements-each
invariant-read_statements-each l = Rest is_in_curly (rule.statement (rule.block l.room) l.room)
    (many is_in_curly (rule.statement (rule.block l.room) l.room) l.fn.reader) l.list.items l.reader

abbrev pub decreases-read_statements-each : goal.decreases-read_statements-each
decreases-read_statements-each l = length l.reader.rest

abbrev pub invariant-read_par_blocks-each : goal.invariant-read_par_blocks-each
invariant-read_par_blocks-each l = Rest (is_keyword w.Par) (rule.behind_par (rule.block l.room))
    (rule.par_blocks (rule.block l.room) l.fn.reader) l.list.items l.reader

abbrev pub decreases-read_par_blocks-each : goal.decreases-read_par_blocks-each
decreases-read_par_blocks-each l = length l.reader.rest

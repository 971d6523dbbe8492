use Rattle.std.proofs.Common.{sym, ◌∙◌}
use Rattle.net_range.specs.LinesInRange.{lines_in_range}
use Rattle.net_range.proofs.First.{is_first, all_held, all_in_range}
use Rattle.net_range.proofs.range.check_range.Goals as goal

pub returns-in-Ok-clause-range : goal.returns-in-Ok-clause-range
returns-in-Ok-clause-range c =
    all_in_range c.args.nets.now
    (all_held 1 c.in-Ok.field-0 (lines_in_range c.args.nets.now) (sym c.past_lines.ensures ∙ c.in-Ok.is))

pub returns-in-Err-clause-first : goal.returns-in-Err-clause-first
returns-in-Err-clause-first c =
    is_first c.in-Err.line (lines_in_range c.args.nets.now) (sym c.past_lines.ensures ∙ c.in-Err.is)

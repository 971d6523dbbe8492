use Rattle.std.proofs.Common.{sym, ap, ◌∙◌}
use Rattle.net_range.specs.RuledLines.{past}
use Rattle.net_range.proofs.First.{is_first, all_held}
use Rattle.net_kinds.specs.LinesFit.{lines_over, lines_fit}
use Rattle.net_kinds.proofs.AllFit.{all_fit}
use Rattle.net_kinds.proofs.kinds.check_kinds.Goals as goal

pub returns-in-Ok-clause-kinds : goal.returns-in-Ok-clause-kinds
returns-in-Ok-clause-kinds c =
    all_fit c.args.nets.now
    (all_held 1 c.in-Ok.field-0 (lines_fit c.args.nets.now)
    (sym (ap (λ kinds. past 1 (lines_over c.args.nets.now kinds)) c.in_ok-signals.ensures)
    ∙ sym c.past_lines.ensures ∙ c.in-Ok.is))

pub returns-clause-first : goal.returns-clause-first
returns-clause-first c =
    is_first c.in-Err.line (lines_fit c.args.nets.now)
    (sym (ap (λ kinds. past 1 (lines_over c.args.nets.now kinds)) c.in_ok-signals.ensures)
    ∙ sym c.past_lines.ensures ∙ c.in-Err.is)

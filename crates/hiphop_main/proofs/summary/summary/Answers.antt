use Rattle.std.proofs.Common.{◌≡◌, ℕ, IfOk, count_by, length, subst}
use Rattle.std.specs.String.{string_bytes}
use Rattle.hiphop_main.specs.Lines.{lines_of}
use Rattle.hiphop_main.specs.Summary.{is_refusal, summary_line}
use Rattle.hiphop_main.proofs.summary.summary.Goals as goal

pub returns : goal.returns
returns c =
    subst (λ (lines : ℕ). IfOk c.summary_line.result
    (λ t. string_bytes t ≡ summary_line c.args.order.seed c.args.order.size lines (count_by is_refusal (lines_of c.args.text.now)) (length c.args.text.now)))
    c.count_lines-lines.ensures.lines
    (subst (λ (refused : ℕ). IfOk c.summary_line.result
    (λ t. string_bytes t ≡ summary_line c.args.order.seed c.args.order.size c.count_lines-lines.result.lines refused (length c.args.text.now)))
    c.count_lines-lines.ensures.refused c.summary_line.ensures)

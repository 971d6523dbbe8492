use Rattle.net_text.specs.Lines.{body_line}
use Rattle.record_line.specs.RecordForm.{IsBodyForm}
use Rattle.record_line.specs.RecordReading.{body_row, named_body}
use Rattle.record_line.proofs.Rows.{reads_body}
use Rattle.net_line.proofs.Taking.{seen}
use Rattle.record_line.proofs.body.read_body.Goals as goal

pub returns : goal.returns
returns c =
    seen c.body_row.result (λ b. named_body b.0.now b.1) body_row body_line IsBodyForm reads_body
    c.args.unread.now c.body_row.new.unread c.body_row.ensures

use Rattle.scenario_lines.specs.Lines.{parts_of}
use Rattle.scenario_lines.proofs.Forms.{reset_read}
use Rattle.scenario_lines.proofs.read.read_reset.Goals as goal

pub returns : goal.returns
returns c mode signals =
    rw c.then_some.ensures (reset_read mode signals (parts_of c.args.rest.now) c.has_none.result
    c.has_none.ensures)

use Rattle.std.proofs.Common.{◌∙◌, ap}
use Rattle.status_table.specs.Tallies.{joined}
use Rattle.status_table.proofs.Combining.{executed_adds}
use Rattle.status_table.proofs.tally.Tally.add_executed.Goals as goal

pub returns : goal.returns
returns c =
    executed_adds c.args.kind c.args.word c.args.self c.args.cell c.in_ok-must.must c.in_ok-can.can
    c.are_known-known.result c.in_ok-running.running
    c.in_ok-must.ensures c.in_ok-can.ensures c.are_known-known.ensures
    (c.in_ok-running.ensures ∙ ap (joined c.args.word c.args.self.running) c.value_in.ensures)

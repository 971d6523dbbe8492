use Rattle.std.proofs.Common.{◌∙◌}
use Rattle.net_solution.proofs.Rounding.{open_map}
use Rattle.net_solution.proofs.rounds.open_values.Goals as goal

pub returns : goal.returns
returns c = c.open_cells.ensures ∙ open_map c.args.cells.now

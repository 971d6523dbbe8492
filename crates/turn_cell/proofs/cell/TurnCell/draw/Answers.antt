use Rattle.std.proofs.Common.{rules}
use Rattle.turn_cell.proofs.Keeps.{draws}
use Rattle.turn_cell.proofs.cell.TurnCell.draw.Goals as goal

pub fetch_add-requires : goal.fetch_add-requires
fetch_add-requires g c = (c.requires.own, search rules, draws _ _ _ _ _ _ c.requires.outside c.requires.left)

use Rattle.std.proofs.Common.{rules}
use Rattle.turn_cell.proofs.Keeps.{leaves}
use Rattle.turn_cell.proofs.cell.TurnCell.leave.Goals as goal

pub fetch_add-requires : goal.fetch_add-requires
fetch_add-requires g c = (c.requires.own, search rules, leaves _ _ _ _ _ _ c.requires.may)

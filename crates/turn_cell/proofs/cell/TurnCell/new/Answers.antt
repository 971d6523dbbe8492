use Rattle.std.proofs.Common.{rules, ◌≡◌, Some, ◌∷◌, []}
use Rattle.turn_cell.proofs.Shares.{opens}
use Rattle.turn_cell.proofs.cell.TurnCell.new.Goals as goal

pub new-requires : goal.new-requires
new-requires g c =
    let items : c.push.new.self.items ≡ Some c.args.value ∷ [] = search rules in
    rw (c.of-about.ensures, items) (opens _ _ c.args.value c.requires)

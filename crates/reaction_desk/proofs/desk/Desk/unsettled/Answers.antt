use Rattle.std.proofs.Common.{◌≡◌}
use Rattle.reaction_desk.proofs.Opens.{ids_by}
use Rattle.reaction_desk.proofs.desk.Desk.unsettled.Goals as goal

pub returns : goal.returns
returns g c = ids_by (λ v. v.items) _ _ c.args.self.now.logged.stands c.unsettled_in.result c.unsettled_in.ensures

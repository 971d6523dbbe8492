use Rattle.std.proofs.Common.{◌≡◌, ◌∙◌, ap}
use Rattle.std.proofs.Math.Bool.{Bool-set}
use Rattle.std.proofs.Math.Logic.{∥∥₁_elim}
use Rattle.reaction_run.specs.Reacting.{is_settled}
use Rattle.reaction_desk.proofs.desk.Desk.settled.Goals as goal

pub returns : goal.returns
returns g c = ∥∥₁_elim c.args.self.now.logged.stands (Bool-set _ _) (λ is. c.settled.ensures ∙ ap (λ s. is_settled s c.args.id) is)

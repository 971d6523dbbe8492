use Rattle.reaction_run.proofs.Keeping.{reset_stops}
use Rattle.reaction_run.proofs.laws.reset_stops.Goals as goal

pub returns : goal.returns
returns g c = λ M. reset_stops M

use Rattle.reaction_run.proofs.Events.{rises_on}
use Rattle.reaction_run.proofs.laws.stays_rising.Goals as goal

pub returns : goal.returns
returns g c = λ M S events rise. rises_on M events S rise

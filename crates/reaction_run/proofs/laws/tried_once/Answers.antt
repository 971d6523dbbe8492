use Rattle.reaction_run.proofs.Keeping.{tried_once}
use Rattle.reaction_run.proofs.laws.tried_once.Goals as goal

pub returns : goal.returns
returns g c = λ M. tried_once M

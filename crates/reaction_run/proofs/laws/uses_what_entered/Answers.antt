use Rattle.reaction_run.proofs.Using.{uses}
use Rattle.reaction_run.proofs.laws.uses_what_entered.Goals as goal

pub returns : goal.returns
returns g c = λ M one S events id rise. uses M one id events S rise

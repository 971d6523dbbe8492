use Rattle.reaction_run.proofs.Counting.{starts_count}
use Rattle.reaction_run.proofs.laws.starts_count.Goals as goal

pub returns : goal.returns
returns g c = λ M. starts_count M

use Rattle.copy_laws.proofs.Whole.{runs_the_same}
use Rattle.copy_laws.proofs.laws.same_step.Goals as goal

pub returns : goal.returns
returns c = λ K r c d h E F sees. runs_the_same K r c d h E F sees

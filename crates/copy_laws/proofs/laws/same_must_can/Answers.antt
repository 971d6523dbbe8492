use Rattle.copy_laws.proofs.Whole.{does_the_same}
use Rattle.copy_laws.proofs.laws.same_must_can.Goals as goal

pub returns : goal.returns
returns c = λ K r c d h E F sees. does_the_same K r c d h E F sees

use Rattle.term_machine.proofs.Standing.{constructive_uses_one}
use Rattle.term_machine.proofs.laws.uses_one.Goals as goal

pub returns : goal.returns
returns c = constructive_uses_one

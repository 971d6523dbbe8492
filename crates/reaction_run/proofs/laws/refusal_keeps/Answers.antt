use Rattle.reaction_run.proofs.Keeping.{refusal_keeps}
use Rattle.reaction_run.proofs.laws.refusal_keeps.Goals as goal

pub returns : goal.returns
returns g c = λ M. refusal_keeps M

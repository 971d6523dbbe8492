use Rattle.status_table.proofs.Solved.{standing_steps}
use Rattle.status_table.proofs.laws.standing_steps.Goals as goal

pub returns : goal.returns
returns c = standing_steps

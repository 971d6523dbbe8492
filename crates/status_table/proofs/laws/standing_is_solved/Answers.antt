use Rattle.status_table.proofs.Solved.{standing_is_solved}
use Rattle.status_table.proofs.laws.standing_is_solved.Goals as goal

pub returns : goal.returns
returns c = standing_is_solved

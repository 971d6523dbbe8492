use Rattle.net_solution.proofs.Least.{stands_least}
use Rattle.net_solution.proofs.laws.standing_is_least.Goals as goal

pub returns : goal.returns
returns c = stands_least

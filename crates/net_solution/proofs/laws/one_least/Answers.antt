use Rattle.net_solution.proofs.Least.{one_least}
use Rattle.net_solution.proofs.laws.one_least.Goals as goal

pub returns : goal.returns
returns c = one_least

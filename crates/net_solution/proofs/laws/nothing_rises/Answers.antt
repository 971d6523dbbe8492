use Rattle.net_solution.proofs.Least.{nothing_rises}
use Rattle.net_solution.proofs.laws.nothing_rises.Goals as goal

pub returns : goal.returns
returns c = nothing_rises

use Rattle.net_solution.proofs.Least.{rises_on}
use Rattle.net_solution.proofs.laws.steps_rise.Goals as goal

pub returns : goal.returns
returns c = rises_on

use Rattle.net_solution.proofs.Rising.{equations_rise}
use Rattle.net_solution.proofs.laws.equations_rise.Goals as goal

pub returns : goal.returns
returns c = equations_rise

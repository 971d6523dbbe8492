use Rattle.host_expr.proofs.Evaluating.{evaluation_rises}
use Rattle.host_expr.proofs.laws.evaluation_rises.Goals as goal

pub returns : goal.returns
returns c = evaluation_rises

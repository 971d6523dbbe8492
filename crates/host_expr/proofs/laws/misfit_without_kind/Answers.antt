use Rattle.host_expr.proofs.Misfits.{judged_by_kind, misfit_without_kind}
use Rattle.host_expr.proofs.laws.misfit_without_kind.Goals as goal

pub returns-clause-kind : goal.returns-clause-kind
returns-clause-kind c = judged_by_kind

pub returns-clause-misfit : goal.returns-clause-misfit
returns-clause-misfit c = misfit_without_kind

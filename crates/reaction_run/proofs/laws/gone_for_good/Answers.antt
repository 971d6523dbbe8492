use Rattle.reaction_run.proofs.Gone.{gone_stays_gone, gone_is_stale}
use Rattle.reaction_run.proofs.laws.gone_for_good.Goals as goal

pub returns-clause-stays : goal.returns-clause-stays
returns-clause-stays g c = λ M. gone_stays_gone M

pub returns-clause-stale : goal.returns-clause-stale
returns-clause-stale g c = λ M. gone_is_stale M

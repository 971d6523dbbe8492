use Rattle.hh_term.proofs.MustCanLaws.{nothing_is_sure_where_possible}
use Rattle.hh_term.proofs.laws.nothing_sure.Goals as goal

pub returns : goal.returns
returns c = nothing_is_sure_where_possible

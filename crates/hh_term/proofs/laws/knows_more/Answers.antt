use Rattle.hh_term.proofs.MustCanLaws.{must_extends_can_shrinks}
use Rattle.hh_term.proofs.laws.knows_more.Goals as goal

pub returns : goal.returns
returns c = must_extends_can_shrinks

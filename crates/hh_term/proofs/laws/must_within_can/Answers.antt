use Rattle.hh_term.proofs.MustCanLaws.{must_is_within_can}
use Rattle.hh_term.proofs.laws.must_within_can.Goals as goal

pub returns : goal.returns
returns c = must_is_within_can

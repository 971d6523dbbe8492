use Rattle.derived_laws.proofs.CountedAborting.{abort_count_obeys}
use Rattle.derived_laws.proofs.laws.abort_count_rule.Goals as goal

pub returns : goal.returns
returns c = abort_count_obeys

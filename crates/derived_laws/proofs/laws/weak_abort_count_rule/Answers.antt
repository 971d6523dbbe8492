use Rattle.derived_laws.proofs.Counting.{weak_abort_count_obeys}
use Rattle.derived_laws.proofs.laws.weak_abort_count_rule.Goals as goal

pub returns : goal.returns
returns c = weak_abort_count_obeys

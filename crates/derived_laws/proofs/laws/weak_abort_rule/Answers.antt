use Rattle.derived_laws.proofs.Aborting.{weak_abort_obeys}
use Rattle.derived_laws.proofs.laws.weak_abort_rule.Goals as goal

pub returns : goal.returns
returns c = weak_abort_obeys

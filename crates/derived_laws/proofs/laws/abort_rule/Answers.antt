use Rattle.derived_laws.proofs.Aborting.{abort_obeys}
use Rattle.derived_laws.proofs.laws.abort_rule.Goals as goal

pub returns : goal.returns
returns c = abort_obeys

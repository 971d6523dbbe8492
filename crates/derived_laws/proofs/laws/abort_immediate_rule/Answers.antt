use Rattle.derived_laws.proofs.Aborting.{abort_immediate_obeys}
use Rattle.derived_laws.proofs.laws.abort_immediate_rule.Goals as goal

pub returns : goal.returns
returns c = abort_immediate_obeys

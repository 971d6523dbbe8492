use Rattle.derived_laws.proofs.Suspending.{suspend_immediate_obeys}
use Rattle.derived_laws.proofs.laws.suspend_immediate_rule.Goals as goal

pub returns : goal.returns
returns c = suspend_immediate_obeys

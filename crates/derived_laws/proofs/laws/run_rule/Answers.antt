use Rattle.derived_laws.proofs.Running.{run_obeys}
use Rattle.derived_laws.proofs.laws.run_rule.Goals as goal

pub returns : goal.returns
returns c = run_obeys

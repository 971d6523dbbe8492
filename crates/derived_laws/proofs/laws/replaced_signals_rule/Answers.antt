use Rattle.derived_laws.proofs.Running.{replaced_obeys}
use Rattle.derived_laws.proofs.laws.replaced_signals_rule.Goals as goal

pub returns : goal.returns
returns c = replaced_obeys

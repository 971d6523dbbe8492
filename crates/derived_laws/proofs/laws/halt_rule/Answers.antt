use Rattle.derived_laws.proofs.Waiting.{halt_obeys}
use Rattle.derived_laws.proofs.laws.halt_rule.Goals as goal

pub returns : goal.returns
returns c = halt_obeys

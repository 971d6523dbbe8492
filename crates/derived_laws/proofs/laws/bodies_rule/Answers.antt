use Rattle.derived_laws.proofs.BodyRules.{bodies_obey}
use Rattle.derived_laws.proofs.laws.bodies_rule.Goals as goal

pub returns : goal.returns
returns c = bodies_obey

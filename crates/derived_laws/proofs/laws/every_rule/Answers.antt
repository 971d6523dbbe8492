use Rattle.derived_laws.proofs.Every.{every_obeys}
use Rattle.derived_laws.proofs.laws.every_rule.Goals as goal

pub returns : goal.returns
returns c = every_obeys

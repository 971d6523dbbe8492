use Rattle.derived_laws.proofs.Every.{every_immediate_obeys}
use Rattle.derived_laws.proofs.laws.every_immediate_rule.Goals as goal

pub returns : goal.returns
returns c = every_immediate_obeys

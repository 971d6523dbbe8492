use Rattle.derived_laws.proofs.Every.{do_every_obeys}
use Rattle.derived_laws.proofs.laws.do_every_rule.Goals as goal

pub returns : goal.returns
returns c = do_every_obeys

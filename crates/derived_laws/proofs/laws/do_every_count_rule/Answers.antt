use Rattle.derived_laws.proofs.CountedMarks.{do_every_count_obeys}
use Rattle.derived_laws.proofs.laws.do_every_count_rule.Goals as goal

pub returns : goal.returns
returns c = do_every_count_obeys

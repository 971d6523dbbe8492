use Rattle.derived_laws.proofs.CountedMarks.{every_count_obeys}
use Rattle.derived_laws.proofs.laws.every_count_rule.Goals as goal

pub returns : goal.returns
returns c = every_count_obeys

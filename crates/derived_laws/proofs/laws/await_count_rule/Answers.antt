use Rattle.derived_laws.proofs.Turns.{await_count_obeys}
use Rattle.derived_laws.proofs.laws.await_count_rule.Goals as goal

pub returns : goal.returns
returns c = await_count_obeys

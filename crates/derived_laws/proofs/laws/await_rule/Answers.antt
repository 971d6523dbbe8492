use Rattle.derived_laws.proofs.Waiting.{await_obeys}
use Rattle.derived_laws.proofs.laws.await_rule.Goals as goal

pub returns : goal.returns
returns c = await_obeys

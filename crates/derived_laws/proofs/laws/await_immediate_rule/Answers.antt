use Rattle.derived_laws.proofs.Waiting.{await_immediate_obeys}
use Rattle.derived_laws.proofs.laws.await_immediate_rule.Goals as goal

pub returns : goal.returns
returns c = await_immediate_obeys

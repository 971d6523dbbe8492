use Rattle.derived_laws.proofs.Waiting.{sustain_obeys}
use Rattle.derived_laws.proofs.laws.sustain_rule.Goals as goal

pub returns : goal.returns
returns c = sustain_obeys

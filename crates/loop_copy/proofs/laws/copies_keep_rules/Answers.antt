use Rattle.loop_copy.proofs.Rules.{keeps_rules}
use Rattle.loop_copy.proofs.laws.copies_keep_rules.Goals as goal

pub returns : goal.returns
returns c = keeps_rules

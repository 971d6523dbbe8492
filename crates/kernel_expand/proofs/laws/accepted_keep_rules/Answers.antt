use Rattle.kernel_expand.proofs.ProgramRules.{keeps_rules}
use Rattle.kernel_expand.proofs.laws.accepted_keep_rules.Goals as goal

pub returns : goal.returns
returns c = keeps_rules

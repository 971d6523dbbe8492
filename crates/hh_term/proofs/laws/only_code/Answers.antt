use Rattle.hh_term.proofs.OnlyCode.{must_code_is_the_only_code}
use Rattle.hh_term.proofs.laws.only_code.Goals as goal

pub returns : goal.returns
returns c = must_code_is_the_only_code

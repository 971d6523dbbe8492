use Rattle.hh_term.proofs.Stepping.{step_has_the_bag_of_must, step_has_the_code_of_must}
use Rattle.hh_term.proofs.laws.step_is_must.Goals as goal

pub returns-clause-bag : goal.returns-clause-bag
returns-clause-bag c = step_has_the_bag_of_must

pub returns-clause-code : goal.returns-clause-code
returns-clause-code c = step_has_the_code_of_must

use Rattle.hh_term.proofs.Standstill.{two_rounds_stand_still}
use Rattle.hh_term.proofs.Interface.{interface_stands_still}
use Rattle.hh_term.proofs.laws.two_rounds.Goals as goal

pub returns-clause-scope : goal.returns-clause-scope
returns-clause-scope c = two_rounds_stand_still

pub returns-clause-interface : goal.returns-clause-interface
returns-clause-interface c = interface_stands_still

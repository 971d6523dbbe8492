use Rattle.hh_term.proofs.Unplaced.{terms_are_unplaced, programs_are_unplaced}
use Rattle.hh_term.proofs.laws.positions_aside.Goals as goal

pub returns-clause-terms : goal.returns-clause-terms
returns-clause-terms c = terms_are_unplaced

pub returns-clause-programs : goal.returns-clause-programs
returns-clause-programs c = programs_are_unplaced

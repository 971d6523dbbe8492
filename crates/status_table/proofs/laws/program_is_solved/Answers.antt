use Rattle.status_table.proofs.Whole.{program_is_solved}
use Rattle.status_table.proofs.laws.program_is_solved.Goals as goal

pub returns : goal.returns
returns c = program_is_solved

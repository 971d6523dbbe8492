use Rattle.reaction_run.specs.Reacting.{is_settled}
use Rattle.reaction_run.specs.Run.{final_state}
use Rattle.reaction_run.proofs.Events.{rises_on}
use Rattle.reaction_desk.proofs.Opens.{open_rise}
use Rattle.reaction_desk.proofs.laws.unsettled_rise.Goals as goal

pub returns : goal.returns
returns g c = λ M S events rise. let T = final_state M S events in open_rise (is_settled T) 0 T.last T.running (rises_on M events S rise)

use Rattle.std.proofs.Common.{◌+◌, ◌*◌}
use Rattle.hh_term.specs.Views.{statement_of}
use Rattle.last_walk.proofs.Weight.{weight}
use Rattle.last_walk.proofs.walk.+start.Given as goal

abbrev pub decreases-start : goal.decreases-start
decreases-start l = weight (statement_of l.term.now) * 2

abbrev pub decreases-start_part : goal.decreases-start_part
decreases-start_part l = weight (statement_of l.term.now) * 2 + 1

abbrev pub decreases-start_sequence : goal.decreases-start_sequence
decreases-start_sequence l = (weight (statement_of l.p.now) + weight (statement_of l.q.now)) * 2 + 1

abbrev pub decreases-start_fork : goal.decreases-start_fork
decreases-start_fork l = (weight (statement_of l.p.now) + weight (statement_of l.q.now)) * 2 + 1

abbrev pub decreases-start_trap : goal.decreases-start_trap
decreases-start_trap l = weight (statement_of l.p.now) * 2 + 1

abbrev pub decreases-start_scope : goal.decreases-start_scope
decreases-start_scope l = weight (statement_of l.p.now) * 2 + 1

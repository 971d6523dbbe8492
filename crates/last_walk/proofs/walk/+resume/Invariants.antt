use Rattle.std.proofs.Common.{◌+◌, ◌*◌}
use Rattle.hh_term.specs.Views.{statement_of}
use Rattle.last_walk.proofs.Weight.{weight}
use Rattle.last_walk.proofs.walk.+resume.Given as goal

abbrev pub decreases-resume : goal.decreases-resume
decreases-resume l = weight (statement_of l.term.now) * 2

abbrev pub decreases-resume_part : goal.decreases-resume_part
decreases-resume_part l = weight (statement_of l.p.now) * 2 + 1

abbrev pub decreases-resume_left : goal.decreases-resume_left
decreases-resume_left l = weight (statement_of l.p.now) * 2 + 1

abbrev pub decreases-resume_right : goal.decreases-resume_right
decreases-resume_right l = weight (statement_of l.p.now) * 2 + 1

abbrev pub decreases-resume_loop : goal.decreases-resume_loop
decreases-resume_loop l = weight (statement_of l.p.now) * 2 + 1

abbrev pub decreases-resume_trap : goal.decreases-resume_trap
decreases-resume_trap l = weight (statement_of l.p.now) * 2 + 1

abbrev pub decreases-resume_scope : goal.decreases-resume_scope
decreases-resume_scope l = weight (statement_of l.p.now) * 2 + 1

abbrev pub decreases-resume_first : goal.decreases-resume_first
decreases-resume_first l = (weight (statement_of l.p.now) + weight (statement_of l.q.now)) * 2 + 1

abbrev pub decreases-resume_fork : goal.decreases-resume_fork
decreases-resume_fork l = (weight (statement_of l.p.now) + weight (statement_of l.q.now)) * 2 + 1

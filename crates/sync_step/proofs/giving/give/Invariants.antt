use Rattle.std.proofs.Common.{[], take}
use Rattle.hh_term.specs.MustCan.{Table}
use Rattle.last_walk.specs.LastWalk.{Noted}
use Rattle.status_rounds.specs.Given.{given_all}
use Rattle.sync_step.proofs.giving.give.Given as goal

abbrev pub invariant-loop-input : goal.invariant-loop-input
invariant-loop-input l = (T : Table) → Noted T (given_all (take l.input-index l.inputs)) [] [] [] l.initial.pass l.pass

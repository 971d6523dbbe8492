use Rattle.std.proofs.Common.{[], take}
use Rattle.hh_term.specs.MustCan.{Table}
use Rattle.last_walk.specs.LastWalk.{faults_in, Noted}
use Rattle.last_walk.proofs.instance.note_faults.Given as goal

abbrev pub invariant-loop-cell : goal.invariant-loop-cell
invariant-loop-cell l = (T : Table) → Noted T [] [] (faults_in (take l.cell-index l.cells)) [] l.initial.pass l.pass

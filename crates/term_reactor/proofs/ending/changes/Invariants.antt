use Rattle.std.proofs.Common.{◌≡◌, map, take}
use Rattle.hh_term.specs.ProgramView.{kernel_of}
use Rattle.last_walk.specs.LastWalk.{touch_of}
use Rattle.term_machine.specs.ConstructiveMachine.{change_by}
use Rattle.term_reactor.proofs.ending.changes.Given as goal

abbrev pub invariant-loop-touch : goal.invariant-loop-touch
invariant-loop-touch l = l.changes.items ≡ map (change_by (kernel_of l.program)) (map touch_of (take l.touch-index l.touches))

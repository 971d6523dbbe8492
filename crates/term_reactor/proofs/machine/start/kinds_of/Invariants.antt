use Rattle.std.proofs.Common.{◌≡◌, map, take}
use Rattle.hh_term.specs.Views.{body_of}
use Rattle.term_machine.specs.ConstructiveMachine.{body_answers}
use Rattle.term_reactor.proofs.machine.start.kinds_of.Given as goal

abbrev pub invariant-loop-body : goal.invariant-loop-body
invariant-loop-body l = l.kinds.items ≡ map body_answers (map body_of (take l.body-index l.bodies))

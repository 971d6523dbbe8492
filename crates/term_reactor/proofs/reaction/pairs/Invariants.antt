use Rattle.std.proofs.Common.{◌≡◌, map, take}
use Rattle.term_machine.specs.ConstructiveMachine.{input_pair}
use Rattle.term_reactor.proofs.reaction.pairs.Given as goal

abbrev pub invariant-loop-input : goal.invariant-loop-input
invariant-loop-input l = l.pairs.items ≡ map input_pair (take l.input-index l.inputs)

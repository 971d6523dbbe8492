use Rattle.exec_instance.proofs.Batch.{Trying}
use Rattle.exec_instance.proofs.instances.Instances.enter.Given as goal

abbrev pub invariant-loop-answer : goal.invariant-loop-answer
invariant-loop-answer l = Trying l.kinds l.parts l.initial.self l.self l.answer-items l.answer-index l.initial.out.items l.out.items

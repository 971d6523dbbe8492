use Rattle.std.proofs.Common.{◌≡◌, take}
use Rattle.reaction_run.proofs.event.copy_answers.Given as goal

abbrev pub invariant-loop-answer : goal.invariant-loop-answer
invariant-loop-answer l = l.copies.items ≡ take l.answer-index l.answer-items

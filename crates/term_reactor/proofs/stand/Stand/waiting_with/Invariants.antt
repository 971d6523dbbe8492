use Rattle.std.proofs.Common.{◌≡◌, ◌++◌, take}
use Rattle.term_reactor.proofs.stand.Stand.waiting_with.Given as goal

abbrev pub invariant-loop-answer : goal.invariant-loop-answer
invariant-loop-answer l = l.waiting ≡ l.self.pending ++ take l.answer-index l.took

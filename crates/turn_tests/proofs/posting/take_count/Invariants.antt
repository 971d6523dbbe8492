use Rattle.notify_inbox.specs.Calls.{IsTakePassOf}
use Rattle.turn_tests.proofs.posting.take_count.Given as goal

abbrev pub invariant-loop : goal.invariant-loop
invariant-loop g l = IsTakePassOf l.inbox l.pass

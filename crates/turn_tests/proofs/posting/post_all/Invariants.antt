use Rattle.notify_inbox.specs.Calls.{IsPostPassOf}
use Rattle.turn_tests.proofs.posting.post_all.Given as goal

abbrev pub invariant-loop : goal.invariant-loop
invariant-loop g l = IsPostPassOf l.inbox l.pass

use Rattle.notify_inbox.specs.Calls.{IsPostPassOf}
use Rattle.turn_tests.proofs.posting.post_each.Given as goal

abbrev pub invariant-loop-id : goal.invariant-loop-id
invariant-loop-id g l = IsPostPassOf l.inbox l.pass

use Rattle.notify_inbox.proofs.Moves.{learns}
use Rattle.notify_inbox.proofs.passes.Inbox.drain.Goals as goal

pub learn_as-requires-clause-rule : goal.learn_as-requires-clause-rule
learn_as-requires-clause-rule g c = learns _ _ c.args.pass.now.takes

pub learn_as-requires-then-not-take_up_to-clause-rule :
    goal.learn_as-requires-then-not-take_up_to-clause-rule
learn_as-requires-then-not-take_up_to-clause-rule g c = learns _ _ c.take_up_to.new.pass.takes

use Rattle.notify_inbox.proofs.Moves.{takes, learns}
use Rattle.notify_inbox.proofs.passes.Inbox.take_one.Goals as goal

pub pop_as-requires-clause-rule : goal.pop_as-requires-clause-rule
pop_as-requires-clause-rule g c = (takes _ _ c.args.pass.now.takes, learns _ _ c.args.pass.now.takes)

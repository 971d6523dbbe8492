use Rattle.std.proofs.Common.{arith}
use Rattle.notify_inbox.proofs.Moves.{posts, learns_post}
use Rattle.notify_inbox.proofs.passes.Inbox.post.Goals as goal

pub push_as-requires-clause-rule : goal.push_as-requires-clause-rule
push_as-requires-clause-rule g c =
    let one = c.args.pass.now.part in let cap = c.args.self.now.places in
    (posts _ _ _ _ (omega arith) (omega arith), learns_post _ _)

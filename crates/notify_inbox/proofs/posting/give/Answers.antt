use Rattle.std.proofs.Common.{◌≡◌, ◌-◌, ap, arith}
use Rattle.crossbeam_queue.specs.Passes.{view}
use Rattle.notify_inbox.specs.Rule.{parts_of}
use Rattle.notify_inbox.proofs.Moves.{gives}
use Rattle.notify_inbox.proofs.posting.give.Goals as goal

pub another-pass-requires-clause-rule : goal.another-pass-requires-clause-rule
another-pass-requires-clause-rule c =
    let n : (view c.loop.taking).parts ≡ 16 - c.loop.counter = ap parts_of c.loop.invariant.taker in
    let b = c.loop-test.true in let few = c.requires.few in
    gives c.loop.taking.id (view c.loop.taking) (omega arith) (omega arith)

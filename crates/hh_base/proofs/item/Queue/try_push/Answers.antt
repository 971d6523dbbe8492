use Rattle.std.specs.Result.{is_ok}
use Rattle.hh_base.proofs.Queues.{only_end-pushed}
use Rattle.hh_base.proofs.item.Queue.try_push.Goals as goal

pub invariant_of-self : goal.invariant_of-self
invariant_of-self c =
    let before = c.self.inside.items.items in
    let after = c.push_back.new.self.items in
    only_end-pushed (is_ok c.push_back.result) c.args.self.now before after c.args.item c.self.view_is
    c.push_back.ensures.items c.requires c.self.invariant

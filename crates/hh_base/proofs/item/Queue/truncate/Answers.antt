use Rattle.hh_base.proofs.Queues.{only_end-take}
use Rattle.hh_base.proofs.item.Queue.truncate.Goals as goal

pub invariant_of-self : goal.invariant_of-self
invariant_of-self c =
    rw c.truncate.ensures.items (only_end-take c.args.len c.self.inside.items.items c.self.invariant)

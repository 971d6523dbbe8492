use Rattle.std.specs.Prelude.{slice_set}
use Rattle.exec_instance.proofs.Tries.{pushed_at, pushed_rises, pushed_now}
use Rattle.exec_instance.proofs.instances.Instances.put.Goals as goal

pub invariant_of-self : goal.invariant_of-self
invariant_of-self c =
    let p = pushed_at c.args.self.now c.self.inside.last c.self.inside.running.items c.args.answer.now c.args.place c.index_mut.result.now c.push.new.queue c.push.result c.in_ok-item.item c.self.view_is c.self.invariant c.requires c.index_mut.ensures.value c.in_ok-item.ensures c.push.ensures.ok c.push.ensures.err in
    pushed_rises c.self.inside.last c.self.inside.running.items (slice_set c.self.inside.running.items c.args.place (record c.index_mut.result.now { queue = c.push.new.queue })) c.args.answer.now c.push.result c.self.invariant p.0 p.1

pub returns-clause-ok : goal.returns-clause-ok
returns-clause-ok c =
    let p = pushed_at c.args.self.now c.self.inside.last c.self.inside.running.items c.args.answer.now c.args.place c.index_mut.result.now c.push.new.queue c.push.result c.in_ok-item.item c.self.view_is c.self.invariant c.requires c.index_mut.ensures.value c.in_ok-item.ensures c.push.ensures.ok c.push.ensures.err in
    pushed_now c.args.self.now c.self.inside.last c.self.inside.running.items (slice_set c.self.inside.running.items c.args.place (record c.index_mut.result.now { queue = c.push.new.queue })) c.args.answer.now c.push.result c.self.view_is p.0

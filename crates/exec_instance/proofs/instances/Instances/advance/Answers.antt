use Rattle.std.proofs.Common.{arith}
use Rattle.exec_instance.specs.Changes.{found_in}
use Rattle.exec_instance.proofs.Advanced.{advanced_rises, advanced_now, advanced_told}
use Rattle.exec_instance.proofs.instances.Instances.advance.Goals as goal

pub invariant_of-self-2 : goal.invariant_of-self-2
invariant_of-self-2 c =
    advanced_rises (found_in c.in_ok-index.index) c.args.changes.now c.in_ok-index.ensures c.args.self.now c.self.inside.last c.self.inside.running.items c.in_ok-born.born.items c.self.view_is c.in_ok-born.ensures c.reserve.new.self.items c.finish.new.running.items c.len-2.result c.self.invariant c.in_ok-reserve.ensures.items c.finish.ensures (omega arith)

pub returns-clause-ok : goal.returns-clause-ok
returns-clause-ok c =
    advanced_now (found_in c.in_ok-index.index) c.args.changes.now c.in_ok-index.ensures c.args.self.now c.self.inside.last c.self.inside.running.items c.in_ok-born.born.items c.self.view_is c.in_ok-born.ensures c.reserve.new.self.items c.finish.new.running.items c.len-2.result c.in_ok-reserve.ensures.items c.finish.ensures (omega arith)

pub returns-clause-told : goal.returns-clause-told
returns-clause-told c =
    advanced_told (found_in c.in_ok-index.index) c.args.changes.now c.in_ok-index.ensures c.args.self.now c.self.inside.last c.self.inside.running.items c.in_ok-born.born.items c.self.view_is c.in_ok-born.ensures c.args.out.now.items c.append.new.self.items c.in_ok-told.told.items c.add_starts.new.told.items c.deref.result.now c.deref-2.result.now c.in_ok-append.ensures.items c.in_ok-add_starts.ensures c.in_ok-told.ensures c.deref.ensures.value c.deref-2.ensures.value

use Rattle.std.proofs.Common.{refl, ap, get_or, length, drop, take, ◌++◌, arith}
use Rattle.exec_instance.specs.declared.instance.Instance.{Instance}
use Rattle.exec_instance.proofs.Shortening.{shorten_step, written, shortened_rises, shortened_now, same_length}
use Rattle.exec_instance.proofs.instances.Instances.shorten.Goals as goal

pub loop-place-init : goal.loop-place-init
loop-place-init c =
    record {
      cut = refl;
      same = same_length c.args.self.now c.self.inside.last c.args.lengths.now c.self.inside.running.items c.deref_mut-instance-items.result.now c.self.view_is c.requires c.deref_mut-instance-items.ensures.value;
    }

pub invariant_of-self : goal.invariant_of-self
invariant_of-self c =
    shortened_rises c.args.lengths.now c.self.inside.running.items (take c.self.inside.running.len (c.loop-place.instance-items ++ drop (length c.loop-place.instance-items) c.self.inside.running.items)) c.self.inside.last
    (written c.args.lengths.now c.loop-place.place c.self.inside.running.len c.self.inside.running.items c.deref_mut-instance-items.result.now c.loop-place.instance-items (drop (length c.loop-place.instance-items) c.self.inside.running.items) c.loop-place.invariant.cut c.deref_mut-instance-items.ensures.value c.loop-place.invariant.same (omega arith) c.loop-place-test.false (omega arith) c.loop-place.auto.instance-items)
    c.self.invariant

pub loop-place-preserved : goal.loop-place-preserved
loop-place-preserved c =
    record {
      cut = shorten_step c.loop-place.place c.args.lengths.now c.deref_mut-instance-items.result.now c.loop-place.instance-items (get_or c.loop-place.instance-items c.loop-place.place c.instance-item.result) (get_or c.args.lengths.now c.loop-place.place 0) c.truncate.new.self c.loop-place.invariant.cut (omega arith) c.loop-place.invariant.same c.loop-place.auto.instance-items (ap (λ (d : Instance). get_or c.loop-place.instance-items c.loop-place.place d) c.instance-item.is) refl c.truncate.ensures;
      same = c.loop-place.invariant.same;
    }

pub returns : goal.returns
returns c =
    shortened_now c.args.self.now c.self.inside.last c.args.lengths.now c.self.inside.running.items (take c.self.inside.running.len (c.loop-place.instance-items ++ drop (length c.loop-place.instance-items) c.self.inside.running.items)) c.self.view_is
    (written c.args.lengths.now c.loop-place.place c.self.inside.running.len c.self.inside.running.items c.deref_mut-instance-items.result.now c.loop-place.instance-items (drop (length c.loop-place.instance-items) c.self.inside.running.items) c.loop-place.invariant.cut c.deref_mut-instance-items.ensures.value c.loop-place.invariant.same (omega arith) c.loop-place-test.false (omega arith) c.loop-place.auto.instance-items)

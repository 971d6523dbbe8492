use Rattle.exec_instance.specs.declared.instance.Instance.{Instance}
use Rattle.exec_instance.specs.Changes.{found_in}
use Rattle.exec_instance.specs.Effects.{with_change}
use Rattle.exec_instance.proofs.Advancing.{row_step}
use Rattle.exec_instance.proofs.instances.advancing.add_row.Goals as goal

pub loop-instance-preserved : goal.loop-instance-preserved
loop-instance-preserved c =
    row_step c.args.told.now.items c.loop-instance.told.items c.add.new.told.items (λ (i : Instance). with_change c.args.row i (found_in c.args.index.now i.id)) c.args.running.now c.loop-instance.instance-index c.instance-item.result c.in_ok-effect.effect
    c.loop-instance.invariant c.in_ok-effect.ensures c.in_ok-add.ensures c.loop-instance-test.true c.instance-item.is

use Rattle.std.proofs.Common.{◌≡◌, take}
use Rattle.exec_instance.proofs.instances.Instances.copy.Given as goal

abbrev pub invariant-loop-instance : goal.invariant-loop-instance
invariant-loop-instance l = l.running.items ≡ take l.instance-index l.instance-items

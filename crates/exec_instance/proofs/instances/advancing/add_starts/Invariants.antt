use Rattle.std.proofs.Common.{◌≡◌, ◌++◌, map, take}
use Rattle.exec_instance.specs.Effects.{started}
use Rattle.exec_instance.proofs.instances.advancing.add_starts.Given as goal

abbrev pub invariant-loop-instance : goal.invariant-loop-instance
invariant-loop-instance l = l.told.items ≡ l.initial.told.items ++ map started (take l.instance-index l.born)

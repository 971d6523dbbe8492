use Rattle.std.proofs.Common.{◌≡◌, ◌++◌, take}
use Rattle.exec_instance.specs.Changes.{found_in}
use Rattle.exec_instance.specs.Effects.{row_of}
use Rattle.exec_instance.proofs.instances.advancing.add_row.Given as goal

abbrev pub invariant-loop-instance : goal.invariant-loop-instance
invariant-loop-instance l = l.told.items ≡ l.initial.told.items ++ row_of l.row (found_in l.index) (take l.instance-index l.running)

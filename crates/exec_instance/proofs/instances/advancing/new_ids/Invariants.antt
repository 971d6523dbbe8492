use Rattle.std.proofs.Common.{◌≡◌, ◌≤◌, take}
use Rattle.std.specs.Prelude.{count_by}
use Rattle.exec_instance.specs.Effects.{takes_id}
use Rattle.exec_instance.proofs.instances.advancing.new_ids.Given as goal

abbrev pub invariant-loop-change : goal.invariant-loop-change
invariant-loop-change l = record { count : l.new ≡ count_by takes_id (take l.change-index l.changes); small : l.new ≤ l.change-index }

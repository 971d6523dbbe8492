use Rattle.std.proofs.Common.{take}
use Rattle.std.specs.List.{All}
use Rattle.host_hooks.specs.Allowed.{IsCovered}
use Rattle.host_hooks.specs.Stored.{promises_of}
use Rattle.host_hooks.proofs.table.HookTable.covers.Given as goal

abbrev pub invariant-loop-place : goal.invariant-loop-place
invariant-loop-place g l = All (IsCovered (promises_of l.self)) (take l.place l.bodies)

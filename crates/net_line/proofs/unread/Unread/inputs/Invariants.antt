use Rattle.std.proofs.Common.{◌≡◌}
use Rattle.net_line.specs.GateReading.{number, inputs}
use Rattle.net_line.specs.Reading.{times, behind}
use Rattle.net_line.proofs.unread.Unread.inputs.Given as goal

abbrev pub invariant-loop-left : goal.invariant-loop-left
invariant-loop-left l = inputs l.fn.self ≡ behind l.wires (times l.left number l.self)

abbrev pub decreases-loop-left : goal.decreases-loop-left
decreases-loop-left l = l.left

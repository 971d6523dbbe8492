use Rattle.std.proofs.Common.{◌≡◌}
use Rattle.net_line.specs.Decoding.{kind_of}
use Rattle.net_line.specs.GateReading.{number}
use Rattle.net_line.specs.Reading.{part_as, counted, times, behind}
use Rattle.record_line.proofs.part.kinds.Given as goal

abbrev pub invariant-loop-left : goal.invariant-loop-left
invariant-loop-left l =
    counted number (part_as kind_of) l.fn.unread ≡ behind l.kinds (times l.left (part_as kind_of) l.unread)

abbrev pub decreases-loop-left : goal.decreases-loop-left
decreases-loop-left l = l.left

use Rattle.std.proofs.Common.{◌≡◌, codes}
use Rattle.net_line.specs.GateReading.{gate_line_of, register_line_of, section_of}
use Rattle.net_line.specs.Reading.{times, behind}
use Rattle.net_line.proofs.unread.Unread.register_rows.Given as goal

abbrev pub invariant-loop-left : goal.invariant-loop-left
invariant-loop-left l =
    section_of (codes "registers") register_line_of l.fn.self ≡ behind l.registers.items (times l.left
    register_line_of l.self)

abbrev pub decreases-loop-left : goal.decreases-loop-left
decreases-loop-left l = l.left

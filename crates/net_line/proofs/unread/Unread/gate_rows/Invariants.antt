use Rattle.std.proofs.Common.{◌≡◌, codes}
use Rattle.net_line.specs.GateReading.{gate_line_of, register_line_of, section_of}
use Rattle.net_line.specs.Reading.{times, behind}
use Rattle.net_line.proofs.unread.Unread.gate_rows.Given as goal

abbrev pub invariant-loop-left : goal.invariant-loop-left
invariant-loop-left l =
    section_of (codes "gates") (gate_line_of l.parts) l.fn.self ≡ behind l.gates.items (times l.left
    (gate_line_of l.parts) l.self)

abbrev pub decreases-loop-left : goal.decreases-loop-left
decreases-loop-left l = l.left

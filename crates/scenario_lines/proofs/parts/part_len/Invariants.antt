use Rattle.std.proofs.Common.{◌-◌, length}
use Rattle.scenario_lines.proofs.Parting.{IsSeen}
use Rattle.scenario_lines.proofs.parts.part_len.Given as goal

abbrev pub invariant-loop-byte : goal.invariant-loop-byte
invariant-loop-byte l = IsSeen l.fn.line l.place l.len

abbrev pub decreases-loop-byte : goal.decreases-loop-byte
decreases-loop-byte l = length l.fn.line - l.len

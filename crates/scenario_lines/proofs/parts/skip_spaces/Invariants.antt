use Rattle.std.proofs.Common.{◌≡◌, ◌≤◌, length}
use Rattle.scenario_lines.specs.Lines.{parts_of}
use Rattle.scenario_lines.proofs.parts.skip_spaces.Given as goal

abbrev pub invariant-loop-first : goal.invariant-loop-first
invariant-loop-first l = (parts_of l.rest ≡ parts_of l.fn.line) × (length l.rest ≤ length l.fn.line)

abbrev pub decreases-loop-first : goal.decreases-loop-first
decreases-loop-first l = length l.rest

use Rattle.std.proofs.Common.{◌≡◌, ◌++◌, take}
use Rattle.std.specs.List.{flat_map}
use Rattle.net_text.specs.Lines.{gate_line}
use Rattle.net_text.proofs.write.write_each_gate.Given as goal

abbrev pub invariant-loop-gate : goal.invariant-loop-gate
invariant-loop-gate l = l.out.items ≡ l.fn.out.items ++ flat_map gate_line (take l.gate-index l.fn.gates)

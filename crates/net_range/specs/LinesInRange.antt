-- For each line of a net text, whether each place that it names is there. (This project's own.)
use Rattle.std.specs.Prelude.{Bool, true, List, [], ◌∷◌, ◌++◌}
use Rattle.net_list.specs.declared.record.NetRecords.{NetRecords}
use Rattle.net_list.specs.Range.{is_in, signal_in_range, body_in_range, register_in_range, gate_in_range}
use Rattle.net_list.specs.Range.{test_in_range, emit_in_range, exec_in_range}
use Rattle.net_range.specs.RuledLines.{section}

-- the first and the last line name none
abbrev pub lines_in_range : NetRecords → List Bool
lines_in_range N =
    (true ∷ []) ++ section (signal_in_range N) N.signals ++ section body_in_range N.bodies
    ++ section (register_in_range N) N.registers ++ section (gate_in_range N) N.gates
    ++ section (test_in_range N) N.tests ++ section (emit_in_range N) N.emits
    ++ section (exec_in_range N) N.execs ++ (is_in N.gates N.done ∷ true ∷ [])

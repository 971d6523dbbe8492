-- Where the walk comes to the end, kinds fit in all lines.
use Rattle.std.proofs.Common.{◌≡◌, ◌++◌, ◌∷◌, [], List, Bool, true}
use Rattle.net_list.specs.declared.record.NetRecords.{NetRecords}
use Rattle.net_list.specs.Lookup.{kinds_of}
use Rattle.net_list.specs.Kinds.{AllFit, signal_fits, body_fits, test_fits, emit_fits, exec_fits}
use Rattle.net_range.specs.RuledLines.{section, all_true}
use Rattle.net_range.proofs.First.{front, back, each}
use Rattle.net_kinds.specs.LinesFit.{unruled, lines_fit}

pub all_fit : (N : NetRecords) → all_true (lines_fit N) ≡ true → AllFit N
all_fit N h =
    let tested : List Bool = section (test_fits (kinds_of N)) N.tests in
    let emitted : List Bool = section (emit_fits N (kinds_of N)) N.emits in
    let executed : List Bool = section (exec_fits N (kinds_of N)) N.execs in
    let signals : List Bool = (true ∷ []) ++ section signal_fits N.signals in
    let bodies : List Bool = signals ++ section body_fits N.bodies in
    let registers : List Bool = bodies ++ unruled N.registers in
    let gates : List Bool = registers ++ unruled N.gates in
    let tests : List Bool = gates ++ tested in
    let emits : List Bool = tests ++ emitted in
    let execs : List Bool = emits ++ executed in
    let to_execs : all_true execs ≡ true = front execs (true ∷ true ∷ []) h in
    let to_emits : all_true emits ≡ true = front emits executed to_execs in
    let to_tests : all_true tests ≡ true = front tests emitted to_emits in
    let to_gates : all_true gates ≡ true = front gates tested to_tests in
    let to_registers : all_true registers ≡ true = front registers (unruled N.gates) to_gates in
    let to_bodies : all_true bodies ≡ true = front bodies (unruled N.registers) to_registers in
    let to_signals : all_true signals ≡ true = front signals (section body_fits N.bodies) to_bodies in
    record {
      signals = each signal_fits N.signals (back (true ∷ []) (section signal_fits N.signals) to_signals);
      bodies = each body_fits N.bodies (back signals (section body_fits N.bodies) to_bodies);
      tests = each (test_fits (kinds_of N)) N.tests (back gates tested to_tests);
      emits = each (emit_fits N (kinds_of N)) N.emits (back tests emitted to_emits);
      execs = each (exec_fits N (kinds_of N)) N.execs (back emits executed to_execs);
    }

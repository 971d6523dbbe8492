-- The text of nets. (This project's own.)
use Rattle.std.specs.Prelude.{◌≡◌, ℕ, List, ◌++◌, length, codes}
use Rattle.std.specs.List.{flat_map}
use Rattle.net_list.specs.declared.record.NetRecords.{NetRecords}
use Rattle.net_list.specs.IsNets.{IsNets}
use Rattle.net_text.specs.Parts.{line_end, number}
use Rattle.net_text.specs.Lines.{signal_line, body_line, register_line, gate_line, test_line, emit_line}
use Rattle.net_text.specs.Lines.{exec_line}

-- a word and a number on a line of their own
abbrev pub heading : List ℕ → ℕ → List ℕ
heading word n = word ++ number n ++ line_end

-- how many lines there are, and the lines
abbrev pub section : {X : Type 0} → List ℕ → (X → List ℕ) → List X → List ℕ
section word line xs = heading word (length xs) ++ flat_map line xs

-- the sections of what is declared
abbrev pub declarations : NetRecords → List ℕ
declarations N =
    section (codes "signals") signal_line N.signals ++ section (codes "bodies") body_line N.bodies

-- the sections of the circuit
abbrev pub circuit : NetRecords → List ℕ
circuit N =
    section (codes "registers") register_line N.registers ++ section (codes "gates") gate_line N.gates

-- the sections of what its gates stand for
abbrev pub records : ℕ → NetRecords → List ℕ
records version N =
    section (codes "tests") (test_line version) N.tests
    ++ section (codes "emits") (emit_line version) N.emits
    ++ section (codes "execs") (exec_line version) N.execs

-- the text in this version
abbrev pub text_in : ℕ → NetRecords → List ℕ
text_in version N =
    heading (codes "hhnet") version ++ declarations N ++ circuit N ++ records version N
    ++ heading (codes "done") N.done ++ (codes "end" ++ line_end)

-- the bytes are a text of these nets; they have one spelling
pub record IsNetText (text : List ℕ) (N : NetRecords) : Type 0 where
  pub rules : ∥ IsNets N ∥₁
  pub spelled : text ≡ text_in N.version N

-- The nets of a program in which each loop's body stands twice. (After Berry's translation; the gates of the
-- interface are this project's own.)
use Rattle.std.specs.Prelude.{ℕ, suc, true, false, cond, List, [], ◌∷◌, ◌++◌, length, map, take}
use Rattle.hh_term.specs.declared.program.SignalDecl.{SignalDecl}
use Rattle.hh_term.specs.Placed.{PlacedKernel}
use Rattle.net_list.specs.declared.gate.NetGate.{NetGate}
use Rattle.net_list.specs.declared.gate.NetGate.TheVariants as gate
use Rattle.net_list.specs.declared.gate.NetGate.TheVariants.{Not, Or, Reg}
use Rattle.net_list.specs.declared.record.NetEmit.{NetEmit}
use Rattle.net_list.specs.declared.record.NetRecords.{NetRecords}
use Rattle.net_list.specs.Range.{takes_input}
use Rattle.net_block.specs.declared.ends.Controls.{Controls}
use Rattle.net_block.specs.Parts.{up, Parts, From, only_gates, ◌⊕◌, past}
use Rattle.net_block.specs.Written.{written_body}
use Rattle.net_block.specs.Codes.{code_gate, gate_or_zero}
use Rattle.net_block.specs.Block.{Block, block, emitters}

-- the constants, and the boot register, which is 1 in the first reaction alone
abbrev pub first_parts : Parts
first_parts =
    record (only_gates (gate.Zero ∷ gate.One ∷ Reg 0 ∷ Not 2 ∷ [])) {
      registers = (true, 0) ∷ [];
    }

-- an input is 1 where the environment gives it
abbrev pub input_gates : ℕ → SignalDecl → List NetGate
input_gates s d = cond (takes_input d.dir) (gate.Input s ∷ []) []

abbrev pub input_numbers : ℕ → SignalDecl → List ℕ
input_numbers n d = cond (takes_input d.dir) (n ∷ []) []

-- how many gates an interface signal has
abbrev pub interface_gates : ℕ → SignalDecl → ℕ
interface_gates s d = up 2 (length (input_gates s d))

-- interface signal s: it is emitted where it is given or one of these emissions is made
abbrev pub interface_signal : ℕ → SignalDecl → From → List NetEmit → Parts
interface_signal s d n es =
    let status = up (length (input_gates s d)) n.gate in
    record (only_gates (input_gates s d ++
    (Or (input_numbers n.gate d ++ emitters s es) ∷ Reg n.register ∷ []))) {
      registers = (false, status) ∷ [];
      signals = record { decl = d; status = status; pre = up 1 status; sel = 1 } ∷ [];
    }

-- interface signals from number s on
abbrev pub interface_signals : ℕ → List SignalDecl → From → List NetEmit → Parts
interface_signals s [] n es = only_gates []
interface_signals s (d ∷ ds) n es =
    interface_signal s d n es ⊕ interface_signals (suc s) ds (past (interface_gates s d) 1 0 n) es

-- the numbers behind them
abbrev pub behind_interface : ℕ → List SignalDecl → From → From
behind_interface s [] n = n
behind_interface s (d ∷ ds) n = behind_interface (suc s) ds (past (interface_gates s d) 1 0 n)

abbrev pub first_numbers : From
first_numbers = past 4 1 0 (record { gate = 0; register = 0; test = 0 })

-- the boot register starts the statement, and resumes it in each later reaction; nothing suspends or kills it
abbrev pub outer_wires : Controls
outer_wires = record { go = 2; resume = 3; suspend = 0; kill = 0 }

abbrev pub interface_decls : PlacedKernel → List SignalDecl
interface_decls K = take K.interface K.signals

abbrev pub statement_block : PlacedKernel → Block
statement_block K = block K K.statement (behind_interface 0 (interface_decls K) first_numbers) outer_wires

abbrev pub nets_of : PlacedKernel → NetRecords
nets_of K =
    let b = statement_block K in
    let interface = interface_signals 0 (interface_decls K) first_numbers b.parts.emits in
    let parts = first_parts ⊕ (interface ⊕ b.parts) in
    record {
      version = 2;
      signals = parts.signals;
      bodies = map written_body K.bodies;
      registers = parts.registers;
      gates = parts.gates;
      tests = parts.tests;
      emits = parts.emits;
      execs = parts.execs;
      done = gate_or_zero (code_gate b.codes 0);
    }

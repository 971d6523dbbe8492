-- Gates and records, one list behind the other. (This project's own.)
use Rattle.std.specs.Prelude.{ℕ, zero, suc, Bool, List, [], ◌++◌, length}
use Rattle.net_list.specs.declared.gate.NetGate.{NetGate}
use Rattle.net_list.specs.declared.record.NetSignal.{NetSignal}
use Rattle.net_list.specs.declared.record.NetTest.{NetTest}
use Rattle.net_list.specs.declared.record.NetEmit.{NetEmit}
use Rattle.net_list.specs.declared.record.NetExec.{NetExec}

-- the k-th number after n, by computing
abbrev pub up : ℕ → ℕ → ℕ
up zero n = n
up (suc k) n = suc (up k n)

-- what a part of a program adds to nets; a register has its first state and the gate of its next one
pub record Parts : Type 0 where
  pub gates : List NetGate
  pub registers : List (Bool × ℕ)
  pub tests : List NetTest
  pub emits : List NetEmit
  pub execs : List NetExec
  pub signals : List NetSignal

abbrev pub only_gates : List NetGate → Parts
only_gates gs = record { gates = gs; registers = []; tests = []; emits = []; execs = []; signals = [] }

infixr 20 ◌⊕◌
-- the first, and the second behind it
abbrev pub ◌⊕◌ : Parts → Parts → Parts
a ⊕ b =
    record {
      gates = a.gates ++ b.gates;
      registers = a.registers ++ b.registers;
      tests = a.tests ++ b.tests;
      emits = a.emits ++ b.emits;
      execs = a.execs ++ b.execs;
      signals = a.signals ++ b.signals;
    }

-- the numbers from which gates, registers and tests are made
pub record From : Type 0 where
  pub gate : ℕ
  pub register : ℕ
  pub test : ℕ

-- those behind so many
abbrev pub past : ℕ → ℕ → ℕ → From → From
past gates registers tests n =
    record { gate = up gates n.gate; register = up registers n.register; test = up tests n.test }

abbrev pub behind : Parts → From → From
behind a n = past (length a.gates) (length a.registers) (length a.tests) n

-- What is in scope at a place of a module, from the innermost declaration outward. The same in a tree as it
-- is written and in one whose names are resolved, since declarations keep their names. (Block structure, as
-- in Algol 60.)
use Rattle.std.specs.Prelude.{ℕ, ◌+◌, ◌==◌, Option, List, [], ◌∷◌, ◌++◌}
use Rattle.std.specs.List.{find}
use Rattle.hh_base.specs.declared.value.Dir.{Dir}
use Rattle.hh_base.specs.declared.value.Dir.TheVariants as dir
use Rattle.module_tree.specs.declared.source.SignalNode.{SignalNode}
use Rattle.module_tree.specs.declared.source.InterfaceNode.{InterfaceNode}

-- a signal of a module: its place among all signals of the module, its direction and its declaration
pub record Signal : Type 0 where
  pub place : ℕ
  pub dir : Dir
  pub signal : SignalNode

-- a trap of a module: its place among all traps of the module, and its name
pub record TrapName : Type 0 where
  pub place : ℕ
  pub name : List ℕ

-- from the innermost outward
pub record InScope : Type 0 where
  pub signals : List Signal
  pub traps : List TrapName

-- how many signals and traps of the module are declared before a place of the text
pub record Declared : Type 0 where
  pub signals : ℕ
  pub traps : ℕ

-- the signals of a `signal` list, the first of which has this place
abbrev pub local_signals : ℕ → List SignalNode → List Signal
local_signals n [] = []
local_signals n (s ∷ others) = record { place = n; dir = dir.Local; signal = s }
    ∷ local_signals (n + 1) others

abbrev pub interface_from : ℕ → List InterfaceNode → List Signal
interface_from n [] = []
interface_from n (d ∷ others) = record { place = n; dir = d.dir; signal = d.signal }
    ∷ interface_from (n + 1) others

-- the signals of an interface, in order
abbrev pub interface_signals : List InterfaceNode → List Signal
interface_signals = interface_from 0

-- in the block behind a `signal` list its signals are in scope, before those around it
abbrev pub with_signals : ℕ → List SignalNode → InScope → InScope
with_signals n signals scope = record {
  signals = local_signals n signals ++ scope.signals;
  traps =
      scope.traps;
}

abbrev pub with_trap : ℕ → List ℕ → InScope → InScope
with_trap n name scope = record {
  signals = scope.signals;
  traps = record { place = n; name = name }
      ∷ scope.traps;
}

-- the signal in scope that has this place
abbrev pub signal_at : InScope → ℕ → Option Signal
signal_at scope place = find (λ (s : Signal). s.place == place) scope.signals

-- the trap in scope that has this place
abbrev pub trap_at : InScope → ℕ → Option TrapName
trap_at scope place = find (λ (t : TrapName). t.place == place) scope.traps

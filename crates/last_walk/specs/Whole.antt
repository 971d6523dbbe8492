-- How the values of the code stand for what a whole program does, in which all is decided that it meets, and
-- for where the last walk begins. (This project's own.)
use Rattle.std.specs.Prelude.{◌≡◌, ℕ, Option, Some, None, List, [], length, slice_get}
use Rattle.host_expr.specs.declared.cell.Cells.{Cells}
use Rattle.hh_term.specs.MustCan.{Table}
use Rattle.hh_term.specs.Reaction.{Ran}
use Rattle.last_walk.specs.declared.completion.Completion.{Completion}
use Rattle.last_walk.specs.declared.last_pass.Emitted.{Emitted}
use Rattle.last_walk.specs.declared.last_pass.LastPass.{LastPass}
use Rattle.last_walk.specs.declared.whole.Ran.{Ran as ARan}
use Rattle.last_walk.specs.LastWalk.{selection_at, Counts, Noted}

-- what a program did from how its statement completes
abbrev pub RanBy : Option Completion → Option ARan → Type 0
RanBy (Some x) (Some end) = (end.code ≡ Some x.code) × (end.next ≡ x.next)
RanBy None None = Unit {0}
RanBy _ _ = ⊥

-- the program did this
pub record RanAs (T : Table) (a : Ran) (end : ARan) (before after : LastPass) : Type 0 where
  pub code : end.code ≡ a.code
  pub next : selection_at end.next ≡ a.stepped.next
  pub noted : Noted T a.stepped.bag a.stepped.touches a.stepped.faults a.stepped.doubled before after

-- or what it does is undefined
abbrev pub Runs : Table → Option Ran → Option ARan → LastPass → LastPass → Type 0
Runs T (Some a) (Some end) before after = RanAs T a end before after
Runs T None None before after = Unit {0}
Runs T _ _ before after = ⊥

-- so many signals, none of which has an emission
pub record NoEmissions (count : ℕ) (emitted : List Emitted) : Type 0 where
  pub len : length emitted ≡ count
  pub none : (s : ℕ) (x : Emitted) → slice_get emitted s ≡ Some x → Counts x []

-- the signals have these cells, and nothing is noted so far
pub record Begun (given : Cells) (pass : LastPass) : Type 0 where
  pub cells : pass.cells ≡ given
  pub emitted : NoEmissions (length given.signals.items) pass.emitted.items
  pub touches : pass.touches.items ≡ []
  pub fault : pass.fault ≡ None
  pub doubled : pass.doubled ≡ None

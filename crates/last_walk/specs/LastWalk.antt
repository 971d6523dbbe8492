-- How the values of the code stand for the last walk over a statement, in which all is decided that it meets.
-- (This project's own.)
use Rattle.std.specs.Prelude.{◌≡◌, ℕ, ◌+◌, ◌*◌, Bool, true, false, cond, ◌==◌, ◌&&◌, ◌<◌, ◌≤◌, min, max}
use Rattle.std.specs.Prelude.{Option, Some, None, List, []}
use Rattle.std.specs.Prelude.{◌∷◌, ◌++◌, ℤ, ◌+ℤ◌, length, map, take, drop, slice_get, slice_set}
use Rattle.hh_base.specs.declared.value.Pos.{Pos}
use Rattle.hh_base.specs.declared.value.Kind.{Kind}
use Rattle.hh_base.specs.declared.value.Value.{Value}
use Rattle.hh_base.specs.declared.value.FaultKind.{FaultKind}
use Rattle.host_expr.specs.declared.cell.Cell.{Cell}
use Rattle.host_expr.specs.declared.cell.Cell.TheVariants as cell
use Rattle.host_expr.specs.declared.cell.SigCell.{SigCell}
use Rattle.host_expr.specs.Combination.{counts_as, numbers_in, whole_sum}
use Rattle.host_expr.specs.Environment.{env_of, is_decided, is_known}
use Rattle.host_expr.specs.Evaluation.{truth}
use Rattle.hh_term.specs.declared.mark.Mark.{Mark}
use Rattle.hh_term.specs.Statement.{Statement}
use Rattle.hh_term.specs.Selection.{Selection, First, Second, Inside, Task}
use Rattle.hh_term.specs.Views.{selection_of}
use Rattle.hh_term.specs.MustCan.{Table, Bag, cells_of, lower}
use Rattle.hh_term.specs.Reaction.{fault_rank}
use Rattle.hh_term.specs.Step.{Stepped, rests, mark_map, both_marks, doubled_by, overflow_by}
use Rattle.hh_term.specs.Step.{scope_mark, wrap}
use Rattle.hh_term.specs.Touches.{Touch, stopped, held_mark, held_touches}
use Rattle.status_table.specs.Flat.{Cells}
use Rattle.status_table.specs.FlatStep.{flat_step}
use Rattle.status_table.specs.Walking.{Fits}
use Rattle.last_walk.specs.declared.touch.Touch.{Touch as ATouch}
use Rattle.last_walk.specs.declared.last_pass.Emitted.{Emitted}
use Rattle.last_walk.specs.declared.last_pass.LastPass.{LastPass}
use Rattle.last_walk.specs.declared.completion.Completion.{Completion}
use Rattle.last_walk.specs.declared.completion.Part.{Part}
use Rattle.last_walk.specs.declared.completion.Part.TheVariants as part
use Rattle.last_walk.specs.declared.last_pass.Outer.{Outer}

abbrev pub touch_of : ATouch → Touch
touch_of t =
    record {
      site = t.site;
      id = t.id;
      started = t.started;
      used = t.used;
      ended = t.ended;
      held = t.held;
      resumed = t.resumed;
      runs_after = t.runs_after;
    }

abbrev pub nothing_touched : ℕ → ℕ → Touch
nothing_touched n id =
    record {
      site = n;
      id = id;
      started = None;
      used = false;
      ended = false;
      held = false;
      resumed = false;
      runs_after = false;
    }

abbrev pub rest_of : {A : Type 0} → List A → List A
rest_of [] = []
rest_of (a ∷ rest) = rest

abbrev pub selection_at : Option Mark → Option Selection
selection_at (Some m) = Some (selection_of m)
selection_at None = None

-- ---- emissions: how many there are of each signal, and the sum of their numbers

abbrev pub sum_of : Kind → List Cell → ℤ
sum_of k cells = whole_sum (numbers_in (map (counts_as k) cells))

pub record Adds (k : Kind) (cells : List Cell) (before after : Emitted) : Type 0 where
  pub count : after.count ≡ before.count + length cells
  pub sum : after.sum ≡ before.sum +ℤ sum_of k cells

pub record EmittedMore (T : Table) (bag : Bag) (before after : List Emitted) : Type 0 where
  pub len : length after ≡ length before
  pub adds : (s : ℕ) (x : Emitted) → slice_get before s ≡ Some x →
      (y : Emitted) × (slice_get after s ≡ Some y) × Adds (T.kind s) (cells_of s bag) x y

-- the emissions of one signal
pub record Counts (emitted : Emitted) (values : List Value) : Type 0 where
  pub count : emitted.count ≡ length values
  pub sum : emitted.sum ≡ whole_sum (numbers_in values)

-- ---- the least of faults and of doubled signals, by where they stand

abbrev pub lesser : Option ℕ → ℕ → Option ℕ
lesser None n = Some n
lesser (Some m) n = Some (min m n)

abbrev pub least : Option ℕ → List ℕ → Option ℕ
least m [] = m
least m (n ∷ ns) = least (lesser m n) ns

-- faults by position, there by kind
abbrev pub fault_place : Pos × FaultKind → ℕ
fault_place f = f.0.0 * 3 + fault_rank f.1

abbrev pub place_of_fault : Option (Pos × FaultKind) → Option ℕ
place_of_fault (Some f) = Some (fault_place f)
place_of_fault None = None

abbrev pub signal_place : Table → ℕ → ℕ
signal_place T s = (T.position s).0

abbrev pub place_of_signal : Table → Option ℕ → Option ℕ
place_of_signal T (Some s) = Some (signal_place T s)
place_of_signal T None = None

-- ---- what a walk notes

pub record Noted (T : Table) (bag : Bag) (ts : List Touch) (faults : List (Pos × FaultKind)) (several : List ℕ)
    (before after : LastPass) : Type 0 where
  pub signals : after.cells.signals.items ≡ before.cells.signals.items
  pub args : after.cells.args.items ≡ before.cells.args.items
  pub emitted : EmittedMore T bag before.emitted.items after.emitted.items
  pub touches : map touch_of after.touches.items ≡ map touch_of before.touches.items ++ ts
  pub fault : place_of_fault after.fault ≡ least (place_of_fault before.fault) (map fault_place faults)
  pub doubled : place_of_signal T after.doubled
      ≡ least (place_of_signal T before.doubled) (map (signal_place T) several)

-- a walk made this step, and completed as it does
pub record Done (T : Table) (a : Stepped) (end : Completion) (before after : LastPass) : Type 0 where
  pub code : end.code ≡ a.code
  pub next : selection_at end.next ≡ a.next
  pub noted : Noted T a.bag a.touches a.faults a.doubled before after

-- or the step is undefined
abbrev pub Did : Table → Option Stepped → Option Completion → LastPass → LastPass → Type 0
Did T (Some a) (Some end) before after = Done T a end before after
Did T None None before after = Unit {0}
Did T _ _ before after = ⊥

abbrev pub Walked : Table → Cells → Statement → ℕ → ℕ → Task → Option Completion → LastPass → LastPass → Type 0
Walked T τ p d l t end before after =
    Did T (flat_step T τ p d l t (env_of before.cells.signals.items)) end before after

abbrev pub in_part : Part → Selection → Selection
in_part part.First = First
in_part part.Second = Second
in_part part.Inside = Inside

-- the same completion, its mark in a greater one
abbrev pub Wrapped : (Selection → Selection) → Option Completion → Option Completion → Type 0
Wrapped f (Some a) (Some b) = (b.code ≡ a.code) × (selection_at b.next ≡ mark_map f (selection_at a.next))
Wrapped f None None = Unit {0}
Wrapped f _ _ = ⊥

abbrev pub ends_at : Option Completion → Bool
ends_at (Some a) = a.code == 0
ends_at None = false

-- a trap lowers the code
abbrev pub Trapped : Option Completion → Option Completion → Type 0
Trapped (Some a) (Some b) =
    (b.code ≡ lower a.code) × (selection_at b.next ≡ mark_map Inside (selection_at a.next))
Trapped None None = Unit {0}
Trapped _ _ = ⊥

-- the faults of cells
abbrev pub fault_in : Cell → List (Pos × FaultKind)
fault_in (cell.Faulted at k) = (at, k) ∷ []
fault_in _ = []

abbrev pub faults_in : List Cell → List (Pos × FaultKind)
faults_in [] = []
faults_in (c ∷ cs) = fault_in c ++ faults_in cs

-- a test: whether it holds, where it is known; a fault counts as not holding
abbrev pub verdict : Cell → Option Bool
verdict cell.Unknown = None
verdict (cell.Known v) = Some (truth v)
verdict (cell.Faulted _ _) = Some false

pub record Tested (T : Table) (c : Cell) (holds : Option Bool) (before after : LastPass) : Type 0 where
  pub is : holds ≡ verdict c
  pub noted : Noted T [] [] (fault_in c) [] before after

-- what a held statement does
abbrev pub held_step : Statement → Selection → Stepped
held_step p m = rests (Inside (held_mark m)) (held_touches p m)

-- the touches from the place n on are of instances that do not run after
abbrev pub stopped_from : ℕ → List Touch → List Touch
stopped_from n ts = take n ts ++ map stopped (drop n ts)

-- two parts complete together, their touches beginning at the place n
pub record Beside (n : ℕ) (a b end : Completion) (before after : LastPass) : Type 0 where
  pub code : end.code ≡ max a.code b.code
  pub next : selection_at end.next
      ≡ cond (end.code == 1) (both_marks (selection_at a.next) (selection_at b.next)) None
  pub same : after ≡ record before { touches = after.touches }
  pub touched : map touch_of after.touches.items
      ≡ cond (end.code == 1) (map touch_of before.touches.items)
      (stopped_from n (map touch_of before.touches.items))

-- a scope was entered: its signal has this cell and no emission so far, and what it had is kept
pub record Entered (s : ℕ) (c : SigCell) (outer : Outer) (before after : LastPass) : Type 0 where
  pub signals : after.cells.signals.items ≡ slice_set before.cells.signals.items s c
  pub args : after.cells.args.items ≡ before.cells.args.items
  pub cell : slice_get before.cells.signals.items s ≡ Some outer.cell
  pub fresh : Emitted
  pub none : Counts fresh []
  pub emitted : after.emitted.items ≡ slice_set before.emitted.items s fresh
  pub emissions : slice_get before.emitted.items s ≡ Some outer.emitted
  pub touches : after.touches.items ≡ before.touches.items
  pub fault : after.fault ≡ before.fault
  pub doubled : after.doubled ≡ before.doubled

-- what is wrong with the emissions of a signal is noted
pub record Judged (T : Table) (s : ℕ) (emitted : Emitted) (before after : LastPass) : Type 0 where
  pub fault : (vs : List Value) → Counts emitted vs
      → place_of_fault after.fault ≡ least (place_of_fault before.fault) (map fault_place (overflow_by T s vs))
  pub doubled : (vs : List Value) → Counts emitted vs → place_of_signal T after.doubled
      ≡ least (place_of_signal T before.doubled) (map (signal_place T) (doubled_by T s vs))

-- a scope was left, in which its signal had this cell
pub record Left (T : Table) (s : ℕ) (outer : Outer) (cell : SigCell) (before after : LastPass) : Type 0 where
  pub signals : after.cells.signals.items ≡ slice_set before.cells.signals.items s outer.cell
  pub args : after.cells.args.items ≡ before.cells.args.items
  pub here : slice_get before.cells.signals.items s ≡ Some cell
  pub emitted : after.emitted.items ≡ slice_set before.emitted.items s outer.emitted
  pub inner : Emitted
  pub emissions : slice_get before.emitted.items s ≡ Some inner
  pub touches : after.touches.items ≡ before.touches.items
  pub judged : Judged T s inner before after

-- ---- a part of a statement, and the scope of a local signal

-- what a walk over a statement asks for
pub record Asks (levels signals d : ℕ) (p : Statement) (pass : LastPass) : Type 0 where
  pub fits : Fits (length pass.cells.signals.items) levels d p
  pub emitted : length pass.emitted.items ≡ length pass.cells.signals.items
  pub args : pass.cells.args.items ≡ []
  pub declared : length pass.cells.signals.items ≤ signals
  pub depth : d < levels

-- a walk over the only part that runs: its mark is in that of the whole
abbrev pub WalkedIn : Part → Table → Cells → Statement → ℕ → ℕ → Task → Option Completion →
    LastPass → LastPass → Type 0
WalkedIn part T τ p d l t end before after =
    Did T (wrap (in_part part) (flat_step T τ p d l t (env_of before.cells.signals.items))) end before after

-- a scope is entered where the cell of its signal is decided and known
abbrev pub MayEnter : ℕ → SigCell → Option Outer → LastPass → LastPass → Type 0
MayEnter s c (Some outer) before after =
    ((is_decided c.status && is_known c.value) ≡ true) × Entered s c outer before after
MayEnter s c None before after = (is_decided c.status && is_known c.value) ≡ false

-- a scope was left, and completes as its body did, with the signal's cell in its mark
pub record Closed (T : Table) (s : ℕ) (outer : Outer) (body end : Completion)
    (before after : LastPass) : Type 0 where
  pub cell : SigCell
  pub left : Left T s outer cell before after
  pub code : end.code ≡ body.code
  pub next : selection_at end.next ≡ mark_map (scope_mark cell) (selection_at body.next)

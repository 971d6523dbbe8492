-- How the values of the code stand for a walk of a round over a statement. (This project's own.)
use Rattle.std.specs.Prelude.{◌≡◌, ◌≢◌, ℕ, suc, ◌<◌, Bool, true, false, cond, Option, Some, None, List, []}
use Rattle.std.specs.Prelude.{◌∷◌}
use Rattle.std.specs.Prelude.{◌++◌, length}
use Rattle.hh_base.specs.declared.value.Tri.{Tri}
use Rattle.hh_base.specs.declared.value.Tri.TheVariants.{Unknown}
use Rattle.host_expr.specs.declared.cell.Cell.{Cell}
use Rattle.host_expr.specs.declared.cell.Cell.TheVariants as cell
use Rattle.host_expr.specs.Environment.{Env, env_of}
use Rattle.host_expr.specs.Evaluation.{truth}
use Rattle.hh_term.specs.Statement.{Statement, If, Suspend, Seq, Par, Loop, Trap, Local}
use Rattle.hh_term.specs.Selection.{Task}
use Rattle.hh_term.specs.MustCan.{Table, MustCan, Bag, Index, Executed, Possible, cells_of, answer_bag}
use Rattle.hh_term.specs.MustCan.{answer_code}
use Rattle.hh_base.specs.declared.item.Item.{Item}
use Rattle.hh_term.specs.Flags.{Agrees}
use Rattle.status_table.specs.declared.tally.Tally.{Tally}
use Rattle.status_table.specs.declared.tally.Known.{Known}
use Rattle.status_table.specs.declared.state.Raise.{Raise}
use Rattle.status_table.specs.declared.state.Pass.{Pass}
use Rattle.status_table.specs.declared.walk.Verdict.{Verdict}
use Rattle.status_table.specs.declared.walk.Verdict.TheVariants as test
use Rattle.status_table.specs.Tallies.{Adds, tally_of}
use Rattle.status_table.specs.Flat.{Cells, flat}
use Rattle.status_table.specs.declared.state.Outer.{Outer}
use Rattle.host_expr.specs.declared.cell.SigCell.{SigCell}
use Rattle.hh_base.specs.declared.value.Kind.{Kind}
use Rattle.hh_base.specs.declared.value.CombineWord.{CombineWord}
use Rattle.hh_term.specs.MustCan.{status_by, value_by}
use Rattle.std.specs.Prelude.{◌⊎◌, slice_set, slice_get}
use Rattle.status_table.specs.Standing.{Stands}
use Rattle.status_table.specs.Putting.{Puts}

-- what the table of the code says of a signal at a level: nothing is known past its ends
abbrev pub of_known : Option Known → Tri × Cell
of_known (Some k) = (k.status, k.value)
of_known None = (Unknown, cell.Unknown)

abbrev pub in_row : Option (List Known) → ℕ → Tri × Cell
in_row (Some row) s = of_known (slice_get row s)
in_row None s = (Unknown, cell.Unknown)

abbrev pub index_of : Bool → Index
index_of true = Executed
index_of false = Possible

-- the code of a statement that completes with it, where it is known to be executed
abbrev pub code_of : ℕ → Bool → Option ℕ
code_of k true = Some k
code_of k false = None

-- a fault counts as not holding
abbrev pub tested : Cell → Verdict
tested cell.Unknown = test.Undecided
tested (cell.Known v) = cond (truth v) test.Holds test.Fails
tested (cell.Faulted _ _) = test.Fails

-- the locals of the statement are below `signals`, and loops round its parts number less than `levels`, d
-- being round it
abbrev pub Fits : ℕ → ℕ → ℕ → Statement → Type 0
Fits signals levels d (If e p q) = Fits signals levels d p × Fits signals levels d q
Fits signals levels d (Suspend e p) = Fits signals levels d p
Fits signals levels d (Seq p q) = Fits signals levels d p × Fits signals levels d q
Fits signals levels d (Par p q) = Fits signals levels d p × Fits signals levels d q
Fits signals levels d (Loop p) = (suc d < levels) × Fits signals levels (suc d) p
Fits signals levels d (Trap p) = Fits signals levels d p
Fits signals levels d (Local s p) = (s < signals) × Fits signals levels d p
Fits signals levels d _ = Unit {0}

-- each of these raises is one that a round puts
abbrev pub AllPut : (ℕ → ℕ → Tri × Cell → Type 0) → List Raise → Type 0
AllPut Q [] = Unit {0}
AllPut Q (r ∷ rs) = Q r.signal r.level (r.known.status, r.known.value) × AllPut Q rs

abbrev pub tally_in : List Tally → ℕ → Tally → Type 0
tally_in tallies s t = slice_get tallies s ≡ Some t

-- the tally of each signal has these emissions more
pub record Tallied (T : Table) (a : MustCan) (before after : List Tally) : Type 0 where
  pub count : length after ≡ length before
  pub adds : (s : ℕ) (t : Tally) → slice_get before s ≡ Some t →
      (u : Tally) × (slice_get after s ≡ Some u) × Adds (T.kind s) (T.word s) t u (cells_of s a.must)
      (cells_of s a.can)

-- these emissions were counted, and nothing else changed
pub record Counted (T : Table) (a : MustCan) (before after : Pass) : Type 0 where
  pub signals : after.cells.signals.items ≡ before.cells.signals.items
  pub args : after.cells.args.items ≡ before.cells.args.items
  pub tallies : Tallied T a before.tallies.items after.tallies.items
  pub raised : after.raised.items ≡ before.raised.items

-- the emission of the first answer in a queue, and the code with which its instance completes
abbrev pub first_bag : Option ℕ → List Item → Bag
first_bag s [] = []
first_bag s (a ∷ as') = answer_bag s a.value

abbrev pub first_code : List Item → ℕ
first_code [] = 1
first_code (a ∷ as') = answer_code a.last

-- the raises met, each one that the round puts and that the table has not; where there is none, the table
-- stands
pub record Raised (τ : Cells) (stands : Type 0) (puts : ℕ → ℕ → Tri × Cell → Type 0)
    (before after : List Raise) : Type 0
  where
    pub news : List Raise
    pub is : after ≡ before ++ news
    pub put : AllPut puts news
    pub changes : AllPut (λ s n v. v ≢ τ s n) news
    pub still : news ≡ [] → stands

-- a walk met these emissions and codes
pub record Met (T : Table) (τ : Cells) (a : MustCan) (stands : Type 0) (puts : ℕ → ℕ → Tri × Cell → Type 0)
    (end : Option ℕ) (flags : List Bool) (before after : Pass) : Type 0 where
  pub code : end ≡ a.code
  pub codes : Agrees flags a.codes
  pub signals : after.cells.signals.items ≡ before.cells.signals.items
  pub args : after.cells.args.items ≡ before.cells.args.items
  pub tallies : Tallied T a before.tallies.items after.tallies.items
  pub raised : Raised τ stands puts before.raised.items after.raised.items

abbrev pub Visited : Table → Cells → Statement → ℕ → ℕ → Task → Bool → Option ℕ → List Bool → Pass → Pass →
    Type 0
Visited T τ p d l t sure end flags before after =
    let E : Env = env_of before.cells.signals.items in
    Met T τ (flat T τ p d l t (index_of sure) E) (Stands T τ p d l t (index_of sure) E)
    (λ s n v. Puts T τ p d l t (index_of sure) E s n v) end flags before after

-- a scope was entered: its signal has this cell and no emission so far, and what it had is kept
pub record Entered (s : ℕ) (c : SigCell) (outer : Outer) (before after : Pass) : Type 0 where
  pub signals : after.cells.signals.items ≡ slice_set before.cells.signals.items s c
  pub args : after.cells.args.items ≡ before.cells.args.items
  pub cell : slice_get before.cells.signals.items s ≡ Some outer.cell
  pub tally : slice_get before.tallies.items s ≡ Some outer.tally
  pub fresh : Tally
  pub tallies : after.tallies.items ≡ slice_set before.tallies.items s fresh
  pub none : (k : Kind) (w : Option CombineWord) → fresh ≡ tally_of k w [] []
  pub raised : after.raised.items ≡ before.raised.items

-- what a round makes of a signal whose tally is u, against its cell c: no change, or a raise
abbrev pub Concludes : Kind → ℕ → ℕ → SigCell → Tally → List Raise → List Raise → Type 0
Concludes k s l c u before after =
    (w : Option CombineWord) (m d : List Cell) → u ≡ tally_of k w m d →
    ((after ≡ before) × (status_by m d ≡ c.status) × (value_by k w c.preval m d ≡ c.value))
    ⊎ ((r : Raise) × (after ≡ before ++ r ∷ []) × (r.signal ≡ s) × (r.level ≡ l) ×
    (r.known.status ≡ status_by m d) × (r.known.value ≡ value_by k w c.preval m d) ×
    (r.known.status ≡ c.status → r.known.value ≡ c.value → ⊥))

-- a scope was left
pub record Left (k : Kind) (s l : ℕ) (outer : Outer) (before after : Pass) : Type 0 where
  pub signals : after.cells.signals.items ≡ slice_set before.cells.signals.items s outer.cell
  pub args : after.cells.args.items ≡ before.cells.args.items
  pub tallies : after.tallies.items ≡ slice_set before.tallies.items s outer.tally
  pub cell : SigCell
  pub here : slice_get before.cells.signals.items s ≡ Some cell
  pub tally : Tally
  pub counted : slice_get before.tallies.items s ≡ Some tally
  pub raised : Concludes k s l cell tally before.raised.items after.raised.items

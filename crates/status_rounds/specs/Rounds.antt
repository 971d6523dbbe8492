-- One round of a whole program over a flat table, as the code makes it. (This project's own.)
use Rattle.std.specs.Prelude.{◌≡◌, ◌≢◌, ℕ, ◌<◌, ◌≤◌, Bool, true, false, Option, Some, List, [], ◌∷◌, ◌⊎◌, ◌+◌}
use Rattle.std.specs.Prelude.{length, map, slice_get, set, replicate}
use Rattle.hh_base.specs.declared.value.Tri.{Tri}
use Rattle.hh_base.specs.declared.value.Kind.{Kind}
use Rattle.hh_base.specs.declared.value.Value.{Value}
use Rattle.hh_base.specs.declared.value.CombineWord.{CombineWord}
use Rattle.host_expr.specs.declared.cell.Cell.{Cell}
use Rattle.host_expr.specs.declared.cell.SigCell.{SigCell}
use Rattle.host_expr.specs.Environment.{Env, env_of}
use Rattle.hh_term.specs.Kernel.{Kernel}
use Rattle.hh_term.specs.Statement.{Statement}
use Rattle.hh_term.specs.Selection.{Control, Fresh, At, Ended, Start, Resume}
use Rattle.hh_term.specs.MustCan.{Table, table_of, Executed, raised, status_by, value_by}
use Rattle.status_table.specs.declared.tally.Tally.{Tally}
use Rattle.status_table.specs.declared.state.Raise.{Raise}
use Rattle.status_table.specs.declared.state.Pass.{Pass}
use Rattle.status_table.specs.declared.state.Statuses.{Statuses}
use Rattle.status_table.specs.Flat.{Cells}
use Rattle.status_table.specs.Putting.{Puts}
use Rattle.status_table.specs.Tallies.{tally_of}
use Rattle.status_table.specs.Walking.{Raised, Tallied}
use Rattle.status_table.specs.WholeProgram.{program_flat, ProgramStands}
use Rattle.status_rounds.specs.Given.{with_inputs}
use Rattle.status_rounds.specs.Loops.{loops_round}

-- a pass over the table puts this at this place
abbrev pub ProgramPuts : Table → Cells → Statement → Control → Env → ℕ → ℕ → Tri × Cell → Type 0
ProgramPuts T τ p Fresh E s n v = Puts T τ p 0 0 Start Executed E s n v
ProgramPuts T τ p (At m) E s n v = Puts T τ p 0 0 (Resume m) Executed E s n v
ProgramPuts T τ p Ended E s n v = ⊥

-- a walk over the program met its emissions and its raises
pub record Seen (T : Table) (τ : Cells) (p : Statement) (c : Control) (before after : Pass) : Type 0 where
  pub signals : after.cells.signals.items ≡ before.cells.signals.items
  pub args : after.cells.args.items ≡ before.cells.args.items
  pub tallies : Tallied T (program_flat T τ p c (env_of before.cells.signals.items)) before.tallies.items
      after.tallies.items
  pub raised : Raised τ (ProgramStands T τ p c (env_of before.cells.signals.items))
      (λ s n v. ProgramPuts T τ p c (env_of before.cells.signals.items) s n v) before.raised.items
      after.raised.items

-- the signal has no emission so far
pub record IsFresh (tallies : List Tally) (s : ℕ) : Type 0 where
  pub tally : Tally
  pub here : slice_get tallies s ≡ Some tally
  pub none : (k : Kind) (w : Option CombineWord) → tally ≡ tally_of k w [] []

-- what a signal's cell becomes by the cells that must be and that can be
abbrev pub solved_by : Table → ℕ → SigCell → List Cell → List Cell → SigCell
solved_by T s c m d =
    record {
      status = status_by m d;
      value = value_by (T.kind s) (T.word s) c.preval m d;
      pre = c.pre;
      preval = c.preval;
    }

-- a signal of the interface is concluded, and its tally begins anew
pub record Concluded (T : Table) (s : ℕ) (changed : Bool) (before after : Pass) : Type 0 where
  pub args : after.cells.args.items ≡ before.cells.args.items
  pub raised : after.raised.items ≡ before.raised.items
  pub cell : SigCell
  pub signals : after.cells.signals.items ≡ set before.cells.signals.items s cell
  pub fresh : Tally
  pub tallies : after.tallies.items ≡ set before.tallies.items s fresh
  pub none : (k : Kind) (w : Option CombineWord) → fresh ≡ tally_of k w [] []
  pub solved : (t : Tally) (m d : List Cell) → slice_get before.tallies.items s ≡ Some t → t ≡ tally_of
      (T.kind s)
      (T.word s) m d → cell ≡ solved_by T s (env_of before.cells.signals.items s) m d
  pub same : changed ≡ false → cell ≡ env_of before.cells.signals.items s
  pub other : changed ≡ true → cell ≢ env_of before.cells.signals.items s

-- the first n signals are concluded
pub record Conclusions (T : Table) (n : ℕ) (changed : Bool) (before after : Pass) : Type 0 where
  pub args : after.cells.args.items ≡ before.cells.args.items
  pub raised : after.raised.items ≡ before.raised.items
  pub signals : length after.cells.signals.items ≡ length before.cells.signals.items
  pub tallies : length after.tallies.items ≡ length before.tallies.items
  pub solved : (s : ℕ) (t : Tally) (m d : List Cell) → s < n → slice_get before.tallies.items s ≡ Some t → t ≡
      tally_of (T.kind s) (T.word s) m d → env_of after.cells.signals.items s ≡ solved_by T s
      (env_of before.cells.signals.items s) m d
  pub fresh : (s : ℕ) → s < n → IsFresh after.tallies.items s
  pub others : (s : ℕ) → n ≤ s → env_of after.cells.signals.items s ≡ env_of before.cells.signals.items s
  pub waiting : (s : ℕ) → n ≤ s → slice_get after.tallies.items s ≡ slice_get before.tallies.items s
  pub same : changed ≡ false → (s : ℕ) → env_of after.cells.signals.items s ≡ env_of
      before.cells.signals.items s
  pub other : changed ≡ true → (s : ℕ) × (s < n) × (env_of after.cells.signals.items s ≢ env_of
      before.cells.signals.items s)

-- how many places each row of a table has
abbrev pub shape_of : Statuses → List ℕ
shape_of t = map (λ r. length r.items) t.rows.items

abbrev pub HasPlace : List ℕ → ℕ → ℕ → Type 0
HasPlace shape s n = (k : ℕ) × (slice_get shape n ≡ Some k) × (s < k)

-- one of these raises puts this at this place
abbrev pub IsPut : List Raise → ℕ → ℕ → Tri × Cell → Type 0
IsPut [] s n v = ⊥
IsPut (r ∷ rs) s n v = ((r.signal ≡ s) × (r.level ≡ n) × (v ≡ (r.known.status, r.known.value))) ⊎ IsPut rs s n
    v

-- each place has what one of the raises puts there, or none puts anything there and it stays
abbrev pub Taken : List Raise → Cells → Cells → Type 0
Taken rs τ τ' = (s n : ℕ) → ((τ' s n ≡ τ s n) × ((v : Tri × Cell) → IsPut rs s n v → ⊥)) ⊎ IsPut rs s n
    (τ' s n)

-- the table has what this raise puts at its place, and is as before at all others
pub record PutsOne (r : Raise) (τ τ' : Cells) : Type 0 where
  pub here : τ' r.signal r.level ≡ (r.known.status, r.known.value)
  pub others : (s n : ℕ) → (s ≢ r.signal) ⊎ (n ≢ r.level) → τ' s n ≡ τ s n

-- what the rounds keep, whatever is known so far
pub record Ready (K : Kernel) (table : Statuses) (pass : Pass) : Type 0 where
  pub args : pass.cells.args.items ≡ []
  pub signals : length pass.cells.signals.items ≡ length K.signals
  pub tallies : length pass.tallies.items ≡ length K.signals
  pub fresh : (s : ℕ) → s < K.interface → IsFresh pass.tallies.items s
  pub raised : pass.raised.items ≡ []
  pub shape : shape_of table ≡ replicate (loops_round K.statement + 1) (length K.signals)

-- what a round makes of an environment and a table, and whether it changed something
pub record Went (K : Kernel) (c : Control) (is : List (ℕ × Value)) (more : Bool) (E F : Env) (τ τ' : Cells) :
    Type
    0 where
  pub interface : (s : ℕ) → s < K.interface → F s ≡ raised (table_of K) s (E s)
      (with_inputs is (program_flat (table_of K) τ K.statement c E))
  pub others : (s : ℕ) → K.interface ≤ s → F s ≡ E s
  pub puts : (s n : ℕ) → (τ' s n ≡ τ s n) ⊎ ProgramPuts (table_of K) τ K.statement c E s n (τ' s n)
  pub same : more ≡ false → (s : ℕ) → F s ≡ E s
  pub stays : more ≡ false → (s n : ℕ) → τ' s n ≡ τ s n
  pub stands : more ≡ false → ProgramStands (table_of K) τ K.statement c E
  pub other : more ≡ true → ((s : ℕ) × (s < K.interface) × (F s ≢ E s)) ⊎ ((s : ℕ) × (n : ℕ) × HasPlace
      (replicate (loops_round K.statement + 1) (length K.signals)) s n × (τ' s n ≢ τ s n))

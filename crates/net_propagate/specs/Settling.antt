-- What is kept of a valuation on its way to the least solution. (This project's own.)
use Rattle.std.specs.Prelude.{◌≡◌, ◌≢◌, ℕ, ◌<◌, ◌+◌, Bool, true, false, not, ◌&&◌, Option, Some, None}
use Rattle.std.specs.Prelude.{List, [], length, map, slice_get}
use Rattle.host_expr.specs.declared.cell.SigCell.{SigCell}
use Rattle.host_expr.specs.Environment.{is_decided, is_known, is_present, env_of, unsolved}
use Rattle.hh_base.specs.declared.value.Value.TheVariants as value
use Rattle.hh_base.specs.declared.value.Tri.TheVariants.{Unknown}
use Rattle.net_list.specs.declared.record.NetSignal.{NetSignal}
use Rattle.net_list.specs.declared.record.NetRecords.{NetRecords}
use Rattle.net_solution.specs.declared.valuation.Valuation.{Valuation as Place}
use Rattle.hh_base.specs.declared.value.Kind.{Kind}
use Rattle.net_list.specs.declared.record.NetEmit.{NetEmit}
use Rattle.net_readers.specs.Readers.{Lists, emissions_from}
use Rattle.net_propagate.specs.declared.watchers.Watchers.{Watchers}
use Rattle.net_propagate.specs.declared.task.Task.{Task}
use Rattle.net_propagate.specs.declared.settle.Place.{Place as Reserved}
use Rattle.net_solution.specs.Equations.{Emission, emission_of}
use Rattle.net_solution.specs.Question.{Question}
use Rattle.net_solution.specs.Seen.{ViewBelow}
use Rattle.net_solution.specs.Equations.{gate_value, signal_value, base_value, last_value}
use Rattle.net_solution.specs.Solution.{Valuation, statuses, value_at, view_of, numbered, HasSizes, Rises}
use Rattle.net_solution.specs.Places.{seen_in, valuation_of, statuses_in, known_by, neither, question_of}
use Rattle.net_solution.specs.Rounds.{open_gates, open_values}

-- it has an item for each gate and signal of the nets, and no parameters
pub record HasRoom (N : NetRecords) (v : Place) : Type 0 where
  pub sizes : HasSizes N (valuation_of v)
  pub before : length v.before.items ≡ length N.signals
  pub args : v.cells.args.items ≡ []

-- the second has as many items as the first
pub record HasRoomOf (v w : Place) : Type 0 where
  pub gates : length w.gates.items ≡ length v.gates.items
  pub cells : length w.cells.signals.items ≡ length v.cells.signals.items
  pub args : w.cells.args.items ≡ v.cells.args.items
  pub before : length w.before.items ≡ length v.before.items

-- nothing is known under it
pub record IsBlank (v : Place) : Type 0 where
  pub gates : (g : ℕ) → statuses_in v g ≡ Unknown
  pub cells : (s : ℕ) → env_of v.cells.signals.items s ≡ unsolved false value.Unit
  pub before : (s : ℕ) → known_by v.before.items s ≡ neither

-- it rises to the least solution, and what is known of signals is no more than the valuation says of them
pub record IsRising (N : NetRecords) (Q : Question) (v : Place) : Type 0 where
  pub room : HasRoom N v
  pub rises : Rises N Q (valuation_of v)
  pub seen : ViewBelow (seen_in v) (view_of N Q (valuation_of v))

-- what the equations give by what is known of signals
abbrev pub given_seen : NetRecords → Question → Place → Valuation
given_seen N Q v =
    record {
      gates = map (gate_value N Q (statuses_in v) (seen_in v)) N.gates;
      values = numbered (signal_value N Q (statuses_in v) (seen_in v)) 0 N.signals;
    }

-- gate g, or the value of signal s, is unknown, and its equation gives it
abbrev pub is_gate_given : NetRecords → Question → Place → ℕ → Bool
is_gate_given N Q v g = not (is_decided (statuses_in v g)) && is_decided (statuses (given_seen N Q v) g)

abbrev pub is_value_given : NetRecords → Question → Place → ℕ → Bool
is_value_given N Q v s =
    not (is_known (value_at (valuation_of v) s)) && is_known (value_at (given_seen N Q v) s)

-- how much is unknown
abbrev pub left_open : Valuation → ℕ
left_open v = open_gates v.gates + open_values v.values

-- what is known of signal s is what the valuation says of it
abbrev pub IsSeen : NetRecords → Question → Place → ℕ → Type 0
IsSeen N Q v s = seen_in v s ≡ view_of N Q (valuation_of v) s

-- of signal s all is known that the valuation says, and of the others what was
pub record SeesOneMore (N : NetRecords) (Q : Question) (before after : Place) (s : ℕ) : Type 0 where
  pub valuation : valuation_of after ≡ valuation_of before
  pub at : IsSeen N Q after s
  pub others : (t : ℕ) → t ≢ s → seen_in after t ≡ seen_in before t

-- the cell of a signal as the valuation has it
abbrev pub cell_as : Question → Place → ℕ → NetSignal → SigCell
cell_as Q v s d =
    record {
      status = statuses_in v d.status;
      value = (env_of v.cells.signals.items s).value;
      pre = is_present (statuses_in v d.pre);
      preval = base_value (statuses_in v d.sel) d.decl.first (last_value Q s);
    }

-- what is unknown in a place
abbrev pub left_in : Place → ℕ
left_in v = left_open (valuation_of v)

-- an equation was taken: it was `given` what it gives, and so is less unknown, or all is as it was
pub record Taken (before after : Place) (given more : Bool) : Type 0 where
  pub told : more ≡ given
  pub less : more ≡ true → left_in after < left_in before
  pub same : more ≡ false → after ≡ before

-- the first `count` equations were taken, and where nothing was new, none of them gives anything
pub record Swept (before after : Place) (given : Place → ℕ → Bool) (count : ℕ) (more : Bool) : Type 0 where
  pub less : more ≡ true → left_in after < left_in before
  pub same : more ≡ false → after ≡ before
  pub none : more ≡ false → (n : ℕ) → n < count → given before n ≡ false

-- all equations were taken
pub record SweptAll (N : NetRecords) (Q : Question) (before after : Place) (more : Bool) : Type 0 where
  pub gates : Swept before after (is_gate_given N Q) (length N.gates) more
  pub values : Swept before after (is_value_given N Q) (length N.signals) more

-- the emissions of each signal are listed
abbrev pub IsListed : NetRecords → Watchers → Type 0
IsListed N w = Lists w.readers.signals.items (length N.signals) (λ s. emissions_from 0 s N.emits)

-- a place for these nets
pub record IsReserved (N : NetRecords) (p : Reserved) : Type 0 where
  pub room : HasRoom N p.valuation
  pub listed : IsListed N p.watchers

abbrev pub nets_in : Task → NetRecords
nets_in t = t.nets.now

abbrev pub question_in : Task → Question
question_in t = question_of t.asked

-- a valuation is on its way to the least solution of the task
pub record IsUnderWay (t : Task) (v : Place) : Type 0 where
  pub listed : IsListed (nets_in t) t.watchers.now
  pub rising : IsRising (nets_in t) (question_in t) v

abbrev pub emission_if : Question → Place → Kind → ℕ → Option NetEmit → List Emission
emission_if Q v k s (Some e) = emission_of Q (statuses_in v) (seen_in v) k s e
emission_if Q v k s None = []

-- the emission of this number, where it is one of signal s
abbrev pub emission_at : NetRecords → Question → Place → Kind → ℕ → ℕ → List Emission
emission_at N Q v k s n = emission_if Q v k s (slice_get N.emits n)

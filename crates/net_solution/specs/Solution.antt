-- Solutions of the equations of nets, and the least one. (Scott propagation.)
use Rattle.std.specs.Prelude.{◌≡◌, ℕ, suc, Option, Some, None, List, [], ◌∷◌, map, get_or, slice_get}
use Rattle.std.specs.Prelude.{length}
use Rattle.hh_base.specs.declared.value.Tri.{Tri}
use Rattle.hh_base.specs.declared.value.Tri.TheVariants.{Unknown}
use Rattle.host_expr.specs.declared.cell.Cell.{Cell}
use Rattle.host_expr.specs.declared.cell.Cell.TheVariants as cell
use Rattle.host_expr.specs.Knows.{TriBelow, CellBelow}
use Rattle.net_list.specs.declared.record.NetSignal.{NetSignal}
use Rattle.net_list.specs.declared.record.NetRecords.{NetRecords}
use Rattle.net_solution.specs.Question.{Question}
use Rattle.net_solution.specs.Seen.{Seen, View}
use Rattle.net_solution.specs.Equations.{Statuses, gate_value, signal_value, seen_signal, nothing_seen}

-- a status for each gate, and a value for each signal
pub record Valuation : Type 0 where
  pub gates : List Tri
  pub values : List Cell

abbrev pub statuses : Valuation → Statuses
statuses v g = get_or v.gates g Unknown

abbrev pub value_at : Valuation → ℕ → Cell
value_at v s = get_or v.values s cell.Unknown

abbrev pub seen_at : Question → Statuses → Cell → ℕ → Option NetSignal → Seen
seen_at Q γ c s (Some d) = seen_signal Q γ c s d
seen_at Q γ c s None = nothing_seen

-- what is known of each signal under a valuation
abbrev pub view_of : NetRecords → Question → Valuation → View
view_of N Q v s = seen_at Q (statuses v) (value_at v s) s (slice_get N.signals s)

-- each item with its number
abbrev pub numbered : {X Y : Type 0} → (ℕ → X → Y) → ℕ → List X → List Y
numbered f n [] = []
numbered f n (x ∷ xs) = f n x ∷ numbered f (suc n) xs

-- what the equation of each gate, and of each signal's value, gives under a valuation
abbrev pub given_by : NetRecords → Question → Valuation → Valuation
given_by N Q v =
    record {
      gates = map (gate_value N Q (statuses v) (view_of N Q v)) N.gates;
      values = numbered (signal_value N Q (statuses v) (view_of N Q v)) 0 N.signals;
    }

-- each equation holds
abbrev pub IsSolution : NetRecords → Question → Valuation → Type 0
IsSolution N Q v = v ≡ given_by N Q v

-- unknown is below everything, and all else below itself alone
pub record IsBelow (v w : Valuation) : Type 0 where
  pub gates : (g : ℕ) → TriBelow (statuses v g) (statuses w g)
  pub values : (s : ℕ) → CellBelow (value_at v s) (value_at w s)

abbrev pub IsBelowAll : NetRecords → Question → Valuation → Type 0
IsBelowAll N Q v = (w : Valuation) → IsSolution N Q w → IsBelow v w

-- the solution that is below every other
pub record IsLeast (N : NetRecords) (Q : Question) (v : Valuation) : Type 0 where
  pub solution : IsSolution N Q v
  pub below : IsBelowAll N Q v

-- Law: there is no second least solution.
abbrev pub OneLeast : Type 0
OneLeast =
    (N : NetRecords) (Q : Question) (v w : Valuation) → IsLeast N Q v → IsLeast N Q w → v ≡ w

-- as many gates and values as the nets have
pub record HasSizes (N : NetRecords) (v : Valuation) : Type 0 where
  pub gates : length v.gates ≡ length N.gates
  pub values : length v.values ≡ length N.signals

-- a valuation that rises to the least solution: it is below what the equations give under it, and below every
-- solution
pub record Rises (N : NetRecords) (Q : Question) (v : Valuation) : Type 0 where
  pub next : IsBelow v (given_by N Q v)
  pub below : IsBelowAll N Q v

-- Law: where more is known, the equations give more.
abbrev pub EquationsRise : Type 0
EquationsRise =
    (N : NetRecords) (Q : Question) (v w : Valuation) → IsBelow v w
    → IsBelow (given_by N Q v) (given_by N Q w)

-- Law: a valuation under which nothing is known rises.
abbrev pub NothingRises : Type 0
NothingRises =
    (N : NetRecords) (Q : Question) (v : Valuation) → ((g : ℕ) → statuses v g ≡ Unknown)
    → ((s : ℕ) → value_at v s ≡ cell.Unknown) → Rises N Q v

-- Law: what stands between one that rises and what the equations give under it rises too, whichever equations
-- were taken.
abbrev pub StepsRise : Type 0
StepsRise =
    (N : NetRecords) (Q : Question) (v w : Valuation) → Rises N Q v → IsBelow v w
    → IsBelow w (given_by N Q v) → Rises N Q w

-- Law: where one that rises stands still, it is the least solution.
abbrev pub StandingIsLeast : Type 0
StandingIsLeast =
    (N : NetRecords) (Q : Question) (v : Valuation) → HasSizes N v → Rises N Q v
    → IsBelow (given_by N Q v) v → IsLeast N Q v

-- What is known of the signals in scope: status and value now, previous status and previous value.
-- (Berry, The Constructive Semantics of Pure Esterel, widened by values and by the previous reaction.)
use Rattle.std.specs.Prelude.{ℕ, Bool, true, false, cond, ◌==◌, List, slice_index_or}
use Rattle.hh_base.specs.declared.value.Tri.{Tri}
use Rattle.hh_base.specs.declared.value.Tri.TheVariants.{Unknown, One}
use Rattle.hh_base.specs.declared.value.Value.{Value}
use Rattle.hh_base.specs.declared.value.Value.TheVariants as value
use Rattle.host_expr.specs.declared.cell.Cell.{Cell}
use Rattle.host_expr.specs.declared.cell.Cell.TheVariants as cell
use Rattle.host_expr.specs.declared.cell.SigCell.{SigCell}
use Rattle.host_expr.specs.declared.cell.Cells.{Cells}

-- an environment gives each signal's cell
abbrev pub Env : Type 0
Env = ℕ → SigCell

abbrev pub is_known : Cell → Bool
is_known cell.Unknown = false
is_known _ = true

abbrev pub is_decided : Tri → Bool
is_decided Unknown = false
is_decided _ = true

abbrev pub is_present : Tri → Bool
is_present One = true
is_present _ = false

-- a signal of which nothing is known yet but its previous status and value
abbrev pub unsolved : Bool → Value → SigCell
unsolved b v = record { status = Unknown; value = cell.Unknown; pre = b; preval = v }

-- an inner scope hides the outer one
abbrev pub put : Env → ℕ → SigCell → Env
put E s c t = cond (t == s) c (E t)

-- no signal is in scope
abbrev pub blank : Env
blank s = unsolved false value.Unit

-- a list of cells as an environment
abbrev pub env_of : List SigCell → Env
env_of cells s = slice_index_or cells s (unsolved false value.Unit)

-- the environment that the cells of the code are: of a signal past their end nothing is known, and it was
-- absent with no value before
abbrev pub environment_of : Cells → Env
environment_of cells = env_of cells.signals.items

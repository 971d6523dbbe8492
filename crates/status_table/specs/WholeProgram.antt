-- A whole program over a flat table: the interface signals as cells of the environment, and what rounds make
-- of both. (This project's own.)
use Rattle.std.specs.Prelude.{◌≡◌, ℕ, Bool, true, false, ◌==◌, Option, Some, None, List, [], ◌∷◌, ◌⊎◌}
use Rattle.hh_base.specs.declared.value.Tri.{Tri}
use Rattle.host_expr.specs.declared.cell.Cell.{Cell}
use Rattle.host_expr.specs.Environment.{Env, put, blank, unsolved}
use Rattle.hh_term.specs.Statement.{Statement}
use Rattle.hh_term.specs.Selection.{Control, Fresh, At, Ended, Start, Resume}
use Rattle.hh_term.specs.MustCan.{Table, MustCan, Executed, raised, hide}
use Rattle.hh_term.specs.Step.{Stepped}
use Rattle.hh_term.specs.Reaction.{Outer, with_given, nothing_done, Ran, ran, idle}
use Rattle.status_table.specs.Flat.{Cells, flat}
use Rattle.status_table.specs.FlatStep.{flat_step}
use Rattle.status_table.specs.Standing.{Stands}
use Rattle.status_table.specs.Moving.{Moves, nothing_known}

-- it is one of them
abbrev pub Contains : Outer → List Outer → Type 0
Contains o [] = ⊥
Contains o (u ∷ os) = (o ≡ u) ⊎ Contains o os

-- the scopes round what a pass sees
abbrev pub scopes : List Outer → MustCan → MustCan
scopes [] a = a
scopes (o ∷ os) a = hide o.signal (with_given o (scopes os a))

-- a round over the table would change no interface cell
abbrev pub StandsAll : Table → List Outer → MustCan → Env → Type 0
StandsAll T [] a F = Unit {0}
StandsAll T (o ∷ os) a F =
    ((F o.signal).pre ≡ o.last.status) × ((F o.signal).preval ≡ o.last.val)
    × (raised T o.signal (F o.signal) (with_given o (scopes os a)) ≡ F o.signal)
    × StandsAll T os a F

-- the signal is none of these
abbrev pub NotIn : ℕ → List Outer → Type 0
NotIn s [] = Unit {0}
NotIn s (o ∷ os) = (s == o.signal ≡ false) × NotIn s os

abbrev pub Different : List Outer → Type 0
Different [] = Unit {0}
Different (o ∷ os) = NotIn o.signal os × Different os

-- each interface cell stays, or takes what a pass makes of it
abbrev pub MovesAll : Table → List Outer → MustCan → Env → Env → Type 0
MovesAll T [] a F F' = Unit {0}
MovesAll T (o ∷ os) a F F' =
    ((F' o.signal ≡ F o.signal) ⊎ (F' o.signal ≡ raised T o.signal (F o.signal) (with_given o (scopes os a))))
    × MovesAll T os a F F'

-- before the first round nothing is known of an interface signal but its previous status and value
abbrev pub opened : List Outer → Env
opened [] = blank
opened (o ∷ os) = put (opened os) o.signal (unsolved o.last.status o.last.val)

abbrev pub program_flat : Table → Cells → Statement → Control → Env → MustCan
program_flat T τ p Fresh E = flat T τ p 0 0 Start Executed E
program_flat T τ p (At m) E = flat T τ p 0 0 (Resume m) Executed E
program_flat T τ p Ended E = nothing_done

abbrev pub ProgramStands : Table → Cells → Statement → Control → Env → Type 0
ProgramStands T τ p Fresh E = Stands T τ p 0 0 Start Executed E
ProgramStands T τ p (At m) E = Stands T τ p 0 0 (Resume m) Executed E
ProgramStands T τ p Ended E = Unit {0}

abbrev pub ProgramMoves : Table → Cells → Cells → Statement → Control → Env → Type 0
ProgramMoves T τ τ' p Fresh E = Moves T τ τ' p 0 0 Start Executed E
ProgramMoves T τ τ' p (At m) E = Moves T τ τ' p 0 0 (Resume m) Executed E
ProgramMoves T τ τ' p Ended E = Unit {0}

abbrev pub program_flat_step : Table → Cells → Statement → Control → Env → Option Ran
program_flat_step T τ p Fresh E = ran (flat_step T τ p 0 0 Start E)
program_flat_step T τ p (At m) E = ran (flat_step T τ p 0 0 (Resume m) E)
program_flat_step T τ p Ended E = Some (record { stepped = idle; code = None })

-- the environments and tables that rounds reach
pub data Reaches (T : Table) (os : List Outer) (p : Statement) (c : Control) : Env → Cells → Type 0 where
  begins : Reaches T os p c (opened os) nothing_known
  goes_on : {F F' : Env} {τ τ' : Cells} → Reaches T os p c F τ → MovesAll T os (program_flat T τ p c F) F F' →
      ((s : ℕ) → NotIn s os → F' s ≡ F s) → ProgramMoves T τ τ' p c F → Reaches T os p c F' τ'

-- The laws of the flat table, as statements. The public functions of `laws` have them as contracts. (This
-- project's own.)
use Rattle.std.specs.Prelude.{◌≡◌, List}
use Rattle.host_expr.specs.Environment.{Env, blank}
use Rattle.hh_term.specs.Statement.{Statement}
use Rattle.hh_term.specs.Selection.{Task, Control}
use Rattle.hh_term.specs.MustCan.{Table, Index, Executed, must_can}
use Rattle.hh_term.specs.Knows.{MustCanBelow}
use Rattle.hh_term.specs.Step.{step}
use Rattle.status_table.specs.Flat.{Cells, flat}
use Rattle.status_table.specs.FlatStep.{flat_step}
use Rattle.status_table.specs.Standing.{Stands}
use Rattle.hh_term.specs.Reaction.{Outer, solved, program_must_can, program_step}
use Rattle.status_table.specs.Moving.{Unique, Reached}
use Rattle.status_table.specs.WholeProgram.{Different, StandsAll, program_flat, ProgramStands}
use Rattle.status_table.specs.WholeProgram.{program_flat_step, Reaches}

-- A table that rounds reach and that no round changes gives what Must and Can with Solve give, each way.
abbrev pub StandingIsSolved : Type 0
StandingIsSolved =
    (T : Table) (p : Statement) (t : Task) (i : Index) (E : Env) (τ : Cells) → Unique p → Reached T p t i E τ
    → Stands T τ p 0 0 t i E →
    MustCanBelow (flat T τ p 0 0 t i E) (must_can T p t i E) × MustCanBelow (must_can T p t i E)
    (flat T τ p 0 0 t i E)

-- With such a table the step is the step of the definition.
abbrev pub StandingSteps : Type 0
StandingSteps =
    (T : Table) (p : Statement) (t : Task) (E : Env) (τ : Cells) → Unique p → Reached T p t Executed E τ →
    Stands T τ p 0 0 t Executed E →
    flat_step T τ p 0 0 t E ≡ step T p t E

-- Where rounds over a whole program reach an environment and a table that no round changes, its interface is
-- solved, and the step with the table is the step of the definition.
abbrev pub ProgramIsSolved : Type 0
ProgramIsSolved =
    (T : Table) (os : List Outer) (p : Statement) (c : Control) (F : Env) (τ : Cells) → Unique p → Different
    os → Reaches T os p c F τ →
    StandsAll T os (program_flat T τ p c F) F → ProgramStands T τ p c F →
    (F ≡ solved T os (program_must_can T p c) blank) × (program_flat_step T τ p c F ≡ program_step T p c F)

-- A table that rounds reach and that no round changes is solved.
use Rattle.std.proofs.Common.{arith}
use Rattle.host_expr.specs.Environment.{Env}
use Rattle.host_expr.proofs.Information.{env_refl}
use Rattle.hh_term.specs.Statement.{Statement}
use Rattle.hh_term.specs.Selection.{Task}
use Rattle.hh_term.specs.MustCan.{Table, Index}
use Rattle.status_table.specs.Flat.{Cells}
use Rattle.status_table.specs.Moving.{Unique, Reached, unknown_all, moved}
use Rattle.status_table.specs.TableLaws.{StandingIsSolved, StandingSteps}
use Rattle.status_table.proofs.Bounding.{Bounded}
use Rattle.status_table.proofs.FlatLaws.{flat_above, flat_below}
use Rattle.status_table.proofs.Rounds.{kept, bounded_start, index_same}
use Rattle.status_table.proofs.FlatStepLaws.{flat_step_is}

reached_bounded : (T : Table) (p : Statement) (t : Task) (i : Index) (E : Env) (τ : Cells) → Unique p →
    Reached T p t i E τ → Bounded T τ p 0 0 t i E
reached_bounded T p t i E τ u unknown_all = bounded_start T p 0 0 t i E
reached_bounded T p t i E τ u (moved {τ = τ0} r m) = kept T τ0 τ p 0 0 t i i E E (index_same i) (env_refl E)
    (omega arith) u (reached_bounded T p t i E τ0 u r) m

pub standing_is_solved : StandingIsSolved
standing_is_solved T p t i E τ u r h = (
  flat_below T τ p 0 0 t i i E E (index_same i) (env_refl E) (reached_bounded T p t i E τ u r),
  flat_above T τ p 0 0 t i i E E (index_same i) (env_refl E) h,
)

pub standing_steps : StandingSteps
standing_steps T p t E τ u r h = flat_step_is T τ p 0 0 t E h (reached_bounded T p t _ E τ u r)

-- The laws of copied programs, as statements. (This project's own; that doubling cures reincarnation is
-- Berry's.)
use Rattle.std.specs.Prelude.{◌≡◌, ◌<◌, ℕ, []}
use Rattle.host_expr.specs.Environment.{Env}
use Rattle.hh_term.specs.Kernel.{Kernel}
use Rattle.hh_term.specs.IsProgram.{IsProgram}
use Rattle.hh_term.specs.MustCan.{table_of}
use Rattle.hh_term.specs.Reaction.{Ran, program_must_can, program_step}
use Rattle.hh_term.specs.Selection.{Control}
use Rattle.loop_copy.specs.Copies.{copied_program, original_site}
use Rattle.loop_copy.specs.Stands.{StandsFor}
use Rattle.copy_laws.specs.Agreeing.{DoesTheSame}
use Rattle.copy_laws.specs.Stepping.{BothOrNone, StepsTheSame}

-- Where the copied control stands for the control and the interface is seen alike, the copied program must
-- and can do what the program must and can do, with the same codes.
abbrev pub CopiesMustAndCanDoTheSame : Type 0
CopiesMustAndCanDoTheSame =
    (K : Kernel) → IsProgram K → (c d : Control) → StandsFor K.statement c d → (E F : Env) →
    ((s : ℕ) → s < K.interface → F s ≡ E s) →
    DoesTheSame K (λ s. s) [] (program_must_can (table_of K) K.statement c E)
    (program_must_can (table_of (copied_program K)) (copied_program K).statement d F)

-- what the program and the copied one did in a reaction
pub record RunsTheSame (K : Kernel) (a copied : Ran) : Type 0 where
  pub stepped : StepsTheSame K (copied_program K) (λ s. s) (original_site K) []
      K.statement a.stepped copied.stepped
  pub code : copied.code ≡ a.code

-- There the copied program also steps as the program does, with next marks that stand for each other, or both
-- steps are undefined.
abbrev pub CopiesStepTheSame : Type 0
CopiesStepTheSame =
    (K : Kernel) → IsProgram K → (c d : Control) → StandsFor K.statement c d → (E F : Env) →
    ((s : ℕ) → s < K.interface → F s ≡ E s) →
    BothOrNone (RunsTheSame K) (program_step (table_of K) K.statement c E)
    (program_step (table_of (copied_program K)) (copied_program K).statement d F)

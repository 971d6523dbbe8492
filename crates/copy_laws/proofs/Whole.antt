-- The copied program must and can do what the program must and can do.
use Rattle.std.proofs.Common.{◌≡◌, ℕ, ◌<◌, Option, Some, None, [], refl, ap, subst}
use Rattle.std.specs.Prelude.{nat_lt}
use Rattle.std.proofs.lemmas.Bool.{ltb-true}
use Rattle.std.proofs.lemmas.List.{length-take-le}
use Rattle.host_expr.specs.Environment.{Env}
use Rattle.hh_term.specs.Selection.{Control, Fresh, At, Ended, Start, Resume}
use Rattle.hh_term.specs.Kernel.{Kernel}
use Rattle.hh_term.specs.IsProgram.{IsProgram, interface_of}
use Rattle.hh_term.specs.MustCan.{table_of, Executed}
use Rattle.hh_term.specs.Reaction.{ran, program_must_can, program_step}
use Rattle.hh_term.specs.Step.{Stepped, step}
use Rattle.hh_term.specs.Scopes.{IsInScope}
use Rattle.loop_copy.specs.Copies.{copied_program, copied_locals, copied_asyncs, copied_sites, items_at}
use Rattle.loop_copy.specs.Copies.{original_site}
use Rattle.loop_copy.specs.Stands.{StandsFor}
use Rattle.loop_copy.proofs.Lists.{holds_behind, Holds}
use Rattle.loop_copy.proofs.Rules.{within, either_first}
use Rattle.copy_laws.specs.Agreeing.{DoesTheSame}
use Rattle.copy_laws.specs.Stepping.{BothOrNone, StepsTheSame}
use Rattle.copy_laws.specs.Lawful.{RunsTheSame}
use Rattle.copy_laws.proofs.Doing.{Placed, start, resume}
use Rattle.copy_laws.proofs.Stepping.{Here, start_alike, resume_alike}

module _ (K : Kernel) (r : IsProgram K) where
  abbrev C : Kernel
  C = copied_program K

  low : (t : ℕ) → IsInScope K [] t → t < K.interface
  low t h = ltb-true t K.interface (either_first (nat_lt t K.interface) h)

  pub placed : Placed K C refl refl (λ s. s) K.interface 0 [] K.statement
  placed =
      record {
        low = low;
        signals = subst (λ n. Holds C.signals n (items_at K.signals (copied_locals K.statement)))
            (length-take-le K.interface K.signals r.interface_declared)
            (holds_behind (interface_of K) (items_at K.signals (copied_locals K.statement)));
        sites = holds_behind [] (copied_sites K.sites (λ s. s) K.interface K.statement);
        within = within K r;
        uses = r.uses_in_scope;
        waits = r.loops_wait;
      }

  pub does_the_same : (c d : Control) → StandsFor K.statement c d → (E F : Env)
      → ((s : ℕ) → s < K.interface → F s ≡ E s)
      → DoesTheSame K (λ s. s) [] (program_must_can (table_of K) K.statement c E)
      (program_must_can (table_of C) C.statement d F)
  does_the_same Fresh Fresh h E F sees =
      start K C refl refl K.statement (λ s. s) K.interface 0 [] placed Executed E F (λ t i. sees t (low t i))
  does_the_same (At m) (At c) h E F sees =
      resume K C refl refl K.statement (λ s. s) K.interface 0 [] placed m c h Executed E F
      (λ t i. sees t (low t i))
  does_the_same Ended Ended h E F sees = record { must = tt; code = refl; can = tt; codes = refl }
  does_the_same Fresh (At c) h E F sees = absurd h
  does_the_same Fresh Ended h E F sees = absurd h
  does_the_same (At m) Fresh h E F sees = absurd h
  does_the_same (At m) Ended h E F sees = absurd h
  does_the_same Ended Fresh h E F sees = absurd h
  does_the_same Ended (At c) h E F sees = absurd h

  here : Here K C refl refl (copied_asyncs K.statement) (λ s. s) K.interface 0 [] K.statement
  here = record { placed = placed; sites = holds_behind [] (copied_asyncs K.statement) }

  both_ran : (x y : Option Stepped)
      → BothOrNone (StepsTheSame K C (λ s. s) (original_site K) [] K.statement) x y
      → BothOrNone (RunsTheSame K) (ran x) (ran y)
  both_ran None None h = tt
  both_ran (Some a) (Some c) h = record { stepped = h; code = ap Some h.code }
  both_ran None (Some c) h = absurd h
  both_ran (Some a) None h = absurd h

  pub runs_the_same : (c d : Control) → StandsFor K.statement c d → (E F : Env)
      → ((s : ℕ) → s < K.interface → F s ≡ E s)
      → BothOrNone (RunsTheSame K) (program_step (table_of K) K.statement c E)
      (program_step (table_of C) C.statement d F)
  runs_the_same Fresh Fresh h E F sees =
      both_ran (step (table_of K) K.statement Start E) (step (table_of C) C.statement Start F)
      (start_alike K C refl refl (copied_asyncs K.statement) K.statement (λ s. s) K.interface 0 [] here E F
      (λ t i. sees t (low t i)))
  runs_the_same (At m) (At c) h E F sees =
      both_ran (step (table_of K) K.statement (Resume m) E) (step (table_of C) C.statement (Resume c) F)
      (resume_alike K C refl refl (copied_asyncs K.statement) K.statement (λ s. s) K.interface 0 []
      here m c h E F
      (λ t i. sees t (low t i)))
  runs_the_same Ended Ended h E F sees =
      record {
        stepped = record { bag = tt; code = refl; next = tt; touches = refl; faults = refl; doubled = refl };
        code = refl;
      }
  runs_the_same Fresh (At c) h E F sees = absurd h
  runs_the_same Fresh Ended h E F sees = absurd h
  runs_the_same (At m) Fresh h E F sees = absurd h
  runs_the_same (At m) Ended h E F sees = absurd h
  runs_the_same Ended Fresh h E F sees = absurd h
  runs_the_same Ended (At c) h E F sees = absurd h

-- What a reaction that completes does to the marks: they are those of its step, numbered.
use Rattle.std.proofs.Common.{◌≡◌, ℕ, Option, Some, None, List, [], ◌∷◌, refl}
use Rattle.std.specs.Prelude.{fold}
use Rattle.hh_base.specs.declared.value.Pos.{Pos}
use Rattle.hh_base.specs.declared.value.FaultKind.{FaultKind}
use Rattle.hh_base.specs.declared.value.Value.{Value}
use Rattle.host_expr.specs.Environment.{Env, blank}
use Rattle.hh_term.specs.Statement.{Statement}
use Rattle.hh_term.specs.Selection.{Control, Fresh, At, Ended, Start, Resume}
use Rattle.hh_term.specs.Kernel.{Kernel}
use Rattle.hh_term.specs.Marks.{IsMarkOf, IsControlOf, ids_in, ids_of}
use Rattle.hh_term.specs.MustCan.{Table, table_of}
use Rattle.hh_term.specs.Step.{Stepped, step}
use Rattle.hh_term.specs.Touches.{by_site, numbered, marks_numbered}
use Rattle.hh_term.specs.Reaction.{Last, Outer, Ran, Completed, Outcome, Undecided, Doubled, Faulted, Completes, ran, program_step, program_must_can, completed, concluded, reaction, solved, undecided, leave_all, first_declared, earlier, outers_from}
use Rattle.term_machine.proofs.Tracking.{Tracks, OnStep, tracked}
use Rattle.term_machine.proofs.Fairness.{IsFair, fair}

abbrev pub OnOutcome : (Completed → Type 0) → Outcome → Type 0
OnOutcome P (Completes d) = P d
OnOutcome P _ = Unit {0}

OnRan : (Stepped → Type 0) → Option Ran → Type 0
OnRan P (Some r) = P r.stepped
OnRan P None = Unit {0}

-- what is known of the step of a program
abbrev pub Steps : Statement → Control → Stepped → Type 0
Steps p c a = (IsControlOf p c → Tracks (IsMarkOf p) (ids_of c) a) × IsFair a

on_ran : (X : Type 0) (P Q : Stepped → Type 0) (o : Option Stepped) → (X → OnStep P o) → OnStep Q o → OnRan (λ a. (X → P a) × Q a) (ran o)
unfolding OnRan
on_ran X P Q (Some a) f g = (f, g)
on_ran X P Q None f g = tt

program_steps : (T : Table) (p : Statement) (c : Control) (E : Env) → OnRan (Steps p c) (program_step T p c E)
unfolding OnRan
program_steps T p Fresh E = on_ran (Unit {0}) (Tracks (IsMarkOf p) []) IsFair (step T p Start E) (λ h. tracked T p Start E tt) (fair T p Start E)
program_steps T p (At m) E = on_ran (IsMarkOf p m) (Tracks (IsMarkOf p) (ids_in m)) IsFair (step T p (Resume m) E) (λ h. tracked T p (Resume m) E h) (fair T p (Resume m) E)
program_steps T p Ended E = (λ h. record { olds = refl; going = refl; fair = refl; rests_none = λ e. refl; mark = tt }, refl)

pub record Moves (p : Statement) (c : Control) (last : ℕ) (d : Completed) : Type 0 where
  pub stepped : Stepped
  pub steps : Steps p c stepped
  pub next : d.next ≡ (elim stepped.next [ Some m ↦ At (marks_numbered last m).0 | None ↦ Ended ])
  pub touches : d.touches ≡ numbered last (by_site stepped.touches)

by_doubled : (P : Completed → Type 0) (T : Table) (d : Completed) (ds : List ℕ) (fs : List (Pos × FaultKind)) → P d
    → OnOutcome P (elim ds [ s ∷ ss ↦ Doubled (fold (first_declared T) s ss) | [] ↦ (elim fs [ f ∷ gs ↦ Faulted (fold earlier f gs).0 (fold earlier f gs).1 | [] ↦ Completes d ]) ])
by_doubled P T d [] [] h = h
by_doubled P T d [] (f ∷ fs) h = tt
by_doubled P T d (s ∷ ss) fs h = tt

by_ran : (p : Statement) (c : Control) (T : Table) (os : List Outer) (last : ℕ) (E : Env) (o : Option Ran) → OnRan (Steps p c) o → OnOutcome (Moves p c last) (concluded T os last E o)
unfolding OnRan
by_ran p c T os last E (Some r) h =
    by_doubled (Moves p c last) T (completed T os last E r) (leave_all T os r.stepped).doubled (leave_all T os r.stepped).faults (record { stepped = r.stepped; steps = h; next = refl; touches = refl })
by_ran p c T os last E None h = tt

by_undecided : (P : Completed → Type 0) (o : Outcome) (ss : List ℕ) → OnOutcome P o → OnOutcome P (elim ss [ [] ↦ o | s ∷ us ↦ Undecided (s ∷ us) ])
by_undecided P o [] h = h
by_undecided P o (s ∷ ss) h = tt

pub moves : (K : Kernel) (c : Control) (before : List Last) (is : List (ℕ × Value)) (last : ℕ) → OnOutcome (Moves K.statement c last) (reaction K c before is last)
moves K c before is last =
    let T = table_of K in
    let os = outers_from 0 is before in
    let E = solved T os (program_must_can T K.statement c) blank in
    by_undecided (Moves K.statement c last) (concluded T os last E (program_step T K.statement c E)) (undecided E os) (by_ran K.statement c T os last E (program_step T K.statement c E) (program_steps T K.statement c E))

-- The laws of Must, Can, Solve and Step, as statements. The public functions of `laws` have them as
-- contracts. (Berry, The
-- Constructive Semantics of Pure Esterel; with values, previous status and value, faults and async they
-- are this project's own.)
use Rattle.std.specs.Prelude.{◌≡◌, ℕ, Bool, true, Some, List}
use Rattle.hh_base.specs.declared.value.Value.{Value}
use Rattle.host_expr.specs.Environment.{Env, unsolved}
use Rattle.host_expr.specs.Knows.{EnvBelow}
use Rattle.hh_term.specs.declared.term.Term.{Term}
use Rattle.hh_term.specs.declared.program.Program.{Program}
use Rattle.hh_term.specs.Statement.{Statement}
use Rattle.hh_term.specs.Views.{statement_of}
use Rattle.hh_term.specs.Placed.{unplaced, placed_term, unplaced_kernel}
use Rattle.hh_term.specs.ProgramView.{kernel_of, placed_of}
use Rattle.hh_term.specs.Selection.{Control, Task, Start}
use Rattle.hh_term.specs.Codes.{only, static_codes}
use Rattle.hh_term.specs.Scopes.{LoopsWait}
use Rattle.hh_term.specs.MustCan.{Table, Index, Executed, Possible, must_can, round, solve}
use Rattle.hh_term.specs.Step.{Stepped, step}
use Rattle.hh_term.specs.Reaction.{Outer, with_given, solved_cell, nest, program_must_can}
use Rattle.hh_term.specs.Knows.{IndexBelow, MustCanBelow, MustWithinCan, NothingSure}

-- Where more is known of the signals, or of what is executed, more must be done and less can be done.
abbrev pub MustExtendsCanShrinks : Type 0
MustExtendsCanShrinks =
    (T : Table) (p : Statement) (t : Task) (i j : Index) (E F : Env) →
    IndexBelow i j → EnvBelow E F → MustCanBelow (must_can T p t i E) (must_can T p t j F)

-- What must be done can be done.
abbrev pub MustIsWithinCan : Type 0
MustIsWithinCan =
    (T : Table) (p : Statement) (t : Task) (i : Index) (E : Env) → MustWithinCan (must_can T p t i E)

-- Nothing must be done where the statement is only possible.
abbrev pub NothingIsSureWherePossible : Type 0
NothingIsSureWherePossible =
    (T : Table) (p : Statement) (t : Task) (E : Env) → NothingSure (must_can T p t Possible E)

-- A third round of Solve changes nothing.
abbrev pub TwoRoundsStandStill : Type 0
TwoRoundsStandStill =
    (T : Table) (p : Statement) (t : Task) (i : Index) (s : ℕ) (E : Env) (pre : Bool) (preval : Value) →
    round T s (must_can T p t i) E (solve T s (must_can T p t i) E (unsolved pre preval))
    ≡ solve T s (must_can T p t i) E (unsolved pre preval)

-- Nor does it for an interface signal, a given input counting as one more emission.
abbrev pub InterfaceStandsStill : Type 0
InterfaceStandsStill =
    (T : Table) (p : Statement) (c : Control) (o : Outer) (os : List Outer) (E : Env) →
    let inner = nest T os (program_must_can T p c) in
    round T o.signal (λ F. with_given o (inner F)) E (solved_cell T o inner E) ≡ solved_cell T o inner E

-- A defined step emits what must be emitted.
abbrev pub StepHasTheBagOfMust : Type 0
StepHasTheBagOfMust =
    (T : Table) (p : Statement) (t : Task) (E : Env) (a : Stepped) → step T p t E ≡ Some a
    → (must_can T p t Executed E).must ≡ a.bag

-- A defined step completes with the code of Must.
abbrev pub StepHasTheCodeOfMust : Type 0
StepHasTheCodeOfMust =
    (T : Table) (p : Statement) (t : Task) (E : Env) (a : Stepped) → step T p t E ≡ Some a
    → (must_can T p t Executed E).code ≡ Some a.code

-- A started statement can complete only with its static codes.
abbrev pub StartedCodesAreStatic : Type 0
StartedCodesAreStatic =
    (T : Table) (p : Statement) (i : Index) (E : Env) → LoopsWait p →
    (c : ℕ) → (must_can T p Start i E).codes c ≡ true → static_codes p c ≡ true

-- Without its positions a term is the statement that it stands for.
abbrev pub TermsAreUnplaced : Type 0
TermsAreUnplaced = (t : Term) → unplaced (placed_term t) ≡ statement_of t

-- So is a program.
abbrev pub ProgramsAreUnplaced : Type 0
ProgramsAreUnplaced = (p : Program) → unplaced_kernel (placed_of p) ≡ kernel_of p

-- Where a statement must complete with a code, it can complete with that code alone.
abbrev pub MustCodeIsTheOnlyCode : Type 0
MustCodeIsTheOnlyCode =
    (T : Table) (p : Statement) (t : Task) (i : Index) (E : Env) (d : ℕ) → (must_can T p t i E).code ≡ Some d →
    (c : ℕ) → (must_can T p t i E).codes c ≡ only d c

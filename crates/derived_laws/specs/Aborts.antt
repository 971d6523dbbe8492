-- `abort` and `weakabort`, without a count. (HipHop.js, Berry and Serrano, PLDI 2020; strong and weak
-- preemption are those of Berry, The Esterel v5 Language Primer.)
use Rattle.std.specs.Prelude.{◌≡◌, ℕ, Some, None, option_map}
use Rattle.hh_base.specs.declared.value.Pos.{Pos}
use Rattle.host_expr.specs.declared.expr.Expr.{Expr}
use Rattle.host_expr.specs.Environment.{Env}
use Rattle.hh_term.specs.Statement.{Statement}
use Rattle.hh_term.specs.Selection.{Selection, First, Second, Both, Inside, Start, Resume}
use Rattle.hh_term.specs.MustCan.{Table}
use Rattle.hh_term.specs.Step.{completes, on_test, step}
use Rattle.hh_term.specs.Placed.{unplaced}
use Rattle.kernel_expand.specs.Numbering.{Piece, Around, Numbered, numbering, in_numbers, in_trap}
use Rattle.kernel_expand.specs.Rows as row
use Rattle.derived_laws.specs.Statements.{plain, test}
use Rattle.derived_laws.specs.Reactions.{inside, killed, preempts, cuts}
use Rattle.derived_laws.specs.Resting.{RestsAt, Round}
use Rattle.derived_laws.specs.Waits.{waiting, waiting_now}

-- where control rests in each, with the body's mark in it
abbrev pub aborting : Selection → Selection
aborting m = Inside (Both (First (Inside m)) waiting)

abbrev pub aborting_now : Selection → Selection
aborting_now m = Second (aborting m)

abbrev pub weakly_aborting : Selection → Selection
weakly_aborting m = Inside (Both (First m) waiting)

abbrev pub weakly_aborting_now : Selection → Selection
weakly_aborting_now m = Inside (Both (First m) waiting_now)

-- A body inside the statement's own trap, where what is numbered in it leaves the numbers of the test's signals
-- as they are.
pub record StandsIn (p : Piece) (d : Expr ℕ) (a : Around) (n : Numbered) : Type 0 where
  pub kept : in_numbers (p (in_trap None a) n).1 d ≡ in_numbers n d

abbrev pub body : Piece → Around → Numbered → Statement
body p a n = unplaced (p (in_trap None a) n).0

-- the body reacts until the test holds in a later reaction, in which it is killed
pub record AbortObeys : Type 0 where
  pub at_start : (T : Table) (E : Env) (d : Expr ℕ) (p : Statement)
      → step T (row.abort plain d p) Start E ≡ option_map (inside aborting) (step T p Start E)
  pub later : (T : Table) (E : Env) (d : Expr ℕ) (p : Statement) (m : Selection) →
      step T (row.abort plain d p) (Resume (aborting m)) E
      ≡ preempts aborting (test d E) (killed p m) (step T p (Resume m) E)
  pub marks : (T : Table) (d : Expr ℕ) (p : Statement) (n : Selection)
      → RestsAt T (row.abort plain d p) n → Round aborting T p n
  pub expands : (modules : ℕ → Piece) (pos : Pos) (d : Expr ℕ) (p : Piece) (a : Around) (n : Numbered)
      → StandsIn p d a n →
      unplaced (row.abort (numbering modules pos) d p a n).0 ≡ row.abort plain (in_numbers n d) (body p a n)

-- as `abort`, but it ends at once where the test holds as it is started: then the body is not
pub record AbortImmediateObeys : Type 0 where
  pub at_start : (T : Table) (E : Env) (d : Expr ℕ) (p : Statement) →
      step T (row.abort_immediate plain d p) Start E
      ≡ on_test (test d E) (Some (completes 0)) (option_map (inside aborting_now) (step T p Start E))
  pub later : (T : Table) (E : Env) (d : Expr ℕ) (p : Statement) (m : Selection) →
      step T (row.abort_immediate plain d p) (Resume (aborting_now m)) E
      ≡ preempts aborting_now (test d E) (killed p m) (step T p (Resume m) E)
  pub marks : (T : Table) (d : Expr ℕ) (p : Statement) (n : Selection)
      → RestsAt T (row.abort_immediate plain d p) n → Round aborting_now T p n
  pub expands : (modules : ℕ → Piece) (pos : Pos) (d : Expr ℕ) (p : Piece) (a : Around) (n : Numbered)
      → StandsIn p d a n →
      unplaced (row.abort_immediate (numbering modules pos) d p a n).0
      ≡ row.abort_immediate plain (in_numbers n d) (body p a n)

-- the body reacts until the test holds in a later reaction, in which it reacts for the last time
pub record WeakAbortObeys : Type 0 where
  pub at_start : (T : Table) (E : Env) (d : Expr ℕ) (p : Statement)
      → step T (row.weak_abort plain d p) Start E ≡ option_map (inside weakly_aborting) (step T p Start E)
  pub later : (T : Table) (E : Env) (d : Expr ℕ) (p : Statement) (m : Selection) →
      step T (row.weak_abort plain d p) (Resume (weakly_aborting m)) E
      ≡ cuts weakly_aborting (test d E) (step T p (Resume m) E)
  pub marks : (T : Table) (d : Expr ℕ) (p : Statement) (n : Selection)
      → RestsAt T (row.weak_abort plain d p) n → Round weakly_aborting T p n
  pub expands : (modules : ℕ → Piece) (pos : Pos) (d : Expr ℕ) (p : Piece) (a : Around) (n : Numbered)
      → StandsIn p d a n →
      unplaced (row.weak_abort (numbering modules pos) d p a n).0
      ≡ row.weak_abort plain (in_numbers n d) (body p a n)

-- the body reacts until the test holds, in the reaction of its start or later; then it reacts for the last time
pub record WeakAbortImmediateObeys : Type 0 where
  pub at_start : (T : Table) (E : Env) (d : Expr ℕ) (p : Statement) →
      step T (row.weak_abort_immediate plain d p) Start E
      ≡ cuts weakly_aborting_now (test d E) (step T p Start E)
  pub later : (T : Table) (E : Env) (d : Expr ℕ) (p : Statement) (m : Selection) →
      step T (row.weak_abort_immediate plain d p) (Resume (weakly_aborting_now m)) E
      ≡ cuts weakly_aborting_now (test d E) (step T p (Resume m) E)
  pub marks : (T : Table) (d : Expr ℕ) (p : Statement) (n : Selection)
      → RestsAt T (row.weak_abort_immediate plain d p) n → Round weakly_aborting_now T p n
  pub expands : (modules : ℕ → Piece) (pos : Pos) (d : Expr ℕ) (p : Piece) (a : Around) (n : Numbered)
      → StandsIn p d a n →
      unplaced (row.weak_abort_immediate (numbering modules pos) d p a n).0
      ≡ row.weak_abort_immediate plain (in_numbers n d) (body p a n)

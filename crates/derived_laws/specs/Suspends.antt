-- `suspend immediate`. (HipHop.js, Berry and Serrano, PLDI 2020; suspension is that of Berry, The Esterel v5
-- Language Primer.)
use Rattle.std.specs.Prelude.{◌≡◌, ℕ, Some, []}
use Rattle.hh_base.specs.declared.value.Pos.{Pos}
use Rattle.host_expr.specs.declared.expr.Expr.{Expr}
use Rattle.host_expr.specs.Environment.{Env}
use Rattle.hh_term.specs.Statement.{Statement}
use Rattle.hh_term.specs.Selection.{Selection, AtPause, First, Second, Inside, Start, Resume}
use Rattle.hh_term.specs.Touches.{held_mark, held_touches}
use Rattle.hh_term.specs.MustCan.{Table}
use Rattle.hh_term.specs.Step.{rests, wrap, on_test, step}
use Rattle.hh_term.specs.Placed.{unplaced}
use Rattle.kernel_expand.specs.Numbering.{Piece, Around, Numbered, numbering, in_numbers}
use Rattle.kernel_expand.specs.Rows as row
use Rattle.derived_laws.specs.Statements.{plain, test}
use Rattle.derived_laws.specs.Resting.{RestsAt}

-- where control rests before the body is started, and with the body's mark in it
abbrev pub suspended : Selection
suspended = Inside (First (First AtPause))

abbrev pub suspending : Selection → Selection
suspending m = Inside (Second m)

pub data SuspendRests (T : Table) (p : Statement) : Selection → Type 0 where
  before : SuspendRests T p suspended
  round : (m : Selection) → RestsAt T p m → SuspendRests T p (suspending m)

-- the body is started in the first reaction in which the test does not hold; later it is held where the test
-- holds, and reacts where it does not
pub record SuspendImmediateObeys : Type 0 where
  pub at_start : (T : Table) (E : Env) (d : Expr ℕ) (p : Statement) →
      step T (row.suspend_immediate plain d p) Start E
      ≡ on_test (test d E) (Some (rests suspended [])) (wrap suspending (step T p Start E))
  pub before : (T : Table) (E : Env) (d : Expr ℕ) (p : Statement) →
      step T (row.suspend_immediate plain d p) (Resume suspended) E
      ≡ on_test (test d E) (Some (rests suspended [])) (wrap suspending (step T p Start E))
  pub later : (T : Table) (E : Env) (d : Expr ℕ) (p : Statement) (m : Selection) →
      step T (row.suspend_immediate plain d p) (Resume (suspending m)) E
      ≡ on_test (test d E) (Some (rests (suspending (held_mark m)) (held_touches p m)))
      (wrap suspending (step T p (Resume m) E))
  pub marks : (T : Table) (d : Expr ℕ) (p : Statement) (n : Selection)
      → RestsAt T (row.suspend_immediate plain d p) n → SuspendRests T p n
  pub expands : (modules : ℕ → Piece) (pos : Pos) (d : Expr ℕ) (p : Piece) (a : Around) (n : Numbered) →
      unplaced (row.suspend_immediate (numbering modules pos) d p a n).0
      ≡ row.suspend_immediate plain (in_numbers n d) (unplaced (p a n).0)

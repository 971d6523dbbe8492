-- Statements without a body: `halt`, `sustain` and `await`. (HipHop.js, Berry and Serrano, PLDI 2020.)
use Rattle.std.specs.Prelude.{◌≡◌, ℕ, Option, Some, [], option_map}
use Rattle.hh_base.specs.declared.value.Pos.{Pos}
use Rattle.host_expr.specs.declared.expr.Expr.{Expr}
use Rattle.host_expr.specs.Environment.{Env}
use Rattle.host_expr.specs.Expression.{optional_expression}
use Rattle.hh_term.specs.Selection.{Selection, AtPause, First, Second, Inside, Start, Resume}
use Rattle.hh_term.specs.MustCan.{Table, emitted}
use Rattle.hh_term.specs.Step.{Stepped, completes, rests, on_test, emit_step, step}
use Rattle.hh_term.specs.Placed.{unplaced}
use Rattle.kernel_expand.specs.Numbering.{Piece, Around, Numbered, numbering, in_numbers, number_of}
use Rattle.kernel_expand.specs.Numbering.{value_in_numbers}
use Rattle.kernel_expand.specs.Rows as row
use Rattle.derived_laws.specs.Statements.{plain, test}
use Rattle.derived_laws.specs.Resting.{RestsAt}

-- where control rests in each
abbrev pub halted : Selection
halted = Inside AtPause

abbrev pub sustaining : Selection
sustaining = Inside (Second AtPause)

abbrev pub waiting : Selection
waiting = Inside (First AtPause)

abbrev pub waiting_now : Selection
waiting_now = Inside (Second AtPause)

abbrev pub awaiting : Selection
awaiting = Inside waiting

abbrev pub awaiting_now : Selection
awaiting_now = Inside waiting_now

-- rests for ever
pub record HaltObeys : Type 0 where
  pub at_start : (T : Table) (E : Env) → step T (row.halt plain) Start E ≡ Some (rests halted [])
  pub later : (T : Table) (E : Env) → step T (row.halt plain) (Resume halted) E ≡ Some (rests halted [])
  pub marks : (T : Table) (m : Selection) → RestsAt T (row.halt plain) m → m ≡ halted
  pub expands : (modules : ℕ → Piece) (pos : Pos) (a : Around) (n : Numbered)
      → unplaced (row.halt (numbering modules pos) a n).0 ≡ row.halt plain

-- emits, and rests
abbrev pub sustained : Stepped → Stepped
sustained a = record a { code = 1; next = Some sustaining }

-- emits in each reaction, and rests for ever
pub record SustainObeys : Type 0 where
  pub at_start : (T : Table) (E : Env) (s : ℕ) (e : Option (Expr ℕ)) →
      step T (row.sustain plain s e) Start E
      ≡ option_map sustained (emit_step s (emitted (optional_expression e) E))
  pub later : (T : Table) (E : Env) (s : ℕ) (e : Option (Expr ℕ)) →
      step T (row.sustain plain s e) (Resume sustaining) E
      ≡ option_map sustained (emit_step s (emitted (optional_expression e) E))
  pub marks : (T : Table) (s : ℕ) (e : Option (Expr ℕ)) (m : Selection)
      → RestsAt T (row.sustain plain s e) m → m ≡ sustaining
  pub expands : (modules : ℕ → Piece) (pos : Pos) (s : ℕ) (e : Option (Expr ℕ)) (a : Around) (n : Numbered) →
      unplaced (row.sustain (numbering modules pos) s e a n).0
      ≡ row.sustain plain (number_of n s) (value_in_numbers n e)

-- rests when it is started, and ends in the first later reaction in which the test holds
pub record AwaitObeys : Type 0 where
  pub at_start : (T : Table) (E : Env) (d : Expr ℕ)
      → step T (row.await plain d) Start E ≡ Some (rests awaiting [])
  pub later : (T : Table) (E : Env) (d : Expr ℕ) →
      step T (row.await plain d) (Resume awaiting) E
      ≡ on_test (test d E) (Some (completes 0)) (Some (rests awaiting []))
  pub marks : (T : Table) (d : Expr ℕ) (m : Selection) → RestsAt T (row.await plain d) m → m ≡ awaiting
  pub expands : (modules : ℕ → Piece) (pos : Pos) (d : Expr ℕ) (a : Around) (n : Numbered) →
      unplaced (row.await (numbering modules pos) d a n).0 ≡ row.await plain (in_numbers n d)

-- ends in the first reaction in which the test holds
pub record AwaitImmediateObeys : Type 0 where
  pub at_start : (T : Table) (E : Env) (d : Expr ℕ) →
      step T (row.await_immediate plain d) Start E
      ≡ on_test (test d E) (Some (completes 0)) (Some (rests awaiting_now []))
  pub later : (T : Table) (E : Env) (d : Expr ℕ) →
      step T (row.await_immediate plain d) (Resume awaiting_now) E
      ≡ on_test (test d E) (Some (completes 0)) (Some (rests awaiting_now []))
  pub marks : (T : Table) (d : Expr ℕ) (m : Selection)
      → RestsAt T (row.await_immediate plain d) m → m ≡ awaiting_now
  pub expands : (modules : ℕ → Piece) (pos : Pos) (d : Expr ℕ) (a : Around) (n : Numbered) →
      unplaced (row.await_immediate (numbering modules pos) d a n).0 ≡
      row.await_immediate plain (in_numbers n d)

-- `abort` with a count. (HipHop.js, Berry and Serrano, PLDI 2020; strong preemption is that of Berry, The
-- Esterel v5 Language Primer.)
use Rattle.std.specs.Prelude.{◌≡◌, ℕ, false, Option, Some, None, List, [], ◌∷◌, length, option_map}
use Rattle.hh_base.specs.declared.value.Pos.{Pos}
use Rattle.hh_base.specs.declared.value.Value.TheVariants as value
use Rattle.host_expr.specs.declared.expr.Expr.{Expr}
use Rattle.host_expr.specs.declared.cell.SigCell.{SigCell}
use Rattle.host_expr.specs.Environment.{Env, put}
use Rattle.host_expr.specs.Expression.{expression_of}
use Rattle.hh_term.specs.Statement.{Statement}
use Rattle.hh_term.specs.Selection.{Selection, First, Both, Inside, Scope, Task, Start, Resume}
use Rattle.hh_term.specs.MustCan.{Table, Index, must_can, cells_of}
use Rattle.hh_term.specs.Step.{Stepped, step}
use Rattle.hh_term.specs.Placed.{unplaced}
use Rattle.kernel_expand.specs.Numbering.{Piece, Around, Numbered, numbering, in_numbers, with_signal}
use Rattle.kernel_expand.specs.Numbering.{counter_signal}
use Rattle.kernel_expand.specs.Rows as row
use Rattle.derived_laws.specs.Statements.{kernel, test}
use Rattle.derived_laws.specs.Mentions.{Unread, Unmentioned}
use Rattle.derived_laws.specs.Reactions.{inside, killed, then_fault, by_test}
use Rattle.derived_laws.specs.Resting.{RestsAt}
use Rattle.derived_laws.specs.Counts.{turns, Turn, CountRests}

-- The signal that counts is the row's own, and pure: test and body do not depend on it, and the body does not
-- emit it. So it is where neither mentions it.
pub record IsOwn (T : Table) (c : ℕ) (d : Expr ℕ) (p : Statement) : Type 0 where
  pub first : T.first c ≡ value.Unit
  pub unread : (E : Env) (x : SigCell) → test d (put E c x) ≡ test d E
  pub step : (t : Task) (E : Env) (x : SigCell) → step T p t (put E c x) ≡ step T p t E
  pub must : (t : Task) (i : Index) (E : Env) → cells_of c (must_can T p t i E).must ≡ []
  pub can : (t : Task) (i : Index) (E : Env) → cells_of c (must_can T p t i E).can ≡ []

-- where control rests, with the mark of what counts and the body's
abbrev pub counting_down : Selection → Selection → Selection
counting_down w m = Inside (Scope (Both (First (Inside m)) (First (First w))) false value.Unit)

-- the test has held once more: the body reacts, and is killed where that was the last time
abbrev pub counted_down : List Selection → Stepped → Option Stepped → Option Stepped
counted_down [] kill p = Some kill
counted_down (w ∷ ws) kill p = option_map (inside (counting_down w)) p

-- the body inside the trap and the counter of its row, and that it leaves the numbers of the test's signals as
-- they are
abbrev pub in_counter : Around → Numbered → Around
in_counter a n = record { traps = None ∷ a.traps; counter = length n.signals }

abbrev pub counted_body : Pos → Piece → Around → Numbered → Statement
counted_body pos p a n = unplaced (p (in_counter a n) (with_signal (counter_signal pos) n)).0

pub record StandsBelow (pos : Pos) (p : Piece) (d : Expr ℕ) (a : Around) (n : Numbered) : Type 0 where
  pub kept : in_numbers (p (in_counter a n) (with_signal (counter_signal pos) n)).1 d ≡ in_numbers n d

-- the body reacts until the test holds in the n-th later reaction, in which it is killed
pub record AbortCountObeys : Type 0 where
  pub own : (T : Table) (c : ℕ) (d : Expr ℕ) (p : Statement) → T.first c ≡ value.Unit
      → Unread c (expression_of d) → Unmentioned T c p → IsOwn T c d p
  pub at_start : (T : Table) (E : Env) (c n : ℕ) (d : Expr ℕ) (p : Statement) (w : Selection)
      (ws : List Selection) → IsOwn T c d p → turns n ≡ w ∷ ws →
      step T (row.abort_count (kernel c) n d p) Start E ≡
      option_map (inside (counting_down w)) (step T p Start E)
  pub later : (T : Table) (E : Env) (c n : ℕ) (d : Expr ℕ) (p : Statement) (w : Selection)
      (rest : List Selection)
      (m : Selection) → IsOwn T c d p → Turn (turns n) w rest →
      step T (row.abort_count (kernel c) n d p) (Resume (counting_down w m)) E
      ≡ by_test (test d E) (counted_down rest (killed p m) (step T p (Resume m) E))
      (option_map (λ a. then_fault (test d E) (inside (counting_down w) a)) (step T p (Resume m) E))
  pub marks : (T : Table) (c n : ℕ) (d : Expr ℕ) (p : Statement) (w : Selection)
      (ws : List Selection) (m : Selection)
      → IsOwn T c d p → turns n ≡ w ∷ ws → RestsAt T (row.abort_count (kernel c) n d p) m
      → CountRests counting_down (turns n) T p m
  pub expands : (modules : ℕ → Piece) (pos : Pos) (i : ℕ) (d : Expr ℕ) (p : Piece) (a : Around) (n : Numbered)
      → StandsBelow pos p d a n →
      unplaced (row.abort_count (numbering modules pos) i d p a n).0
      ≡ row.abort_count (kernel (length n.signals)) i (in_numbers n d) (counted_body pos p a n)

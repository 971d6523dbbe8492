-- `count` in `await` and in `weakabort`: the test has to hold so many times. (HipHop.js, Berry and Serrano,
-- PLDI 2020.)
use Rattle.std.specs.Prelude.{◌≡◌, ℕ, Option, Some, List, [], ◌∷◌, ◌++◌, map, length, replicate, option_map}
use Rattle.hh_base.specs.declared.value.Pos.{Pos}
use Rattle.host_expr.specs.declared.expr.Expr.{Expr}
use Rattle.host_expr.specs.Environment.{Env}
use Rattle.hh_term.specs.Statement.{Statement}
use Rattle.hh_term.specs.Selection.{Selection, First, Second, Both, Inside, Start, Resume}
use Rattle.hh_term.specs.MustCan.{Table}
use Rattle.hh_term.specs.Step.{Stepped, completes, rests, on_test, step}
use Rattle.hh_term.specs.Placed.{unplaced}
use Rattle.kernel_expand.specs.Halves.{in_halves}
use Rattle.kernel_expand.specs.Numbering.{Piece, Around, Numbered, numbering, in_numbers}
use Rattle.kernel_expand.specs.Rows as row
use Rattle.derived_laws.specs.Statements.{plain, test}
use Rattle.derived_laws.specs.Reactions.{inside, cut, then_fault, by_test}
use Rattle.derived_laws.specs.Resting.{RestsAt}
use Rattle.derived_laws.specs.Waits.{awaiting}
use Rattle.derived_laws.specs.Aborts.{StandsIn, body}

-- where control rests in statements one after the other, in turn
abbrev pub one_after_other : List Selection → List Selection → List Selection
one_after_other ms ns = map First ms ++ map Second ns

-- where it rests while a test is to hold so many times: one mark for each
abbrev pub turns : ℕ → List Selection
turns n = in_halves one_after_other [] (replicate n (awaiting ∷ []))

-- one of these marks, and those behind it
pub data Turn : List Selection → Selection → List Selection → Type 0 where
  now : (m : Selection) (ms : List Selection) → Turn (m ∷ ms) m ms
  later : (m n : Selection) (ms rest : List Selection) → Turn ms n rest → Turn (m ∷ ms) n rest

-- rests at the first of these marks, and ends where there is none
abbrev pub goes_to : List Selection → Option Stepped
goes_to [] = Some (completes 0)
goes_to (m ∷ ms) = Some (rests m [])

-- ends in the n-th later reaction in which the test holds
pub record AwaitCountObeys : Type 0 where
  pub counts : (n : ℕ) → length (turns n) ≡ n
  pub at_start : (T : Table) (E : Env) (n : ℕ) (d : Expr ℕ)
      → step T (row.await_count plain n d) Start E ≡ goes_to (turns n)
  pub later : (T : Table) (E : Env) (n : ℕ) (d : Expr ℕ) (m : Selection) (rest : List Selection)
      → Turn (turns n) m rest →
      step T (row.await_count plain n d) (Resume m) E
      ≡ on_test (test d E) (goes_to rest) (Some (rests m []))
  pub marks : (T : Table) (n : ℕ) (d : Expr ℕ) (m : Selection)
      → RestsAt T (row.await_count plain n d) m → (rest : List Selection) × Turn (turns n) m rest
  pub expands : (modules : ℕ → Piece) (pos : Pos) (i : ℕ) (d : Expr ℕ) (a : Around) (n : Numbered) →
      unplaced (row.await_count (numbering modules pos) i d a n).0 ≡ row.await_count plain i (in_numbers n d)

-- where control rests in `weakabort count`, with the mark of what counts and the body's
abbrev pub counting : Selection → Selection → Selection
counting w m = Inside (Both (First m) (First w))

-- the test has held once more: the body goes on, and is ended where that was the last time
abbrev pub counted : List Selection → Option Stepped → Option Stepped
counted [] p = option_map cut p
counted (w ∷ ws) p = option_map (inside (counting w)) p

-- the statement's mark round one of those in turn and one at which its body rests
pub data CountRests (f : Selection → Selection → Selection) (ws : List Selection) (T : Table) (p : Statement)
    : Selection → Type 0 where
  at_turn : (w : Selection) (rest : List Selection) (m : Selection) → Turn ws w rest → RestsAt T p m
      → CountRests f ws T p (f w m)

-- the body reacts until the test holds in the n-th later reaction, in which it reacts for the last time
pub record WeakAbortCountObeys : Type 0 where
  pub at_start : (T : Table) (E : Env) (n : ℕ) (d : Expr ℕ) (p : Statement)
      → step T (row.weak_abort_count plain n d p) Start E ≡ counted (turns n) (step T p Start E)
  pub later : (T : Table) (E : Env) (n : ℕ) (d : Expr ℕ) (p : Statement) (w : Selection) (rest : List Selection)
      (m : Selection) → Turn (turns n) w rest →
      step T (row.weak_abort_count plain n d p) (Resume (counting w m)) E
      ≡ by_test (test d E) (counted rest (step T p (Resume m) E))
      (option_map (λ a. then_fault (test d E) (inside (counting w) a)) (step T p (Resume m) E))
  pub marks : (T : Table) (n : ℕ) (d : Expr ℕ) (p : Statement) (m : Selection)
      → RestsAt T (row.weak_abort_count plain n d p) m → CountRests counting (turns n) T p m
  pub expands : (modules : ℕ → Piece) (pos : Pos) (i : ℕ) (d : Expr ℕ) (p : Piece) (a : Around) (n : Numbered)
      → StandsIn p d a n →
      unplaced (row.weak_abort_count (numbering modules pos) i d p a n).0
      ≡ row.weak_abort_count plain i (in_numbers n d) (body p a n)

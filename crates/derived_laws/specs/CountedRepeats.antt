-- `do .. every` and `every` with a count: their body starts anew each n-th time that the test holds.
-- (HipHop.js, Berry and Serrano, PLDI 2020.)
use Rattle.std.specs.Prelude.{◌≡◌, ℕ, Option, Some, List, [], ◌∷◌, length, option_map}
use Rattle.hh_base.specs.declared.value.Pos.{Pos}
use Rattle.host_expr.specs.declared.cell.Cell.{Cell}
use Rattle.host_expr.specs.declared.expr.Expr.{Expr}
use Rattle.host_expr.specs.Environment.{Env}
use Rattle.hh_term.specs.Statement.{Statement}
use Rattle.hh_term.specs.Selection.{Selection, First, Second, Inside, Start, Resume}
use Rattle.hh_term.specs.MustCan.{Table}
use Rattle.hh_term.specs.Step.{Stepped, completes, rests, joined, on_test, step}
use Rattle.hh_term.specs.Placed.{unplaced}
use Rattle.kernel_expand.specs.Numbering.{Piece, Around, Numbered, numbering, in_numbers}
use Rattle.kernel_expand.specs.Rows as row
use Rattle.derived_laws.specs.Statements.{kernel, test}
use Rattle.derived_laws.specs.Reactions.{inside, killed, then_fault, by_test}
use Rattle.derived_laws.specs.Resting.{RestsAt}
use Rattle.derived_laws.specs.Counts.{turns, Turn}
use Rattle.derived_laws.specs.CountedAborts.{IsOwn, counting_down, counted_body, StandsBelow}
use Rattle.derived_laws.specs.Repeats.{idle, halts_behind, begins, StaysIn}

-- where control rests in each, with the mark of what counts, and round `First m` with the body's mark or `idle`
abbrev pub renewing_down : Selection → Selection → Selection
renewing_down w n = Inside (counting_down w n)

abbrev pub repeating_down : Selection → Selection → Selection
repeating_down w n = Second (renewing_down w n)

-- the test has held once more: the body reacts; where that was the last time, what runs of it is killed, and
-- body and count start anew
abbrev pub counted_anew : (Selection → Selection → Selection) → Selection → List Selection → Stepped
    → Option Stepped → Option Stepped → Option Stepped
counted_anew f first [] kill p again = option_map (λ b. joined kill b) (begins (f first) again)
counted_anew f first (w ∷ ws) kill p again = begins (f w) p

-- in a reaction with the mark w of what counts, behind which these are left
abbrev pub renews_counted : (Selection → Selection → Selection) → Cell → Selection → Selection → List Selection
    → Stepped → Option Stepped → Option Stepped → Option Stepped
renews_counted f c first w rest kill p again =
    by_test c (counted_anew f first rest kill p again) (option_map (λ a. then_fault c (inside (f w) a)) p)

-- the test has held once more before the body was started
abbrev pub counted_first : (Selection → Selection → Selection) → Selection → List Selection → Option Stepped
    → Option Stepped
counted_first f first [] p = begins (f first) p
counted_first f first (w ∷ ws) p = Some (rests (First w) [])

pub data CountRenewRests (f : Selection → Selection → Selection) (ws : List Selection)
    (T : Table) (p : Statement)
    : Selection → Type 0 where
  runs : (w : Selection) (rest : List Selection) (m : Selection) → Turn ws w rest → RestsAt T p m
      → CountRenewRests f ws T p (f w (First m))
  ended : (w : Selection) (rest : List Selection) → Turn ws w rest → CountRenewRests f ws T p (f w idle)

pub data EveryCountRests (ws : List Selection) (T : Table) (p : Statement) : Selection → Type 0 where
  before : (w : Selection) (rest : List Selection) → Turn ws w rest → EveryCountRests ws T p (First w)
  behind : (n : Selection) → CountRenewRests renewing_down ws T p n → EveryCountRests ws T p (Second n)

-- the body is started, and starts anew each n-th time that the test holds; what ran is killed
pub record DoEveryCountObeys : Type 0 where
  pub at_start : (T : Table) (E : Env) (c n : ℕ) (d : Expr ℕ) (p : Statement) (first : Selection)
      (ws : List Selection) → IsOwn T c d p → turns n ≡ first ∷ ws →
      step T (row.do_every_count (kernel c) n d p) Start E
      ≡ begins (renewing_down first) (halts_behind (step T p Start E))
  pub later : (T : Table) (E : Env) (c n : ℕ) (d : Expr ℕ) (p : Statement) (first w : Selection)
      (ws rest : List Selection) (m : Selection) → IsOwn T c d p → turns n ≡ first ∷ ws → Turn (turns n) w rest
      → StaysIn (step T p (Resume m) E) →
      step T (row.do_every_count (kernel c) n d p) (Resume (renewing_down w (First m))) E
      ≡ renews_counted renewing_down (test d E) first w rest (killed p m) (halts_behind (step T p (Resume m) E))
      (halts_behind (step T p Start E))
  pub when_idle : (T : Table) (E : Env) (c n : ℕ) (d : Expr ℕ) (p : Statement) (first w : Selection)
      (ws rest : List Selection) → IsOwn T c d p → turns n ≡ first ∷ ws → Turn (turns n) w rest →
      step T (row.do_every_count (kernel c) n d p) (Resume (renewing_down w idle)) E
      ≡ renews_counted renewing_down (test d E) first w rest (completes 0) (Some (rests idle []))
      (halts_behind (step T p Start E))
  pub marks : (T : Table) (c n : ℕ) (d : Expr ℕ) (p : Statement) (first : Selection) (ws : List Selection)
      (m : Selection) → IsOwn T c d p → turns n ≡ first ∷ ws → RestsAt T (row.do_every_count (kernel c) n d p) m
      → CountRenewRests renewing_down (turns n) T p m
  pub expands : (modules : ℕ → Piece) (pos : Pos) (i : ℕ) (d : Expr ℕ) (p : Piece) (a : Around) (n : Numbered)
      → StandsBelow pos p d a n →
      unplaced (row.do_every_count (numbering modules pos) i d p a n).0
      ≡ row.do_every_count (kernel (length n.signals)) i (in_numbers n d) (counted_body pos p a n)

-- the body is not started until the test holds in the n-th later reaction
pub record EveryCountObeys : Type 0 where
  pub at_start : (T : Table) (E : Env) (c n : ℕ) (d : Expr ℕ) (p : Statement) (first : Selection)
      (ws : List Selection) → turns n ≡ first ∷ ws →
      step T (row.every_count (kernel c) n d p) Start E ≡ Some (rests (First first) [])
  pub before : (T : Table) (E : Env) (c n : ℕ) (d : Expr ℕ) (p : Statement) (first w : Selection)
      (ws rest : List Selection) → IsOwn T c d p → turns n ≡ first ∷ ws → Turn (turns n) w rest →
      step T (row.every_count (kernel c) n d p) (Resume (First w)) E
      ≡ on_test (test d E) (counted_first repeating_down first rest (halts_behind (step T p Start E)))
      (Some (rests (First w) []))
  pub later : (T : Table) (E : Env) (c n : ℕ) (d : Expr ℕ) (p : Statement) (first w : Selection)
      (ws rest : List Selection) (m : Selection) → IsOwn T c d p → turns n ≡ first ∷ ws → Turn (turns n) w rest
      → StaysIn (step T p (Resume m) E) →
      step T (row.every_count (kernel c) n d p) (Resume (repeating_down w (First m))) E
      ≡ renews_counted repeating_down (test d E) first w rest (killed p m)
      (halts_behind (step T p (Resume m) E))
      (halts_behind (step T p Start E))
  pub when_idle : (T : Table) (E : Env) (c n : ℕ) (d : Expr ℕ) (p : Statement) (first w : Selection)
      (ws rest : List Selection) → IsOwn T c d p → turns n ≡ first ∷ ws → Turn (turns n) w rest →
      step T (row.every_count (kernel c) n d p) (Resume (repeating_down w idle)) E
      ≡ renews_counted repeating_down (test d E) first w rest (completes 0) (Some (rests idle []))
      (halts_behind (step T p Start E))
  pub marks : (T : Table) (c n : ℕ) (d : Expr ℕ) (p : Statement) (first : Selection) (ws : List Selection)
      (m : Selection) → IsOwn T c d p → turns n ≡ first ∷ ws → RestsAt T (row.every_count (kernel c) n d p) m
      → EveryCountRests (turns n) T p m
  pub expands : (modules : ℕ → Piece) (pos : Pos) (i : ℕ) (d : Expr ℕ) (p : Piece) (a : Around) (n : Numbered)
      → StandsBelow pos p d a n →
      unplaced (row.every_count (numbering modules pos) i d p a n).0
      ≡ row.every_count (kernel (length n.signals)) i (in_numbers n d) (counted_body pos p a n)

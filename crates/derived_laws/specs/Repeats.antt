-- `do .. every` and `every`, without a count: their body starts anew each time that the test holds. (HipHop.js,
-- Berry and Serrano, PLDI 2020.)
use Rattle.std.specs.Prelude.{◌≡◌, ℕ, ◌==◌, false, cond, Option, Some, None, [], option_map}
use Rattle.hh_base.specs.declared.value.Pos.{Pos}
use Rattle.host_expr.specs.declared.cell.Cell.{Cell}
use Rattle.host_expr.specs.declared.expr.Expr.{Expr}
use Rattle.host_expr.specs.Environment.{Env}
use Rattle.hh_term.specs.Statement.{Statement}
use Rattle.hh_term.specs.Selection.{Selection, First, Second, Inside, Start, Resume}
use Rattle.hh_term.specs.MustCan.{Table}
use Rattle.hh_term.specs.Step.{Stepped, completes, rests, wrapped, joined, on_test, step}
use Rattle.hh_term.specs.Placed.{unplaced}
use Rattle.kernel_expand.specs.Numbering.{Piece, Around, Numbered, numbering, in_numbers}
use Rattle.kernel_expand.specs.Rows as row
use Rattle.derived_laws.specs.Statements.{plain, test}
use Rattle.derived_laws.specs.Reactions.{inside, killed, then_fault}
use Rattle.derived_laws.specs.Resting.{RestsAt}
use Rattle.derived_laws.specs.Waits.{halted, awaiting, awaiting_now}
use Rattle.derived_laws.specs.Aborts.{aborting, StandsIn, body}

-- where control rests once the body has ended
abbrev pub idle : Selection
idle = Second halted

-- the body, behind whose end nothing happens
abbrev pub then_halts : Stepped → Stepped
then_halts a = cond (a.code == 0) (record a { code = 1; next = Some idle }) (wrapped First a)

abbrev pub halts_behind : Option Stepped → Option Stepped
halts_behind = option_map then_halts

-- where control rests in each, round `First m` with the body's mark, or `idle`
abbrev pub renewing : Selection → Selection
renewing n = Inside (aborting n)

abbrev pub repeating : Selection → Selection
repeating n = Second (renewing n)

-- the body starts, in a statement that rests so
abbrev pub begins : (Selection → Selection) → Option Stepped → Option Stepped
begins f = option_map (inside f)

-- where the test holds, what runs is killed and the body starts anew behind it; else it reacts
abbrev pub renews : (Selection → Selection) → Cell → Stepped → Option Stepped → Option Stepped → Option Stepped
renews f c kill p again =
    on_test c (option_map (λ b. joined kill b) (begins f again)) (option_map (λ a. then_fault c (inside f a)) p)

-- the body does not leave the row's own trap, of which no text knows
abbrev pub StaysIn : Option Stepped → Type 0
StaysIn (Some a) = (a.code == 2) ≡ false
StaysIn None = Unit {0}

pub data RenewRests (f : Selection → Selection) (T : Table) (p : Statement) : Selection → Type 0 where
  runs : (m : Selection) → RestsAt T p m → RenewRests f T p (f (First m))
  ended : RenewRests f T p (f idle)

pub data EveryRests (w : Selection) (T : Table) (p : Statement) : Selection → Type 0 where
  before : EveryRests w T p (First w)
  behind : (n : Selection) → RenewRests renewing T p n → EveryRests w T p (Second n)

-- the body is started, and later starts anew where the test holds; what ran is killed
pub record DoEveryObeys : Type 0 where
  pub at_start : (T : Table) (E : Env) (d : Expr ℕ) (p : Statement)
      → step T (row.do_every plain d p) Start E ≡ begins renewing (halts_behind (step T p Start E))
  pub later : (T : Table) (E : Env) (d : Expr ℕ) (p : Statement) (m : Selection)
      → StaysIn (step T p (Resume m) E) →
      step T (row.do_every plain d p) (Resume (renewing (First m))) E
      ≡ renews renewing (test d E) (killed p m) (halts_behind (step T p (Resume m) E))
      (halts_behind (step T p Start E))
  pub when_idle : (T : Table) (E : Env) (d : Expr ℕ) (p : Statement) →
      step T (row.do_every plain d p) (Resume (renewing idle)) E
      ≡ renews renewing (test d E) (completes 0) (Some (rests idle [])) (halts_behind (step T p Start E))
  pub marks : (T : Table) (d : Expr ℕ) (p : Statement) (n : Selection)
      → RestsAt T (row.do_every plain d p) n → RenewRests renewing T p n
  pub expands : (modules : ℕ → Piece) (pos : Pos) (d : Expr ℕ) (p : Piece) (a : Around) (n : Numbered)
      → StandsIn p d a n →
      unplaced (row.do_every (numbering modules pos) d p a n).0
      ≡ row.do_every plain (in_numbers n d) (body p a n)

-- the body is not started until the test holds in a later reaction
pub record EveryObeys : Type 0 where
  pub at_start : (T : Table) (E : Env) (d : Expr ℕ) (p : Statement)
      → step T (row.every plain d p) Start E ≡ Some (rests (First awaiting) [])
  pub before : (T : Table) (E : Env) (d : Expr ℕ) (p : Statement) →
      step T (row.every plain d p) (Resume (First awaiting)) E
      ≡ on_test (test d E) (begins repeating (halts_behind (step T p Start E)))
      (Some (rests (First awaiting) []))
  pub later : (T : Table) (E : Env) (d : Expr ℕ) (p : Statement) (m : Selection)
      → StaysIn (step T p (Resume m) E) →
      step T (row.every plain d p) (Resume (repeating (First m))) E
      ≡ renews repeating (test d E) (killed p m) (halts_behind (step T p (Resume m) E))
      (halts_behind (step T p Start E))
  pub when_idle : (T : Table) (E : Env) (d : Expr ℕ) (p : Statement) →
      step T (row.every plain d p) (Resume (repeating idle)) E
      ≡ renews repeating (test d E) (completes 0) (Some (rests idle [])) (halts_behind (step T p Start E))
  pub marks : (T : Table) (d : Expr ℕ) (p : Statement) (n : Selection)
      → RestsAt T (row.every plain d p) n → EveryRests awaiting T p n
  pub expands : (modules : ℕ → Piece) (pos : Pos) (d : Expr ℕ) (p : Piece) (a : Around) (n : Numbered)
      → StandsIn p d a n →
      unplaced (row.every (numbering modules pos) d p a n).0 ≡ row.every plain (in_numbers n d) (body p a n)

-- as `every`, but the body starts at once where the test holds as the statement is started
pub record EveryImmediateObeys : Type 0 where
  pub at_start : (T : Table) (E : Env) (d : Expr ℕ) (p : Statement) →
      step T (row.every_immediate plain d p) Start E
      ≡ on_test (test d E) (begins repeating (halts_behind (step T p Start E)))
      (Some (rests (First awaiting_now) []))
  pub before : (T : Table) (E : Env) (d : Expr ℕ) (p : Statement) →
      step T (row.every_immediate plain d p) (Resume (First awaiting_now)) E
      ≡ on_test (test d E) (begins repeating (halts_behind (step T p Start E)))
      (Some (rests (First awaiting_now) []))
  pub later : (T : Table) (E : Env) (d : Expr ℕ) (p : Statement) (m : Selection)
      → StaysIn (step T p (Resume m) E) →
      step T (row.every_immediate plain d p) (Resume (repeating (First m))) E
      ≡ renews repeating (test d E) (killed p m) (halts_behind (step T p (Resume m) E))
      (halts_behind (step T p Start E))
  pub when_idle : (T : Table) (E : Env) (d : Expr ℕ) (p : Statement) →
      step T (row.every_immediate plain d p) (Resume (repeating idle)) E
      ≡ renews repeating (test d E) (completes 0) (Some (rests idle [])) (halts_behind (step T p Start E))
  pub marks : (T : Table) (d : Expr ℕ) (p : Statement) (n : Selection)
      → RestsAt T (row.every_immediate plain d p) n → EveryRests awaiting_now T p n
  pub expands : (modules : ℕ → Piece) (pos : Pos) (d : Expr ℕ) (p : Piece) (a : Around) (n : Numbered)
      → StandsIn p d a n →
      unplaced (row.every_immediate (numbering modules pos) d p a n).0
      ≡ row.every_immediate plain (in_numbers n d) (body p a n)

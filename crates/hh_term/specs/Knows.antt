-- What it means to know more of what a statement does: Must extends and Can shrinks. (Berry, The
-- Constructive Semantics of Pure
-- Esterel, widened by values.)
use Rattle.std.specs.Prelude.{◌≡◌, ℕ, true, Option, Some, None, List, [], ◌∷◌}
use Rattle.host_expr.specs.declared.cell.Cell.{Cell}
use Rattle.host_expr.specs.Knows.{CellBelow}
use Rattle.hh_term.specs.Codes.{only}
use Rattle.hh_term.specs.MustCan.{MustCan, Index, Executed, Possible}

-- what is executed is known to be possible, not the other way round
abbrev pub IndexBelow : Index → Index → Type 0
IndexBelow Possible j = Unit {0}
IndexBelow Executed j = j ≡ Executed

-- no code yet, or the two are the same
abbrev pub CodeBelow : Option ℕ → Option ℕ → Type 0
CodeBelow None d = Unit {0}
CodeBelow (Some c) d = d ≡ Some c

-- the second list is the first with more elements in between, and each element of the first is in its
-- relation to its own
pub data Embeds {A : Type 0} (R : A → A → Type 0) : List A → List A → Type 0 where
  ended : Embeds R [] []
  keep : {x y : A} {xs ys : List A} → R x y → Embeds R xs ys → Embeds R (x ∷ xs) (y ∷ ys)
  skip : {y : A} {xs ys : List A} → Embeds R xs ys → Embeds R xs (y ∷ ys)

-- emissions of one signal, with their cells in this relation
abbrev pub OnSignal : (Cell → Cell → Type 0) → (ℕ × Cell) → (ℕ × Cell) → Type 0
OnSignal R e f = (e.0 ≡ f.0) × R e.1 f.1

abbrev pub CellAbove : Cell → Cell → Type 0
CellAbove c d = CellBelow d c

abbrev pub SameCell : Cell → Cell → Type 0
SameCell c d = c ≡ d

-- the second must do at least what the first must do, and can do at most what the first can do
pub record MustCanBelow (a b : MustCan) : Type 0 where
  pub must : Embeds (OnSignal CellBelow) a.must b.must
  pub code : CodeBelow a.code b.code
  pub can : Embeds (OnSignal CellAbove) b.can a.can
  pub codes : (c : ℕ) → b.codes c ≡ true → a.codes c ≡ true

-- what must be done can be done
pub record MustWithinCan (a : MustCan) : Type 0 where
  pub must : Embeds (OnSignal SameCell) a.must a.can
  pub code : (c : ℕ) → a.code ≡ Some c → a.codes c ≡ true

-- nothing must be done
pub record NothingSure (a : MustCan) : Type 0 where
  pub must : a.must ≡ []
  pub code : a.code ≡ None

-- where there is a code, it is the only one
pub record IsOnlyCode (a : MustCan) : Type 0 where
  pub is : (d : ℕ) → a.code ≡ Some d → (c : ℕ) → a.codes c ≡ only d c

-- Emissions in another order, and that combining does not see the order. (This project's own.)
use Rattle.std.specs.Prelude.{◌≡◌, Option, List, [], ◌∷◌}
use Rattle.hh_base.specs.declared.value.Kind.{Kind}
use Rattle.hh_base.specs.declared.value.Value.{Value}
use Rattle.hh_base.specs.declared.value.CombineWord.{CombineWord}
use Rattle.host_expr.specs.Combination.{combined, is_several, is_overflowed}

-- the second list has the elements of the first, in any order
pub data Reordering {A : Type 0} : List A → List A → Type 0 where
  none : Reordering [] []
  keep : {xs ys : List A} (x : A) → Reordering xs ys → Reordering (x ∷ xs) (x ∷ ys)
  swap : {xs ys : List A} (x y : A) → Reordering xs ys → Reordering (x ∷ y ∷ xs) (y ∷ x ∷ ys)
  after : {xs ys zs : List A} → Reordering xs ys → Reordering ys zs → Reordering xs zs

-- Law: the value does not depend on the order.
abbrev pub CombinedInAnyOrder : Type 0
CombinedInAnyOrder =
    (k : Kind) (w : Option CombineWord) (vs us : List Value) → Reordering vs us
    → combined k w vs ≡ combined k w us

-- Law: nor does it whether there are several values without a combine word.
abbrev pub SeveralInAnyOrder : Type 0
SeveralInAnyOrder =
    (k : Kind) (w : Option CombineWord) (vs us : List Value) → Reordering vs us
    → is_several k w vs ≡ is_several k w us

-- Law: nor whether the sum overflows.
abbrev pub OverflowedInAnyOrder : Type 0
OverflowedInAnyOrder =
    (w : Option CombineWord) (vs us : List Value) → Reordering vs us
    → is_overflowed w vs ≡ is_overflowed w us

-- The kind of the values in a bag, the emissions of one signal in one reaction. (This project's own.)
use Rattle.std.specs.Prelude.{◌≡◌, ◌≢◌, List, [], ◌∷◌}
use Rattle.std.specs.List.{AllByRecursion}
use Rattle.hh_base.specs.declared.value.Kind.{Kind}
use Rattle.hh_base.specs.declared.value.Kind.TheVariants as kind
use Rattle.hh_base.specs.declared.value.Value.{Value}
use Rattle.hh_base.specs.Value.{kind_of}

-- the kind of the first value
abbrev pub kind_of_bag : List Value → Kind
kind_of_bag [] = kind.Pure
kind_of_bag (v ∷ vs) = kind_of v

abbrev pub AreOfKind : Kind → List Value → Type 0
AreOfKind k vs = AllByRecursion (λ v. kind_of v ≡ k) vs

abbrev pub AreOfOneKind : List Value → Type 0
AreOfOneKind vs = AreOfKind (kind_of_bag vs) vs

-- Law: a bag that is not empty, whose values are of one kind, is of that kind.
abbrev pub BagIsOfItsKind : Type 0
BagIsOfItsKind =
    (k : Kind) (vs : List Value) → vs ≢ [] → AreOfKind k vs → (kind_of_bag vs ≡ k) × AreOfOneKind vs

-- The kind of a bag.
use Rattle.std.proofs.Common.{refl, sym, subst, [], ◌∷◌}
use Rattle.hh_base.specs.declared.value.Kind.{Kind}
use Rattle.signal_bank.specs.BagKind.{AreOfKind, BagIsOfItsKind}

pub bag_is_of_its_kind : BagIsOfItsKind
bag_is_of_its_kind k [] filled all = absurd (filled refl)
bag_is_of_its_kind k (v ∷ vs) filled all =
    let P : Kind → Type 0 = λ k. AreOfKind k (v ∷ vs) in
    (all.0, subst P (sym all.0) all)

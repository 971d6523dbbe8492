-- What a bag combines to: it sees no order.
use Rattle.std.proofs.Common.{◌≡◌, refl, sym, ◌∙◌, ap, suc, Bool, true, false, List, [], ◌∷◌, length, arith}
use Rattle.std.specs.Prelude.{◌↔◌}
use Rattle.signal_bank.specs.declared.combination.Combined.{Combined}
use Rattle.signal_bank.specs.declared.combination.Combined.TheVariants.{Single}
use Rattle.hh_base.specs.declared.value.Kind.{Kind}
use Rattle.hh_base.specs.declared.value.Value.{Value}
use Rattle.host_expr.specs.Combination.{combined, is_several, is_overflowed}
use Rattle.host_expr.specs.Reordering.{Reordering, none, keep, swap, after}
use Rattle.host_expr.proofs.Reordered.{combined_in_any_order, several_in_any_order, overflowed_in_any_order}
use Rattle.signal_bank.specs.BagKind.{kind_of_bag, AreOfKind, AreOfOneKind}
use Rattle.signal_bank.specs.Outcome.{outcome_by}
use Rattle.signal_bank.specs.AnyOrder.{OutcomeInAnyOrder}

-- values of one kind are so in any order
pub of_kind_reordered : (k : Kind) {vs us : List Value} → Reordering vs us → AreOfKind k vs → AreOfKind k us
of_kind_reordered k none all = all
of_kind_reordered k (keep x p) (first, all) = (first, of_kind_reordered k p all)
of_kind_reordered k (swap x y p) (first, (second, all)) = (second, (first, of_kind_reordered k p all))
of_kind_reordered k (after p q) all = of_kind_reordered k q (of_kind_reordered k p all)

same_length : {vs us : List Value} → Reordering vs us → length vs ≡ length us
same_length none = refl
same_length (keep x p) = ap suc (same_length p)
same_length (swap x y p) = ap (λ n. suc (suc n)) (same_length p)
same_length (after p q) = same_length p ∙ same_length q

-- bags of one kind that are the same up to the order are of the same kind
kind_reordered : (vs us : List Value) → AreOfOneKind vs → Reordering vs us → kind_of_bag vs ≡ kind_of_bag us
kind_reordered [] [] all p = refl
kind_reordered [] (u ∷ us) all p = absurd (omega (arith, same_length p))
kind_reordered (v ∷ vs) [] all p = absurd (omega (arith, same_length p))
kind_reordered (v ∷ vs) (u ∷ us) all p = sym (of_kind_reordered (kind_of_bag (v ∷ vs)) p all).0

pub outcome_in_any_order : OutcomeInAnyOrder
outcome_in_any_order w vs us all p =
    let k = kind_of_bag us in
    ap (λ k. outcome_by (is_several k w vs) (is_overflowed w vs) (combined k w vs))
    (kind_reordered vs us all p)
    ∙ ap (λ s. outcome_by s (is_overflowed w vs) (combined k w vs)) (several_in_any_order k w vs us p)
    ∙ ap (λ o. outcome_by (is_several k w us) o (combined k w vs)) (overflowed_in_any_order w vs us p)
    ∙ ap (λ v. outcome_by (is_several k w us) (is_overflowed w us) v) (combined_in_any_order k w vs us p)

-- ---- when the outcome is one value

pub single_exactly : (s o : Bool) (u : Value) (c : Combined) → c ≡ outcome_by s o u → (v : Value)
    → (c ≡ Single v) ↔ ((s ≡ false) × (o ≡ false) × (v ≡ u))
single_exactly true o u c is v = (λ e. cc, λ (e : (true ≡ false) × (o ≡ false) × (v ≡ u)). let f = e.0 in cc)
single_exactly false true u c is v =
    (λ e. cc, λ (e : (false ≡ false) × (true ≡ false) × (v ≡ u)). let f = e.1 in cc)
single_exactly false false u c is v =
    (λ e. (refl, refl, cc), λ (e : (false ≡ false) × (false ≡ false) × (v ≡ u)). let f = e.2 in cc)

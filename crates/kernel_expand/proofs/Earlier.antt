-- The least position of two lists.
use Rattle.std.proofs.Common.{◌≡◌, ℕ, min, List, [], ◌∷◌, ◌++◌, Option, Some, None, refl, ap, ◌∙◌, arith}
use Rattle.hh_base.specs.declared.value.Pos.{Pos}
use Rattle.kernel_expand.specs.Refusals.{earlier, both_earlier, least}

earlier_of_three : (x : Pos) (p q : Option Pos) → earlier x (both_earlier p q) ≡ earlier (earlier x p) q
earlier_of_three x None q = refl
earlier_of_three x (Some p) None = refl
earlier_of_three x (Some p) (Some q) = same _ _ (let e : min x.0 (min p.0 q.0) ≡ min (min x.0 p.0) q.0 =
    omega arith in e)
  where
    same : (m n : ℕ) → m ≡ n → ◌≡◌ {A = Pos} (record { 0 = m }) (record { 0 = n })
    same m n e i = record { 0 = e i }

pub least_of_both : (xs ys : List Pos) → least (xs ++ ys) ≡ both_earlier (least xs) (least ys)
least_of_both [] ys = refl
least_of_both (x ∷ xs) ys = ap (λ z. Some (earlier x z)) (least_of_both xs ys)
    ∙ ap Some (earlier_of_three x (least xs) (least ys))

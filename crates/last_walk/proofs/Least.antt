-- The least of numbers that are met one after the other.
use Rattle.std.proofs.Common.{◌≡◌, refl, sym, ap, ◌∙◌, ℕ}
use Rattle.std.proofs.Common.{Option, Some, None, List, [], ◌∷◌, ◌++◌, arith, append-nil}
use Rattle.std.specs.Prelude.{min}
use Rattle.last_walk.specs.LastWalk.{lesser, least}

pub least_append : (m : Option ℕ) (xs ys : List ℕ) → least m (xs ++ ys) ≡ least (least m xs) ys
least_append m [] ys = refl
least_append m (x ∷ xs) ys = least_append (lesser m x) xs ys

min_turn : (a b c : ℕ) → min (min a b) c ≡ min (min a c) b
min_turn a b c = omega arith

min_swap : (a b : ℕ) → min a b ≡ min b a
min_swap a b = omega arith

pub lesser_swap : (m : Option ℕ) (a b : ℕ) → lesser (lesser m a) b ≡ lesser (lesser m b) a
lesser_swap None a b = ap Some (min_swap a b)
lesser_swap (Some c) a b = ap Some (min_turn c a b)

-- what is met before the others may be met after them
pub least_later : (m : Option ℕ) (x : ℕ) (xs : List ℕ) → least m (x ∷ xs) ≡ lesser (least m xs) x
least_later m x [] = refl
least_later m x (y ∷ ys) = ap (λ z. least z ys) (lesser_swap m x y) ∙ least_later (lesser m y) x ys

pub least_turn : (m : Option ℕ) (xs ys : List ℕ) → least m (xs ++ ys) ≡ least m (ys ++ xs)
least_turn m xs [] = ap (least m) (append-nil xs)
least_turn m xs (y ∷ ys) =
    least_append m xs (y ∷ ys) ∙ least_later (least m xs) y ys ∙ ap (λ z. lesser z y) (sym (least_append m xs ys))
    ∙ ap (λ z. lesser z y) (least_turn m xs ys) ∙ sym (least_later m y (ys ++ xs))

-- A list as a balanced tree: nothing, its one item, or its first half, rounded up, and the rest. (This
-- project's own.)
use Rattle.std.specs.Prelude.{ℕ, zero, suc, ◌+◌, ◌/◌, List, [], ◌∷◌, length, take, drop}

-- the number bounds how often the list is halved
unfoldable pub halved : {X : Type 0} → (X → X → X) → X → ℕ → List X → X
halved join none zero xs = none
halved join none (suc n) [] = none
halved join none (suc n) (x ∷ []) = x
halved join none (suc n) (x ∷ y ∷ zs) =
    let half = (length (x ∷ y ∷ zs) + 1) / 2 in
    join (halved join none n (take half (x ∷ y ∷ zs))) (halved join none n (drop half (x ∷ y ∷ zs)))

abbrev pub in_halves : {X : Type 0} → (X → X → X) → X → List X → X
in_halves join none xs = halved join none (length xs) xs

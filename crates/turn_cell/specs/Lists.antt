-- Lists that begin with others, places in a list, and sums over a list. (This project's own.)
use Rattle.std.specs.Prelude.{◌≡◌, ℕ, suc, ◌+◌, ◌≤◌, ◌⊎◌, List, [], ◌∷◌, ◌++◌, length, cond, ltb}

-- the second list begins with the first
abbrev pub Begins : {A : Type 0} → List A → List A → Type 0
Begins {A} xs ys = (rest : List A) × (ys ≡ xs ++ rest)

-- it is the other list, or that and one item more
abbrev pub GrowsByOneAtMost : {A : Type 0} → List A → List A → Type 0
GrowsByOneAtMost {A} xs ys = (ys ≡ xs) ⊎ ((x : A) × (ys ≡ xs ++ x ∷ []))

-- the places rise from low on, so that each stands there once, and are below top
abbrev pub RisesTo : ℕ → List ℕ → ℕ → Type 0
RisesTo low [] top = low ≤ top
RisesTo low (p ∷ ps) top = (low ≤ p) × RisesTo (suc p) ps top

abbrev pub Among : ℕ → List ℕ → Type 0
Among p [] = ⊥
Among p (q ∷ qs) = (p ≡ q) ⊎ Among p qs

-- the number of each item, added up
abbrev pub total : {A : Type 0} → (A → ℕ) → List A → ℕ
total f [] = 0
total f (x ∷ xs) = f x + total f xs

-- two rising lists of places made one
abbrev pub insert : ℕ → List ℕ → List ℕ
insert p [] = p ∷ []
insert p (q ∷ qs) = cond (ltb p q) (p ∷ q ∷ qs) (q ∷ insert p qs)

abbrev pub merge : List ℕ → List ℕ → List ℕ
merge [] qs = qs
merge (p ∷ ps) qs = insert p (merge ps qs)

abbrev pub longer : {A : Type 0} → List A → List A → List A
longer xs ys = cond (ltb (length xs) (length ys)) ys xs

-- A list as a balanced tree: by its halves, and where all its items are the same.
use Rattle.std.proofs.Common.{◌≡◌, ℕ, zero, suc, ◌+◌, ◌-◌, ◌/◌, ◌≤◌, List, [], ◌∷◌, ◌++◌, length, take, drop}
use Rattle.std.proofs.Common.{get_or, replicate, sym, ap, ◌∙◌, refl, arith}
use Rattle.std.proofs.lemmas.List.{length-take, length-drop, length-replicate, take-replicate}
use Rattle.std.proofs.lemmas.List.{replicate-append-replicate, drop_at}
use Rattle.kernel_expand.specs.Halves.{halved, in_halves}

none_fit : {X : Type 0} (n : ℕ) → suc n ≤ 0 → X
none_fit n le = let no : ⊥ = omega arith in absurd no

-- how often a list is halved does not matter, if it is often enough
pub halved_enough : {X : Type 0} (f : X → X → X) (e : X) (n m : ℕ) (xs : List X) → length xs ≤ n
    → length xs ≤ m → halved f e n xs ≡ halved f e m xs
unfolding halved
halved_enough f e zero zero xs a b = refl
halved_enough f e zero (suc m) [] a b = refl
halved_enough f e zero (suc m) (x ∷ xs) a b = none_fit (length xs) a
halved_enough f e (suc n) zero [] a b = refl
halved_enough f e (suc n) zero (x ∷ xs) a b = none_fit (length xs) b
halved_enough f e (suc n) (suc m) [] a b = refl
halved_enough f e (suc n) (suc m) (x ∷ []) a b = refl
halved_enough f e (suc n) (suc m) (x ∷ y ∷ zs) a b =
    let xs = x ∷ y ∷ zs in
    let half = (length xs + 1) / 2 in
    let first : halved f e n (take half xs) ≡ halved f e m (take half xs) =
    halved_enough f e n m (take half xs) (omega (arith, length-take half xs))
    (omega (arith, length-take half xs)) in
    let second : halved f e n (drop half xs) ≡ halved f e m (drop half xs) =
    halved_enough f e n m (drop half xs) (omega (arith, length-drop half xs))
    (omega (arith, length-drop half xs)) in
    rw (first, second) refl

pub two_halves : {X : Type 0} (f : X → X → X) (e : X) (xs : List X) (half : ℕ) → 2 ≤ length xs
    → half ≡ (length xs + 1) / 2 → in_halves f e xs ≡ f (in_halves f e (take half xs))
    (in_halves f e (drop half xs))
unfolding halved
two_halves f e [] half two is = absurd (let no : ⊥ = omega arith in no)
two_halves f e (x ∷ []) half two is = absurd (let no : ⊥ = omega arith in no)
two_halves f e (x ∷ y ∷ zs) half two is =
    let xs = x ∷ y ∷ zs in
    let n = length (y ∷ zs) in
    let first : halved f e n (take half xs) ≡ in_halves f e (take half xs) =
    halved_enough f e n (length (take half xs)) (take half xs) (omega (arith, length-take half xs))
    (omega arith) in
    let second : halved f e n (drop half xs) ≡ in_halves f e (drop half xs) =
    halved_enough f e n (length (drop half xs)) (drop half xs) (omega (arith, length-drop half xs))
    (omega arith) in
    rw (← is, first, second) refl

pub no_item : {X : Type 0} (f : X → X → X) (e : X) (xs : List X) → length xs ≡ 0 → in_halves f e xs ≡ e
unfolding halved
no_item f e [] is = refl
no_item f e (x ∷ xs) is = absurd (let no : ⊥ = omega arith in no)

pub only_item : {X : Type 0} (f : X → X → X) (e d : X) (xs : List X) → length xs ≡ 1
    → in_halves f e xs ≡ get_or xs 0 d
unfolding halved
only_item f e d [] is = absurd (let no : ⊥ = omega arith in no)
only_item f e d (x ∷ []) is = refl
only_item f e d (x ∷ y ∷ zs) is = absurd (let no : ⊥ = omega arith in no)

pub one_item : {X : Type 0} (f : X → X → X) (e x : X) → in_halves f e (x ∷ []) ≡ x
unfolding halved
one_item f e x = refl

pub three_items : {X : Type 0} (f : X → X → X) (e x y z : X) → in_halves f e (x ∷ y ∷ z ∷ []) ≡ f (f x y) z
unfolding halved
three_items f e x y z = refl

drop_same : {X : Type 0} (m n : ℕ) (x : X) → m ≤ n → drop m (replicate n x) ≡ replicate (n - m) x
drop_same m n x le =
    let parts : replicate n x ≡ replicate m x ++ replicate (n - m) x =
    ap (λ k. replicate k x) (let sum : n ≡ m + (n - m) = omega arith in sum)
    ∙ sym (replicate-append-replicate m (n - m) x) in
    ap (drop m) parts ∙ drop_at (replicate m x) (replicate (n - m) x) m (length-replicate m x)

-- so many of one item: the greater half of them, and the rest
pub same_items : {X : Type 0} (f : X → X → X) (e x : X) (n half : ℕ) → 2 ≤ n → half ≡ n / 2
    → in_halves f e (replicate n x) ≡ f (in_halves f e (replicate (n - half) x))
    (in_halves f e (replicate half x))
same_items f e x n half two is =
    let size = length-replicate n x in
    let parts = two_halves f e (replicate n x) (n - half) (omega (arith, size)) (omega (arith, size)) in
    let first = take-replicate (n - half) n x (omega arith) in
    let second = drop_same (n - half) n x (omega arith)
    ∙ ap (λ k. replicate k x) (let rest : n - (n - half) ≡ half = omega arith in rest) in
    parts ∙ ap (λ ys. f (in_halves f e ys) (in_halves f e (drop (n - half) (replicate n x)))) first
    ∙ ap (λ ys. f (in_halves f e (replicate (n - half) x)) (in_halves f e ys)) second

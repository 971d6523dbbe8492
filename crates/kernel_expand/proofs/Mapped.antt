-- A loop that pushes what each item of a list gives.
use Rattle.std.proofs.Common.{◌≡◌, ℕ, ◌+◌, ◌<◌, List, [], ◌∷◌, ◌++◌, length, map, take, get_or, ap, sym, ◌∙◌}
use Rattle.std.proofs.lemmas.List.{map_more}

pub one_more : {A B : Type 0} (f : A → B) (xs : List A) (i : ℕ) (d : A) (ys zs : List B) (y : B)
    → i < length xs → d ≡ get_or xs i d → ys ≡ map f (take i xs) → y ≡ f d → zs ≡ ys ++ y ∷ []
    → zs ≡ map f (take (i + 1) xs)
one_more f xs i d ys zs y lt at before new pushed =
    pushed ∙ ap (λ w. w ++ y ∷ []) before ∙ ap (λ v. map f (take i xs) ++ v ∷ []) (new ∙ ap f at)
    ∙ sym (map_more f xs i d lt)

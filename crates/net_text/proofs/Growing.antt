-- What is written grows by an element at a time.
use Rattle.std.proofs.Common.{◌≡◌, ◌<◌, ◌+◌, ◌++◌, ◌∷◌, [], ℕ, List, length, get_or, take, sym, ap, ◌∙◌}
use Rattle.std.specs.List.{flat_map}
use Rattle.std.proofs.lemmas.List.{flat_map_more, take_more}

pub grown : {X : Type 0} (f : X → List ℕ) (xs : List X) (i : ℕ) (x : X) (old mid new : List ℕ)
    → i < length xs → x ≡ get_or xs i x
    → mid ≡ old ++ flat_map f (take i xs) → new ≡ mid ++ f x → new ≡ old ++ flat_map f (take (i + 1) xs)
grown f xs i x old mid new l read so_far added =
    let more : take (i + 1) xs ≡ take i xs ++ x ∷ [] = take_more xs i x l
    ∙ ap (λ y. take i xs ++ y ∷ []) (sym read) in
    added ∙ ap (λ m. m ++ f x) so_far ∙ flat_map_more f old (take i xs) x
    ∙ ap (λ t. old ++ flat_map f t) (sym more)

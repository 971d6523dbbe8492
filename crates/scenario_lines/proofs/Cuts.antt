-- A cut of bytes is the one cut.
use Rattle.std.proofs.Common.{◌≡◌, ◌≢◌, ℕ, List, [], ◌∷◌, ◌++◌, refl, sym, ◌∙◌}
use Rattle.std.specs.List.{All}
use Rattle.std.proofs.lemmas.List.Elements.{All-head, All-tail}
use Rattle.scenario_lines.specs.Cut.{StartsWith}

pub same_cut : (byte : ℕ) (a b x y : List ℕ) → All (λ c. c ≢ byte) a → All (λ c. c ≢ byte) b → StartsWith byte x → StartsWith byte y → a ++ x ≡ b ++ y → (a ≡ b) × (x ≡ y)
same_cut byte [] [] x y la lb sx sy e = (refl, e)
same_cut byte [] (c ∷ b) [] y la lb sx sy e = absurd cc
same_cut byte [] (c ∷ b) (d ∷ x) y la lb sx sy e = let at : c ≡ byte = (let same : d ≡ c = cc in sym same ∙ sx) in absurd (All-head (λ c. c ≢ byte) c b lb at)
same_cut byte (c ∷ a) [] x [] la lb sx sy e = absurd cc
same_cut byte (c ∷ a) [] x (d ∷ y) la lb sx sy e = let at : c ≡ byte = (let same : c ≡ d = cc in same ∙ sy) in absurd (All-head (λ c. c ≢ byte) c a la at)
same_cut byte (c ∷ a) (d ∷ b) x y la lb sx sy e =
    let tails : a ++ x ≡ b ++ y = cc in
    let rest = same_cut byte a b x y (All-tail (λ c. c ≢ byte) c a la) (All-tail (λ c. c ≢ byte) d b lb) sx sy tails in
    let head : c ≡ d = cc in
    let front : c ∷ a ≡ d ∷ b = (let f = rest.0 in cc) in
    (front, rest.1)

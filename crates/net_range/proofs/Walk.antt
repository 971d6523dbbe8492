-- The walk over the lines of a section, and over sections one after the other.
use Rattle.std.proofs.Common.{◌≡◌, ◌<◌, ◌+◌, ◌++◌, ◌∷◌, [], ℕ, List, Bool, true, false, length, get_or, drop, map, refl, sym, ap, ◌∙◌}
use Rattle.std.proofs.Common.{Err, arith}
use Rattle.std.proofs.lemmas.List.{at_drop_more}
use Rattle.net_range.specs.RuledLines.{section, past, past_more}

-- so many lines of a section were in range, and the next one has this number
pub record IsAt {X : Type 0} (f : X → Bool) (xs : List X) (start : ℕ) (i line : ℕ) : Type 0 where
  pub count : line ≡ start + 1 + i
  pub rest : past start (section f xs) ≡ past line (map f (drop i xs))

module _ {X : Type 0} (f : X → Bool) (xs : List X) where
  -- the line at i decides
  next : (i line : ℕ) (x : X) → i < length xs → x ≡ get_or xs i x
      → past line (map f (drop i xs)) ≡ past line (f x ∷ map f (drop (i + 1) xs))
  next i line x l read =
      at_drop_more (λ ys. past line (map f ys)) xs i x l
      ∙ ap (λ y. past line (f y ∷ map f (drop (i + 1) xs))) (sym read)

  pub goes_on : (start i line : ℕ) (x : X) → i < length xs → x ≡ get_or xs i x → f x ≡ true
      → IsAt f xs start i line → IsAt f xs start (i + 1) (line + 1)
  goes_on start i line x l read held at =
      record {
        count = omega (arith, at.count);
        rest = at.rest ∙ next i line x l read ∙ ap (λ b. past line (b ∷ map f (drop (i + 1) xs))) held;
      }

  pub stops : (start i line : ℕ) (x : X) → i < length xs → x ≡ get_or xs i x → f x ≡ false
      → IsAt f xs start i line → Err line ≡ past start (section f xs)
  stops start i line x l read broken at =
      sym (at.rest ∙ next i line x l read ∙ ap (λ b. past line (b ∷ map f (drop (i + 1) xs))) broken)

pub past_append : (n : ℕ) (xs ys : List Bool) → past n (xs ++ ys) ≡ past_more (past n xs) ys
past_append n [] ys = refl
past_append n (true ∷ xs) ys = past_append (n + 1) xs ys
past_append n (false ∷ xs) ys = refl

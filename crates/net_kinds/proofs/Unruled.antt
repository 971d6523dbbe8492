-- The walk over lines without a rule, and over verdicts that are known.
use Rattle.std.proofs.Common.{◌≡◌, ◌<◌, ◌+◌, ◌++◌, ◌∷◌, [], ℕ, List, Bool, true, false, length, get_or, drop, map, sym, ap, ◌∙◌}
use Rattle.std.proofs.Common.{Ok, Err, arith}
use Rattle.std.proofs.lemmas.List.{at_drop_more}
use Rattle.net_range.specs.RuledLines.{past, past_more}
use Rattle.net_range.proofs.Walk.{past_append as append}
use Rattle.net_kinds.specs.LinesFit.{unruled}

pub past_append : (n : ℕ) (xs ys : List Bool) → past n (xs ++ ys) ≡ past_more (past n xs) ys
past_append = append

always : {X : Type 0} (n : ℕ) (xs : List X) → past n (map (λ _. true) xs) ≡ Ok (n + length xs)
always n [] = ap Ok (let same : n ≡ n + 0 = omega arith in same)
always n (x ∷ xs) =
    always (n + 1) xs
    ∙ ap Ok (let same : n + 1 + length xs ≡ n + length (x ∷ xs) = omega arith in same)

pub past_unruled : {X : Type 0} (n : ℕ) (xs : List X) → past n (unruled xs) ≡ Ok (n + 1 + length xs)
past_unruled n xs = always (n + 1) xs

-- so many verdicts were true, and the next one is of this line
pub record IsAtVerdict (fit : List Bool) (start i line : ℕ) : Type 0 where
  pub count : line ≡ start + 1 + i
  pub rest : past start (true ∷ fit) ≡ past line (drop i fit)

module _ (fit : List Bool) where
  next : (i line : ℕ) (x : Bool) → i < length fit → x ≡ get_or fit i x
      → past line (drop i fit) ≡ past line (x ∷ drop (i + 1) fit)
  next i line x l read =
      at_drop_more (past line) fit i x l ∙ ap (λ b. past line (b ∷ drop (i + 1) fit)) (sym read)

  pub goes_on : (start i line : ℕ) (x : Bool) → i < length fit → x ≡ get_or fit i x → x ≡ true
      → IsAtVerdict fit start i line → IsAtVerdict fit start (i + 1) (line + 1)
  goes_on start i line x l read held at =
      record {
        count = omega (arith, at.count);
        rest = at.rest ∙ next i line x l read ∙ ap (λ b. past line (b ∷ drop (i + 1) fit)) held;
      }

  pub stops : (start i line : ℕ) (x : Bool) → i < length fit → x ≡ get_or fit i x → x ≡ false
      → IsAtVerdict fit start i line → Err line ≡ past start (true ∷ fit)
  stops start i line x l read broken at =
      sym (at.rest ∙ next i line x l read ∙ ap (λ b. past line (b ∷ drop (i + 1) fit)) broken)

-- The lines of a text, counted one by one.
use Rattle.std.proofs.Common.{◌≡◌, ◌∙◌, ℕ, suc, ◌+◌, ◌==◌, ◌≤◌, Bool, true, false, cond, List, [], ◌∷◌, take, drop, length, ap, arith, count_by}
use Rattle.std.proofs.lemmas.List.Sums.{count_by-le-length, sum_by-cons}
use Rattle.hiphop_main.specs.Lines.{lines_of, push_front}
use Rattle.hiphop_main.specs.Summary.{is_refusal}
use Rattle.hiphop_main.proofs.LineLaws.{first_line_is}

push_few : (b : ℕ) (ls : List (List ℕ)) → length (push_front b ls) ≤ suc (length ls)
push_few b [] = omega arith
push_few b (l ∷ ls) = omega arith

-- no more lines than bytes
pub lines_few : (bytes : List ℕ) → length (lines_of bytes) ≤ length bytes
lines_few [] = omega arith
lines_few (b ∷ bs) = go (b == 10) (lines_few bs) (push_few b (lines_of bs))
  where
    go : (t : Bool) → length (lines_of bs) ≤ length bs → length (push_front b (lines_of bs)) ≤ suc (length (lines_of bs))
        → length (cond t ((b ∷ []) ∷ lines_of bs) (push_front b (lines_of bs))) ≤ length (b ∷ bs)
    go true few pushed = omega arith
    go false few pushed = omega arith

pub refusals_few : (bytes : List ℕ) → count_by is_refusal (lines_of bytes) ≤ length bytes
refusals_few bytes =
    let lines = lines_few bytes in
    let refused : count_by is_refusal (lines_of bytes) ≤ length (lines_of bytes) = count_by-le-length is_refusal (lines_of bytes) in
    omega arith

pub at_most_one : (yes : Bool) → cond yes 1 0 ≤ 1
at_most_one true = omega arith
at_most_one false = omega arith

-- how far the count has come: the lines before `rest` are counted
pub record Counted (text rest : List ℕ) (lines refused : ℕ) : Type 0 where
  pub all : lines + length (lines_of rest) ≡ length (lines_of text)
  pub those : refused + count_by is_refusal (lines_of rest) ≡ count_by is_refusal (lines_of text)

-- one line further
pub counted_on : (text rest line after : List ℕ) (lines refused n one : ℕ) → Counted text rest lines refused
    → lines_of rest ≡ take n rest ∷ lines_of (drop n rest) → line ≡ take n rest → after ≡ drop n rest → one ≡ cond (is_refusal line) 1 0
    → Counted text after (lines + 1) (refused + one)
counted_on text rest line after lines refused n one so_far fits front back is =
    let first : lines_of rest ≡ line ∷ lines_of after = first_line_is rest line after n fits front back in
    let more : length (lines_of rest) ≡ suc (length (lines_of after)) = ap length first in
    let counted : count_by is_refusal (lines_of rest) ≡ cond (is_refusal line) 1 0 + count_by is_refusal (lines_of after) =
    ap (count_by is_refusal) first ∙ sum_by-cons (λ (l : List ℕ). cond (is_refusal l) 1 0) line (lines_of after) in
    record {
      all = (let a = so_far.all in omega arith);
      those = (let t = so_far.those in omega arith);
    }

-- Lines of a text, one after the other.
use Rattle.std.proofs.Common.{◌≡◌, ℕ, zero, suc, ◌+◌, ◌<◌, ◌≤◌, ◌-◌, true, false, cond, List, [], ◌∷◌, ◌++◌, length, get_or, take, drop, refl, ap, sym, ◌∙◌, arith, ◌==◌, eq-eqb, append_assoc}
use Rattle.std.proofs.lemmas.Bool.{ne_eqb}
use Rattle.std.proofs.Math.Seq.{take-length, drop-length, take-add}
use Rattle.std.proofs.lemmas.List.{length-drop, length-take-le, drop-drop}
use Rattle.std.specs.List.{concat}
use Rattle.hiphop_main.specs.Lines.{lines_of, push_front}
use Rattle.hiphop_main.specs.Split.{before_mark, after_mark, is_mark}

-- the first line ends with the first LF
pub line_at : (bytes : List ℕ) (i : ℕ) → ((k : ℕ) → k < i → get_or bytes k 0 ≡ 10 → ⊥) → i < length bytes → get_or bytes i 0 ≡ 10 → lines_of bytes ≡ take (suc i) bytes ∷ lines_of (drop (suc i) bytes)
line_at [] i none within here = absurd (omega arith)
line_at (b ∷ bs) zero none within here = rw (eq-eqb b 10 here) refl
line_at (b ∷ bs) (suc i) none within here =
    let rest : lines_of bs ≡ take (suc i) bs ∷ lines_of (drop (suc i) bs) = line_at bs i (λ k lt. none (suc k) (omega arith)) (omega arith) here in
    let no : b ≡ 10 → ⊥ = none 0 (omega arith) in
    rw (ne_eqb b 10 no, rest) refl

-- a text without LF is one line
pub last_line : (bytes : List ℕ) → ((k : ℕ) → k < length bytes → get_or bytes k 0 ≡ 10 → ⊥) → 0 < length bytes → lines_of bytes ≡ bytes ∷ []
last_line [] none some = absurd (omega arith)
last_line (b ∷ []) none some = rw (ne_eqb b 10 (none 0 (omega arith))) refl
last_line (b ∷ c ∷ bs) none some =
    let rest : lines_of (c ∷ bs) ≡ (c ∷ bs) ∷ [] = last_line (c ∷ bs) (λ k lt. none (suc k) (omega arith)) (omega arith) in
    rw (ne_eqb b 10 (none 0 (omega arith)), rest) refl

concat-push_front : (b : ℕ) (ls : List (List ℕ)) → concat (push_front b ls) ≡ b ∷ concat ls
concat-push_front b [] = refl
concat-push_front b (l ∷ ls) = refl

-- the lines make up the text
pub concat-lines_of : (bytes : List ℕ) → concat (lines_of bytes) ≡ bytes
concat-lines_of [] = refl
concat-lines_of (b ∷ bs) =
    elim (b == 10) as (λ t. concat (cond t ((b ∷ []) ∷ lines_of bs) (push_front b (lines_of bs))) ≡ b ∷ bs)
    [ true ↦ ap (λ l. b ∷ l) (concat-lines_of bs) | false ↦ concat-push_front b (lines_of bs) ∙ ap (λ l. b ∷ l) (concat-lines_of bs) ]

pub whole_line : (bytes : List ℕ) → bytes ∷ [] ≡ take (length bytes) bytes ∷ lines_of (drop (length bytes) bytes)
whole_line bytes = rw (take-length bytes, drop-length bytes) refl

pub first_line_is : (rest line after : List ℕ) (n : ℕ) → lines_of rest ≡ take n rest ∷ lines_of (drop n rest) → line ≡ take n rest → after ≡ drop n rest → lines_of rest ≡ line ∷ lines_of after
first_line_is rest line after n e front back = e ∙ sym (rw (front, back) refl)

-- where the first line is no mark, the parts go on behind it
pub before_mark_on : (line rest : List ℕ) (all : List (List ℕ)) → all ≡ line ∷ lines_of rest → is_mark line ≡ false → before_mark all ≡ line ++ before_mark (lines_of rest)
before_mark_on line rest all e other = rw (e, other) refl

pub after_mark_on : (line rest : List ℕ) (all : List (List ℕ)) → all ≡ line ∷ lines_of rest → is_mark line ≡ false → after_mark all ≡ after_mark (lines_of rest)
after_mark_on line rest all e other = rw (e, other) refl

-- where it is the mark, the parts end there
pub before_mark_here : (line rest : List ℕ) (all : List (List ℕ)) → all ≡ line ∷ lines_of rest → is_mark line ≡ true → before_mark all ≡ []
before_mark_here line rest all e here = rw (e, here) refl

pub after_mark_here : (line rest : List ℕ) (all : List (List ℕ)) → all ≡ line ∷ lines_of rest → is_mark line ≡ true → after_mark all ≡ rest
after_mark_here line rest all e here = rw (e, here) (concat-lines_of rest)

-- how far the search for the mark has come: no line before `rest` is the mark
pub record Parted (input rest : List ℕ) (start : ℕ) : Type 0 where
  pub within : start ≤ length input
  pub left : rest ≡ drop start input
  pub before : before_mark (lines_of input) ≡ take start input ++ before_mark (lines_of rest)
  pub behind : after_mark (lines_of input) ≡ after_mark (lines_of rest)

-- one line further
pub parted_on : (input rest line after : List ℕ) (start n : ℕ) → Parted input rest start → n ≤ length rest → lines_of rest ≡ take n rest ∷ lines_of (drop n rest) → line ≡ take n rest → after ≡ drop n rest → is_mark line ≡ false → Parted input after (start + length line)
parted_on input rest line after start n so_far fits e front back other =
    let first = first_line_is rest line after n e front back in
    let size : length line ≡ n = ap length front ∙ length-take-le n rest fits in
    record {
      within = (let h : length rest ≡ length input - start = ap length so_far.left ∙ length-drop start input in let w = so_far.within in omega arith);
      left = back ∙ ap (drop n) so_far.left ∙ drop-drop n start input ∙ ap (λ k. drop (start + k) input) (sym size);
      before =
          so_far.before ∙ ap (λ b. take start input ++ b) (before_mark_on line after (lines_of rest) first other)
          ∙ sym (append_assoc (take start input) line (before_mark (lines_of after)))
          ∙ ap (λ t. t ++ before_mark (lines_of after)) (sym (rw size (take-add start n input ∙ ap (λ r. take start input ++ take n r) (sym so_far.left) ∙ ap (λ r. take start input ++ r) (sym front))));
      behind = so_far.behind ∙ after_mark_on line after (lines_of rest) first other;
    }

-- Laws of the lines of a text.
use Rattle.std.proofs.Common.{◌≡◌, ◌≢◌, ℕ, Bool, true, false, cond, ◌==◌, ◌&&◌, List, [], ◌∷◌, ◌++◌, refl, sym, ap, ◌∙◌, subst, append-nil}
use Rattle.std.specs.List.{All}
use Rattle.std.proofs.lemmas.Bool.Decides.{Decides-eqb}
use Rattle.std.proofs.lemmas.List.Elements.{All-head, All-tail, All-cons, All-nil}
use Rattle.scenario_lines.specs.Cut.{IsCut, StartsWith}
use Rattle.scenario_lines.specs.Lines.{in_front, lines_of, parted, without_last_return, without_returns}

abbrev Lacks : List ℕ → Type 0
Lacks line = All (λ b. b ≢ 10) line

no_end : (b : ℕ) → b ≢ 10 → (b == 10) ≡ false
no_end b other = by_test (b == 10) refl
  where
    by_test : (t : Bool) → (b == 10) ≡ t → (b == 10) ≡ false
    by_test true e = absurd (other ((Decides-eqb b 10).0 e))
    by_test false e = e

head : (b : ℕ) (line : List ℕ) → Lacks (b ∷ line) → b ≢ 10
head b line lacks = All-head (λ c. c ≢ 10) b line lacks

tail : (b : ℕ) (line : List ℕ) → Lacks (b ∷ line) → Lacks line
tail b line lacks = All-tail (λ c. c ≢ 10) b line lacks

parted_line : (line rest : List ℕ) → Lacks line → parted (line ++ 10 ∷ rest) ≡ line ∷ parted rest
parted_line [] rest lacks = refl
parted_line (b ∷ line) rest lacks =
    ap (λ t. cond t ([] ∷ parted (line ++ 10 ∷ rest)) (in_front b (parted (line ++ 10 ∷ rest)))) (no_end b (head b line lacks))
    ∙ ap (in_front b) (parted_line line rest (tail b line lacks))

parted_last : (b : ℕ) (line : List ℕ) → Lacks (b ∷ line) → parted (b ∷ line) ≡ (b ∷ line) ∷ []
parted_last b [] lacks = ap (λ t. cond t ([] ∷ []) ((b ∷ []) ∷ [])) (no_end b (head b [] lacks))
parted_last b (c ∷ line) lacks =
    ap (λ t. cond t ([] ∷ parted (c ∷ line)) (in_front b (parted (c ∷ line)))) (no_end b (head b (c ∷ line) lacks))
    ∙ ap (in_front b) (parted_last c line (tail b (c ∷ line) lacks))

never : (b : Bool) → (b && false) ≡ false
never true = refl
never false = refl

-- no CR stands before an LF where there is none
kept : (line : List ℕ) → Lacks line → without_returns line ≡ line
kept [] lacks = refl
kept (b ∷ []) lacks = refl
kept (b ∷ c ∷ line) lacks =
    let other = no_end c (head c line (tail b (c ∷ line) lacks)) in
    ap (λ t. cond ((b == 13) && t) (without_returns (c ∷ line)) (b ∷ without_returns (c ∷ line))) other
    ∙ ap (λ t. cond t (without_returns (c ∷ line)) (b ∷ without_returns (c ∷ line))) (never (b == 13))
    ∙ ap (λ l. b ∷ l) (kept (c ∷ line) (tail b (c ∷ line) lacks))

from_end : (rest : List ℕ) → without_returns (10 ∷ rest) ≡ 10 ∷ without_returns rest
from_end [] = refl
from_end (b ∷ rest) = refl

-- the one before the LF behind a line goes
dropped : (line rest : List ℕ) → Lacks line → without_returns (line ++ 10 ∷ rest) ≡ without_last_return line ++ 10 ∷ without_returns rest
dropped [] rest lacks = from_end rest
dropped (b ∷ []) rest lacks = by_test (b == 13) refl
  where
    by_test : (t : Bool) → (b == 13) ≡ t → without_returns (b ∷ 10 ∷ rest) ≡ without_last_return (b ∷ []) ++ 10 ∷ without_returns rest
    by_test true e =
        ap (λ t. cond (t && true) (without_returns (10 ∷ rest)) (b ∷ without_returns (10 ∷ rest))) e ∙ from_end rest
        ∙ sym (ap (λ t. cond t [] (b ∷ []) ++ 10 ∷ without_returns rest) e)
    by_test false e =
        ap (λ t. cond (t && true) (without_returns (10 ∷ rest)) (b ∷ without_returns (10 ∷ rest))) e ∙ ap (λ l. b ∷ l) (from_end rest)
        ∙ sym (ap (λ t. cond t [] (b ∷ []) ++ 10 ∷ without_returns rest) e)
dropped (b ∷ c ∷ line) rest lacks =
    let other = no_end c (head c line (tail b (c ∷ line) lacks)) in
    ap (λ t. cond ((b == 13) && t) (without_returns (c ∷ (line ++ 10 ∷ rest))) (b ∷ without_returns (c ∷ (line ++ 10 ∷ rest)))) other
    ∙ ap (λ t. cond t (without_returns (c ∷ (line ++ 10 ∷ rest))) (b ∷ without_returns (c ∷ (line ++ 10 ∷ rest)))) (never (b == 13))
    ∙ ap (λ l. b ∷ l) (dropped (c ∷ line) rest (tail b (c ∷ line) lacks))

still_lacks : (line : List ℕ) → Lacks line → Lacks (without_last_return line)
still_lacks [] lacks = lacks
still_lacks (b ∷ []) lacks = by_test (b == 13)
  where
    by_test : (t : Bool) → Lacks (cond t [] (b ∷ []))
    by_test true = All-nil (λ c. c ≢ 10)
    by_test false = lacks
still_lacks (b ∷ c ∷ line) lacks =
    All-cons (λ d. d ≢ 10) b (without_last_return (c ∷ line)) (head b (c ∷ line) lacks) (still_lacks (c ∷ line) (tail b (c ∷ line) lacks))

-- the first line ends at its LF
pub first_line : (text line back : List ℕ) (b : ℕ) (rest : List ℕ) → IsCut 10 text line back → back ≡ b ∷ rest → lines_of text ≡ without_last_return line ∷ lines_of rest
first_line text line back b rest c is =
    let end : b ≡ 10 = subst (StartsWith 10) is c.starts in
    ap lines_of (c.whole ∙ ap (λ r. line ++ r) (is ∙ ap (λ e. e ∷ rest) end)) ∙ ap parted (dropped line rest c.lacks)
    ∙ parted_line (without_last_return line) (without_returns rest) (still_lacks line c.lacks)

-- or with the text
pub last_line : (text line : List ℕ) → text ≢ [] → IsCut 10 text line [] → lines_of text ≡ line ∷ []
last_line text line some c = by_line line c.lacks (c.whole ∙ append-nil line)
  where
    by_line : (l : List ℕ) → Lacks l → text ≡ l → lines_of text ≡ l ∷ []
    by_line [] lacks e = absurd (some e)
    by_line (b ∷ l) lacks e = ap lines_of e ∙ ap parted (kept (b ∷ l) lacks) ∙ parted_last b l lacks

pub last_return : (front : List ℕ) (b : ℕ) → without_last_return (front ++ b ∷ []) ≡ cond (b == 13) front (front ++ b ∷ [])
last_return [] b = refl
last_return (c ∷ []) b = by_test (b == 13)
  where
    by_test : (t : Bool) → c ∷ cond t [] (b ∷ []) ≡ cond t (c ∷ []) (c ∷ b ∷ [])
    by_test true = refl
    by_test false = refl
last_return (c ∷ d ∷ front) b = ap (λ l. c ∷ l) (last_return (d ∷ front) b) ∙ by_test (b == 13)
  where
    by_test : (t : Bool) → c ∷ cond t (d ∷ front) (d ∷ (front ++ b ∷ [])) ≡ cond t (c ∷ d ∷ front) (c ∷ d ∷ (front ++ b ∷ []))
    by_test true = refl
    by_test false = refl

-- what a line without a CR at its end is
pub stripped : (line front : List ℕ) (b : ℕ) → line ≡ front ++ b ∷ [] → b ≡ 13 → front ≡ without_last_return line
stripped line front b is return =
    sym (ap without_last_return is ∙ last_return front b
    ∙ ap (λ c. cond (c == 13) front (front ++ c ∷ [])) return)

other_return : (b : ℕ) → b ≢ 13 → (b == 13) ≡ false
other_return b other = by_test (b == 13) refl
  where
    by_test : (t : Bool) → (b == 13) ≡ t → (b == 13) ≡ false
    by_test true e = absurd (other ((Decides-eqb b 13).0 e))
    by_test false e = e

pub unstripped : (line front : List ℕ) (b : ℕ) → line ≡ front ++ b ∷ [] → b ≢ 13 → line ≡ without_last_return line
unstripped line front b is other =
    is ∙ sym (ap without_last_return is ∙ last_return front b
    ∙ ap (λ t. cond t front (front ++ b ∷ [])) (other_return b other))

-- a first line without LF is the whole text
pub last_lines : (text line back : List ℕ) → text ≢ [] → IsCut 10 text line back → back ≡ []
    → lines_of text ≡ line ∷ lines_of back
last_lines text line back some c none =
    last_line text line some (subst (IsCut 10 text line) none c) ∙ ap (λ b. line ∷ lines_of b) (sym none)

pub first_lines : (text line back : List ℕ) (b : ℕ) (rest stripped : List ℕ) → IsCut 10 text line back
    → back ≡ b ∷ rest → stripped ≡ without_last_return line → lines_of text ≡ stripped ∷ lines_of rest
first_lines text line back b rest stripped c is same =
    first_line text line back b rest c is ∙ ap (λ l. l ∷ lines_of rest) (sym same)

-- Laws of the parts of a line.
use Rattle.std.proofs.Common.{◌≡◌, ◌≢◌, ◌<◌, ◌≤◌, ◌+◌, ℕ, Bool, true, false, cond, ◌==◌, List, [], ◌∷◌, ◌++◌, length, take, drop, get_or, refl, sym, ap, ◌∙◌, arith, append_assoc, append-nil}
use Rattle.std.proofs.lemmas.List.{drop_more, take_more}
use Rattle.std.proofs.Math.Seq.{drop-length}
use Rattle.std.proofs.lemmas.Bool.Decides.{Decides-eqb}
use Rattle.scenario_lines.specs.declared.parts.Place.{Place}
use Rattle.scenario_lines.specs.declared.parts.Place.TheVariants.{Between, Within, Quoted, Escaped}
use Rattle.scenario_lines.specs.Lines.{IsPartOf, begins_with, behind, in_front, parts_from, parts_of}

-- some bytes in front of the first of some lists
abbrev pub all_in_front : List ℕ → List (List ℕ) → List (List ℕ)
all_in_front bs [] = bs ∷ []
all_in_front bs (part ∷ parts) = (bs ++ part) ∷ parts

one_more : (bs : List ℕ) (b : ℕ) (parts : List (List ℕ)) → all_in_front bs (in_front b parts) ≡ all_in_front (bs ++ b ∷ []) parts
one_more bs b [] = refl
one_more bs b (part ∷ parts) = ap (λ p. p ∷ parts) (sym (append_assoc bs (b ∷ []) part))

-- from the start on, the parts are those from the place on behind what was seen
pub record IsSeen (line : List ℕ) (place : Place) (n : ℕ) : Type 0 where
  pub within : n ≤ length line
  pub outside_gaps : place ≢ Between
  pub seen : parts_from Within line ≡ all_in_front (take n line) (parts_from place (drop n line))

pub none_seen : (line : List ℕ) → IsSeen line Within 0
none_seen line = record {
  within = omega arith;
  outside_gaps = λ e. absurd cc;
  seen = no_front (parts_from Within line) (some_parts line);
}
  where
    no_front : (ps : List (List ℕ)) → ps ≢ [] → ps ≡ all_in_front [] ps
    no_front [] some = absurd (some refl)
    no_front (p ∷ ps) some = refl

    front_some : (b : ℕ) (ps : List (List ℕ)) → in_front b ps ≢ []
    front_some b [] = λ e. absurd cc
    front_some b (p ∷ ps) = λ e. absurd cc

    by_test : (t : Bool) (a : List (List ℕ)) (b : ℕ) (ps : List (List ℕ)) → cond t ([] ∷ a) (in_front b ps) ≢ []
    by_test true a b ps = λ e. absurd cc
    by_test false a b ps = front_some b ps

    some_parts : (l : List ℕ) → parts_from Within l ≢ []
    some_parts [] = λ e. absurd cc
    some_parts (b ∷ bs) = by_test (b == 32) (parts_from Between bs) b (parts_from (behind Within b) bs)

not_space : (b : ℕ) → b ≢ 32 → (b == 32) ≡ false
not_space b other = by_test (b == 32) refl
  where
    by_test : (t : Bool) → (b == 32) ≡ t → (b == 32) ≡ false
    by_test true e = absurd (other ((Decides-eqb b 32).0 e))
    by_test false e = e

-- a byte of the part
of_part : (place : Place) (b : ℕ) (bs : List ℕ) → place ≢ Between → (place ≡ Within → b ≢ 32) → parts_from place (b ∷ bs) ≡ in_front b (parts_from (behind place b) bs)
of_part Between b bs outside other = absurd (outside refl)
of_part Within b bs outside other = ap (λ t. cond t ([] ∷ parts_of bs) (in_front b (parts_from (behind Within b) bs))) (not_space b (other refl))
of_part Quoted b bs outside other = refl
of_part Escaped b bs outside other = refl

behind_open : (place : Place) (b : ℕ) → behind place b ≢ Between
behind_open Between b = λ e. by_test (b == 34) e
  where
    by_test : (t : Bool) → cond t Quoted Within ≡ Between → ⊥
    by_test true e = absurd cc
    by_test false e = absurd cc
behind_open Within b = λ e. by_test (b == 34) e
  where
    by_test : (t : Bool) → cond t Quoted Within ≡ Between → ⊥
    by_test true e = absurd cc
    by_test false e = absurd cc
behind_open Quoted b = λ e. by_test (b == 34) (b == 92) e
  where
    by_test : (t u : Bool) → cond t Within (cond u Escaped Quoted) ≡ Between → ⊥
    by_test true u e = absurd cc
    by_test false true e = absurd cc
    by_test false false e = absurd cc
behind_open Escaped b = λ e. absurd cc

pub seen_more : (line : List ℕ) (place : Place) (n b : ℕ) → IsSeen line place n → n < length line → b ≡ get_or line n b → (place ≡ Within → b ≢ 32) → IsSeen line (behind place b) (n + 1)
seen_more line place n b s l read other =
    let rest : drop n line ≡ b ∷ drop (n + 1) line = drop_more line n b l ∙ ap (λ c. c ∷ drop (n + 1) line) (sym read) in
    let front : take (n + 1) line ≡ take n line ++ b ∷ [] = take_more line n b l ∙ ap (λ c. take n line ++ c ∷ []) (sym read) in
    record {
      within = omega arith;
      outside_gaps = behind_open place b;
      seen = s.seen ∙ ap (all_in_front (take n line)) (ap (parts_from place) rest ∙ of_part place b (drop (n + 1) line) s.outside_gaps other)
          ∙ one_more (take n line) b (parts_from (behind place b) (drop (n + 1) line))
          ∙ ap (λ f. all_in_front f (parts_from (behind place b) (drop (n + 1) line))) (sym front);
    }

at_end : (place : Place) → place ≢ Between → parts_from place [] ≡ [] ∷ []
at_end Between outside = absurd (outside refl)
at_end Within outside = refl
at_end Quoted outside = refl
at_end Escaped outside = refl

-- the part ends with the line
pub part_ends : (line : List ℕ) (place : Place) (n : ℕ) → IsSeen line place n → length line ≤ n → IsPartOf line n
part_ends line place n s past =
    let whole : n ≡ length line = (let w = s.within in omega arith) in
    let nothing : drop n line ≡ [] = ap (λ k. drop k line) whole ∙ drop-length line in
    s.seen ∙ ap (all_in_front (take n line)) (ap (parts_from place) nothing ∙ at_end place s.outside_gaps)
    ∙ ap (λ f. f ∷ []) (append-nil (take n line)) ∙ ap (λ r. take n line ∷ parts_of r) (sym nothing)

-- and at a space
pub part_stops : (line : List ℕ) (n b : ℕ) → IsSeen line Within n → n < length line → b ≡ get_or line n b → b ≡ 32 → IsPartOf line n
part_stops line n b s l read space =
    let rest : drop n line ≡ 32 ∷ drop (n + 1) line = drop_more line n b l ∙ ap (λ c. c ∷ drop (n + 1) line) (sym read ∙ space) in
    s.seen ∙ ap (all_in_front (take n line)) (ap (parts_from Within) rest)
    ∙ ap (λ f. f ∷ parts_of (drop (n + 1) line)) (append-nil (take n line)) ∙ ap (λ r. take n line ∷ parts_of r) (sym rest)

-- a line that begins with no space begins with a part
pub begins_part : (line : List ℕ) → line ≢ [] → begins_with 32 line ≡ false → parts_of line ≡ parts_from Within line
begins_part [] some starts = absurd (some refl)
begins_part (b ∷ bs) some starts =
    ap (λ t. cond t (parts_of bs) (in_front b (parts_from (behind Within b) bs))) starts
    ∙ sym (ap (λ t. cond t ([] ∷ parts_of bs) (in_front b (parts_from (behind Within b) bs))) starts)

pub other_begins : (b : ℕ) (bs : List ℕ) → b ≢ 32 → begins_with 32 (b ∷ bs) ≡ false
other_begins b bs other = not_space b other

-- The lines of a text, and the parts of a line. (This project's own.)
use Rattle.std.specs.Prelude.{◌≡◌, ℕ, take, drop, ◌==◌, ◌&&◌, Bool, true, false}
use Rattle.std.specs.Prelude.{if◌then◌else◌, List, [], ◌∷◌}
use Rattle.scenario_lines.specs.declared.parts.Place.{Place}
use Rattle.scenario_lines.specs.declared.parts.Place.TheVariants.{Between, Within, Quoted, Escaped}
use Rattle.hh_base.specs.Bytes.{line_feed, space, quote, backslash}

abbrev pub carriage_return : ℕ
carriage_return = 13

abbrev pub number_sign : ℕ
number_sign = 35

-- a byte in front of the first of some lists
abbrev pub in_front : ℕ → List (List ℕ) → List (List ℕ)
in_front b [] = (b ∷ []) ∷ []
in_front b (bs ∷ rest) = (b ∷ bs) ∷ rest

-- a CR before an LF is dropped
abbrev pub without_returns : List ℕ → List ℕ
without_returns [] = []
without_returns (b ∷ []) = b ∷ []
without_returns (b ∷ c ∷ bs) =
    if (b == carriage_return) && (c == line_feed) then without_returns (c ∷ bs) else b ∷ without_returns (c ∷
    bs)

-- parted by LF, and the last may lack it
abbrev pub parted : List ℕ → List (List ℕ)
parted [] = []
parted (b ∷ bs) = if b == line_feed then [] ∷ parted bs else in_front b (parted bs)

abbrev pub lines_of : List ℕ → List (List ℕ)
lines_of text = parted (without_returns text)

-- a line without a CR at its end
abbrev pub without_last_return : List ℕ → List ℕ
without_last_return [] = []
without_last_return (b ∷ []) = if b == carriage_return then [] else b ∷ []
without_last_return (b ∷ c ∷ bs) = b ∷ without_last_return (c ∷ bs)

-- where the byte behind this one stands, if this one is of a part
abbrev pub behind : Place → ℕ → Place
behind Quoted b = if b == quote then Within else (if b == backslash then Escaped else Quoted)
behind Escaped b = Quoted
behind _ b = if b == quote then Quoted else Within

-- the parts from here on. Spaces part them but in a quoted text, where they are of the part. From within a
-- part on, the first is what is left of it
abbrev pub parts_from : Place → List ℕ → List (List ℕ)
parts_from Between [] = []
parts_from _ [] = [] ∷ []
parts_from Between (b ∷ bs) = if b == space then parts_from Between bs else in_front b (parts_from (behind
    Between b) bs)
parts_from Within (b ∷ bs) = if b == space then [] ∷ parts_from Between bs else in_front b (parts_from
    (behind Within b) bs)
parts_from p (b ∷ bs) = in_front b (parts_from (behind p b) bs)

abbrev pub parts_of : List ℕ → List (List ℕ)
parts_of line = parts_from Between line

-- no part, or the first begins with `#`
abbrev pub begins_with : ℕ → List ℕ → Bool
begins_with b [] = false
begins_with b (c ∷ bs) = c == b

abbrev pub is_skipped : List (List ℕ) → Bool
is_skipped [] = true
is_skipped (part ∷ parts) = begins_with number_sign part

-- the line's first n bytes are its first part
abbrev pub IsPartOf : List ℕ → ℕ → Type 0
IsPartOf line n = parts_from Within line ≡ take n line ∷ parts_of (drop n line)

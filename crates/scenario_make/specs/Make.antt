-- A program for load, with its scenario, made from a seed. (This project's own; the sequence of numbers is
-- the linear congruential one of Knuth's MMIX.)
use Rattle.std.specs.Prelude.{ℕ, zero, suc, ◌+◌, ◌*◌, ◌/◌, ◌%◌, ◌^◌, ◌==◌, cond, List, [], ◌++◌, codes}

-- the number behind a number of 64 bits
abbrev pub next : ℕ → ℕ
next x = (x * 6364136223846793005 + 1442695040888963407) % 2 ^ 64

-- the number of a branch; branches are counted from 1, and before them stands the seed
abbrev pub number_of : ℕ → ℕ → ℕ
number_of seed zero = seed
number_of seed (suc branch) = next (number_of seed branch)

-- the three templates
abbrev pub template : ℕ → List ℕ
template zero = codes "loop { emit N(1); pause; }"
template (suc zero) = codes "every (A.now) { emit N(2); }"
template (suc (suc more)) = codes "abort count(3, A.now) { sustain N(3); }"

-- the template that a number chooses, by its 31 highest bits
abbrev pub chosen : ℕ → List ℕ
chosen x = template (x / 2 ^ 33 % 3)

-- the word that a branch begins with
abbrev pub word_of : ℕ → List ℕ
word_of branch = cond (branch == 1) (codes "fork") (codes "par")

-- a branch, on a line of its own
abbrev pub branch_line : ℕ → ℕ → List ℕ
branch_line seed branch = word_of branch ++ codes " { " ++ chosen (number_of seed branch) ++ codes " }\n"

-- a reaction of the scenario: those at even places have the input
abbrev pub reaction_line : ℕ → List ℕ
reaction_line place = cond (place % 2 == 0) (codes "react A\n") (codes "react\n")

-- the lines of the places from 1 up to the last
unfoldable pub lines_up_to : ℕ → (ℕ → List ℕ) → List ℕ
lines_up_to zero line = []
lines_up_to (suc last) line = lines_up_to last line ++ line (last + 1)

-- the text: a module that is a fork of so many branches, and its scenario of 100 reactions
unfoldable pub made : ℕ → ℕ → List ℕ
made seed size =
    codes "module Gen(in A, out N: int combine plus) {\n" ++ lines_up_to size (branch_line seed) ++
    codes "}\n%% scenario\n"
    ++ lines_up_to 100 reaction_line

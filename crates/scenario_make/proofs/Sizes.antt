-- How long a made text is at most.
use Rattle.std.proofs.Common.{ℕ, zero, suc, ◌+◌, ◌*◌, ◌/◌, ◌%◌, ◌^◌, ◌==◌, ◌≤◌, Bool, true, false, cond, List, ◌++◌, length, arith, length-append, codes}
use Rattle.scenario_make.specs.Make.{branch_line, chosen, lines_up_to, made, number_of, reaction_line, template, word_of}

template_size : (n : ℕ) → length (template n) ≤ 40
template_size zero = omega arith
template_size (suc zero) = omega arith
template_size (suc (suc more)) = omega arith

word_size : (first : Bool) → length (cond first (codes "fork") (codes "par")) ≤ 4
word_size true = omega arith
word_size false = omega arith

reaction_size : (even : Bool) → length (cond even (codes "react A\n") (codes "react\n")) ≤ 64
reaction_size true = omega arith
reaction_size false = omega arith

branch_size : (word chosen : List ℕ) → length word ≤ 4 → length chosen ≤ 40
    → length (word ++ codes " { " ++ chosen ++ codes " }\n") ≤ 64
branch_size word chosen w c = simp length-append (omega arith)

lines_size : (line : ℕ → List ℕ) → ((place : ℕ) → length (line place) ≤ 64) → (last : ℕ) → length (lines_up_to last line) ≤ 64 * last
unfolding lines_up_to
lines_size line short zero = omega arith
lines_size line short (suc last) =
    let before : length (lines_up_to last line) ≤ 64 * last = lines_size line short last in
    let next : length (line (last + 1)) ≤ 64 = short (last + 1) in
    simp length-append (omega arith)

whole_size : (size : ℕ) (branches reactions : List ℕ) → length branches ≤ 64 * size → length reactions ≤ 6400
    → length (codes "module Gen(in A, out N: int combine plus) {\n" ++ branches ++ codes "}\n%% scenario\n" ++ reactions) ≤ 8192 + 64 * size
whole_size size branches reactions b r = simp length-append (omega arith)

pub made_size : (seed size : ℕ) → length (made seed size) ≤ 8192 + 64 * size
unfolding made
made_size seed size =
    whole_size size (lines_up_to size (branch_line seed)) (lines_up_to 100 reaction_line)
    (lines_size (branch_line seed) (λ place. branch_size (word_of place) (chosen (number_of seed place)) (word_size (place == 1)) (template_size (number_of seed place / 2 ^ 33 % 3))) size)
    (lines_size reaction_line (λ place. reaction_size (place % 2 == 0)) 100)

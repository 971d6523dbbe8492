-- The lines of a net text under a rule, which each of them keeps or not. (This project's own.)
use Rattle.std.specs.Prelude.{◌≡◌, ℕ, ◌+◌, Bool, true, false, List, [], ◌∷◌, ◌++◌, length, map}
use Rattle.std.specs.Prelude.{Result, Ok, Err}
use Rattle.std.specs.List.{list_all}

-- a line with a count, of which no rule says anything, and each line behind it
abbrev pub section : {X : Type 0} → (X → Bool) → List X → List Bool
section keeps xs = true ∷ map keeps xs

abbrev pub all_true : List Bool → Bool
all_true lines = list_all (λ b. b) lines

-- line n, counted from 1, is the first that does not keep the rule
pub record IsFirstRefused (lines : List Bool) (n : ℕ) : Type 0 where
  pub before : List Bool
  pub behind : List Bool
  pub lines_are : lines ≡ before ++ false ∷ behind
  pub kept : all_true before ≡ true
  pub counted : n ≡ length before + 1

-- a bridge: the number of the line behind lines that are numbered from n on, or of the first refused one
abbrev pub past : ℕ → List Bool → Result ℕ ℕ
past n [] = Ok n
past n (true ∷ lines) = past (n + 1) lines
past n (false ∷ lines) = Err n

-- a bridge: the same with more lines behind
abbrev pub past_more : Result ℕ ℕ → List Bool → Result ℕ ℕ
past_more (Ok n) lines = past n lines
past_more (Err n) lines = Err n

-- An input is parted at its first line that is exactly `%% scenario`: the modules stand before it, the
-- scenario behind it. The line may end in CR LF, and as the last line it may lack its LF. Without such a line
-- the scenario is empty. (This project's own.)
use Rattle.std.specs.Prelude.{ℕ, Bool, ◌||◌, cond, List, [], ◌∷◌, ◌++◌, codes}
use Rattle.std.specs.List.{concat}
use Rattle.std.specs.Str.{bytes_eq}
use Rattle.hiphop_main.specs.Lines.{lines_of}

abbrev pub is_mark : List ℕ → Bool
is_mark line = bytes_eq line (codes "%% scenario\n") || bytes_eq line (codes "%% scenario\r\n")
    || bytes_eq line (codes "%% scenario")

-- the lines before the mark, and those behind it
abbrev pub before_mark : List (List ℕ) → List ℕ
before_mark [] = []
before_mark (line ∷ lines) = cond (is_mark line) [] (line ++ before_mark lines)

abbrev pub after_mark : List (List ℕ) → List ℕ
after_mark [] = []
after_mark (line ∷ lines) = cond (is_mark line) (concat lines) (after_mark lines)

abbrev pub module_text : List ℕ → List ℕ
module_text input = before_mark (lines_of input)

abbrev pub scenario_text : List ℕ → List ℕ
scenario_text input = after_mark (lines_of input)

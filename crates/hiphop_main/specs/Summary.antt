-- The one line that `hiphop gen` writes of what was played. (This project's own.)
use Rattle.std.specs.Prelude.{ℕ, Bool, false, ◌==◌, List, [], ◌∷◌, ◌++◌, count_by, length, codes}
use Rattle.std.specs.Fmt.{decimal}
use Rattle.hiphop_main.specs.Lines.{lines_of}

-- a line that tells of a refused reaction, which begins with a minus (45)
abbrev pub is_refusal : List ℕ → Bool
is_refusal [] = false
is_refusal (b ∷ bs) = b == 45

abbrev pub summary_line : ℕ → ℕ → ℕ → ℕ → ℕ → List ℕ
summary_line seed size lines refused bytes =
    codes "gen seed=" ++ decimal seed ++ codes " size=" ++ decimal size ++ codes " lines=" ++
    decimal lines ++ codes " refused="
    ++ decimal refused ++ codes " bytes=" ++ decimal bytes ++ codes "\n"

-- how many lines `play` wrote, how many of them tell of a refused reaction, and how many bytes
abbrev pub summary : ℕ → ℕ → List ℕ → List ℕ
summary seed size text =
    summary_line seed size (length (lines_of text)) (count_by is_refusal (lines_of text)) (length text)

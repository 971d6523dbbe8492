-- One byte, by what is written: as `byte (codes "(")`.
use Rattle.std.specs.Prelude.{ℕ, List, [], ◌∷◌}

abbrev pub byte : List ℕ → ℕ
byte [] = 0
byte (b ∷ bs) = b

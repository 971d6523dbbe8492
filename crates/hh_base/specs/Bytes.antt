-- The bytes that the rules of texts and literals name, as ASCII has them.
use Rattle.std.specs.Prelude.{ℕ}

abbrev pub tab : ℕ
tab = 9

abbrev pub line_feed : ℕ
line_feed = 10

-- the first byte that is no control character
abbrev pub space : ℕ
space = 32

abbrev pub quote : ℕ
quote = 34

abbrev pub plus : ℕ
plus = 43

abbrev pub minus : ℕ
minus = 45

abbrev pub underscore : ℕ
underscore = 95

abbrev pub backslash : ℕ
backslash = 92

abbrev pub letter_n : ℕ
letter_n = 110

abbrev pub letter_t : ℕ
letter_t = 116

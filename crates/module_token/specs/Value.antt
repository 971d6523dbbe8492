-- The value of a quoted text, by its spelling. This project's own.
use Rattle.std.specs.Prelude.{ℕ, zero, suc, List, [], ◌∷◌, Option, Some, None, length, drop}
use Rattle.hh_base.specs.Literal.{next_byte}

abbrev pub value_step : (List ℕ → List ℕ) → Option (ℕ × List ℕ) → List ℕ
value_step more None = []
value_step more (Some next) = next.0 ∷ more next.1

-- what the bytes stand for up to the first that spells none of a value; at most the given number of bytes of
-- the value
abbrev pub value_for : ℕ → List ℕ → List ℕ
value_for zero text = []
value_for (suc n) text = value_step (value_for n) (next_byte text)

-- what the bytes stand for that follow the opening quote
unfoldable pub quoted_value : List ℕ → List ℕ
quoted_value text = value_for (length text) (drop 1 text)

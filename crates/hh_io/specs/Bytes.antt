-- What is added of a text, and what is taken of the bytes that are left, where they are told. This project's
-- own, over the words of Rattle's std for readers and writers.
use Rattle.std.specs.Prelude.{ℕ, ◌≤◌, Option, List, length, take}
use Rattle.std.specs.Io.KnownBytes.{Consumes, Appends}

-- no more bytes than this were taken off the front
abbrev pub TakesAtMost : ℕ → Option (List ℕ) → Option (List ℕ) → Type 0
TakesAtMost most old new = (bytes : List ℕ) × (length bytes ≤ most) × Consumes old new bytes

-- a prefix of the text was added at the end, perhaps none of it, and nothing else
abbrev pub AppendsPrefix : Option (List ℕ) → Option (List ℕ) → List ℕ → Type 0
AppendsPrefix old new text = (n : ℕ) × (n ≤ length text) × Appends old new (take n text)

-- Where a text is cut behind what stands at its front. This project's own.
use Rattle.std.specs.Prelude.{◌≡◌, ℕ, ◌<◌, List, [], length}
use Rattle.std.specs.Str.{IsCharBoundary}
use Rattle.module_token.specs.declared.front.Front.{Front}
use Rattle.module_token.specs.declared.front.Front.TheVariants as front

-- some bytes, after which no character is cut
abbrev pub IsCut : List ℕ → ℕ → Type 0
IsCut text n = (0 < n) × IsCharBoundary text n

-- a gap and a token end at a cut, and a fault lies within the text
abbrev pub CutsAt : List ℕ → Front → Type 0
CutsAt text front.End = text ≡ []
CutsAt text (front.Gap n) = IsCut text n
CutsAt text (front.Lexeme n what) = IsCut text n
CutsAt text (front.Wrong n kind) = n < length text

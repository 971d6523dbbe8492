-- Tokens as places in a text. This project's own.
use Rattle.std.specs.Prelude.{ℕ, ◌<◌, ◌≤◌, List, [], ◌∷◌, map, drop, slice_range}
use Rattle.std.specs.Str.{IsCharBoundary}
use Rattle.module_token.specs.declared.token.Token.{Token}
use Rattle.module_token.specs.Token.{IsToken}
use Rattle.module_token.specs.Tokens.{TextToken}

-- the token with its bytes
abbrev pub tok : List ℕ → Token → TextToken
tok text t = record { place = t.start; what = t.what; text = slice_range text t.start t.«end» }

abbrev pub toks : List ℕ → List Token → List TextToken
toks text tokens = map (tok text) tokens

-- the token has bytes of the text, which spell it, and cuts no character
pub record InText (text : List ℕ) (t : Token) : Type 0 where
  pub some : t.start < t.«end»
  pub first : IsCharBoundary text t.start
  pub last : IsCharBoundary text t.«end»
  pub spells : IsToken (slice_range text t.start t.«end») t.what (drop t.«end» text)

-- from a place on to another, the tokens stand one behind the other
abbrev pub Rising : ℕ → List Token → ℕ → Type 0
Rising place [] end = place ≤ end
Rising place (t ∷ ts) end = (place ≤ t.start) × Rising t.«end» ts end

-- The tokens of a text, and the first place where it has neither a gap nor a token. This project's own.
use Rattle.std.specs.Prelude.{ℕ, ◌+◌, List, [], ◌∷◌, ◌++◌, length, Option, Some, None}
use Rattle.module_token.specs.declared.fault.TokenFaultKind.{TokenFaultKind}
use Rattle.module_token.specs.declared.fault.TokenFault.{TokenFault}
use Rattle.module_token.specs.declared.token.TokenKind.{TokenKind}
use Rattle.module_token.specs.Fault.{IsFault}
use Rattle.module_token.specs.Gap.{IsGap}
use Rattle.module_token.specs.Token.{IsToken}

-- a token of a text: the number of bytes before it, what it is, and its bytes
pub record TextToken : Type 0 where
  pub place : ℕ
  pub what : TokenKind
  pub text : List ℕ

abbrev pub fault_at : ℕ → TokenFaultKind → TokenFault
fault_at place kind = record { pos = record { 0 = place }; kind = kind }

-- what is read of a text that stands behind so many bytes: its tokens up to its end, or up to a fault
pub data Tokenizes : ℕ → List ℕ → List TextToken → Option TokenFault → Type 0 where
  ended : {place : ℕ} → Tokenizes place [] [] None
  refused : {place : ℕ} {text : List ℕ} (n : ℕ) (kind : TokenFaultKind) → IsFault kind text n
      → Tokenizes place text [] (Some (fault_at (place + n) kind))
  passed : {place : ℕ} (gap rest : List ℕ) {tokens : List TextToken} {end : Option TokenFault}
      → IsGap gap rest → Tokenizes (place + length gap) rest tokens end
      → Tokenizes place (gap ++ rest) tokens end
  taken : {place : ℕ} (text rest : List ℕ) (what : TokenKind) {tokens : List TextToken}
      {end : Option TokenFault} → IsToken text what rest → Tokenizes (place + length text) rest tokens end
      → Tokenizes place (text ++ rest) (record { place = place; what = what; text = text } ∷ tokens) end

abbrev pub HasTokens : List ℕ → List TextToken → Type 0
HasTokens text tokens = Tokenizes 0 text tokens None

abbrev pub FirstTokenFault : List ℕ → TokenFault → Type 0
FirstTokenFault text fault = (tokens : List TextToken) × Tokenizes 0 text tokens (Some fault)

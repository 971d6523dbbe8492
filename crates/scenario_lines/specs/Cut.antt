-- A list of bytes cut where a byte first stands. (This project's own.)
use Rattle.std.specs.Prelude.{◌≡◌, ◌≢◌, ℕ, List, [], ◌∷◌, ◌++◌, All}

-- empty, or the byte stands first
abbrev pub StartsWith : ℕ → List ℕ → Type 0
StartsWith byte [] = Unit {0}
StartsWith byte (b ∷ bytes) = b ≡ byte

-- front is what stands before the byte's first place, and back is the rest
pub record IsCut (byte : ℕ) (bytes front back : List ℕ) : Type 0 where
  pub whole : bytes ≡ front ++ back
  pub lacks : All (λ b. b ≢ byte) front
  pub starts : StartsWith byte back

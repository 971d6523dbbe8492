-- What a function that takes a line off the front of a text promises. (This project's own.)
use Rattle.std.specs.Prelude.{◌≡◌, ℕ, List, ◌++◌, Result, Ok, Err}
use Rattle.net_line.specs.declared.fault.LineFault.{LineFault}
use Rattle.net_line.specs.declared.fault.LineFault.TheVariants.{Formless}

-- the text begins with what is written for a, which has its form, and with nothing else that is so
pub record IsTaken {A : Type 0} (write : A → List ℕ) (HasForm : A → Type 0) (text : List ℕ) (a : A) (left :
    List ℕ)
    : Type 0 where
  pub whole : text ≡ write a ++ left
  pub form : HasForm a
  pub only : (b : A) (rest : List ℕ) → HasForm b → text ≡ write b ++ rest → (b ≡ a) × (rest ≡ left)

-- the text begins with nothing that is written so
abbrev pub IsRefused : {A : Type 0} → (A → List ℕ) → (A → Type 0) → List ℕ → Type 0
IsRefused {A} write HasForm text = (a : A) (rest : List ℕ) → HasForm a → text ≡ write a ++ rest → ⊥

-- what stands in front is taken; a line without form is the beginning of no text that has one
abbrev pub Takes : {A : Type 0} → (A → List ℕ) → (A → Type 0) → List ℕ → Result A LineFault → List ℕ → Type 0
Takes write HasForm text (Ok a) left = IsTaken write HasForm text a left
Takes write HasForm text (Err e) left = e ≡ Formless → IsRefused write HasForm text

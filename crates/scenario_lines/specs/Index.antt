-- An index of an interface: the number of each signal that the environment gives by its name. (This project's
-- own.)
use Rattle.std.specs.Prelude.{◌≡◌, ◌≢◌, ◌<◌, ℕ, Option, Some, IsSome, List, All}
use Rattle.std.specs.HashMap.{HashMap, get_by}
use Rattle.std.specs.Str.{bytes_eq}
use Rattle.std.specs.Borrow.{Bor}
use Rattle.std.specs.declared.hash.FoldHasher.{FoldHasher}
use Rattle.std.specs.declared.hash.BuildHasherDefault.{BuildHasherDefault}
use Rattle.hh_term.specs.declared.program.SignalDecl.{SignalDecl}
use Rattle.scenario_lines.specs.Interface.{IsGiven}

-- numbers by names
abbrev pub Numbers : Type 0
Numbers = HashMap (Bor (List ℕ)) ℕ (BuildHasherDefault FoldHasher)

abbrev pub number_of : Numbers → List ℕ → Option ℕ
number_of numbers name = get_by (λ k. bytes_eq name k.now) numbers

-- the numbers found are those of signals with that name, and each of these is found
pub record IsIndex (signals : List SignalDecl) (numbers : Numbers) : Type 0 where
  pub sound : (name : List ℕ) (s : ℕ) → number_of numbers name ≡ Some s
      → (d : SignalDecl) × IsGiven signals name s d
  pub complete : (name : List ℕ) (s : ℕ) (d : SignalDecl) → IsGiven signals name s d
      → IsSome (number_of numbers name)

-- the same for the first n signals
pub record IsIndexBelow (signals : List SignalDecl) (numbers : Numbers) (n : ℕ) : Type 0 where
  pub sound : (name : List ℕ) (s : ℕ) → number_of numbers name ≡ Some s
      → (d : SignalDecl) × IsGiven signals name s d
  pub words : (name : List ℕ) (s : ℕ) (d : SignalDecl) → s < n → IsGiven signals name s d
      → All (λ b. b ≢ 40) name
  pub complete : (name : List ℕ) (s : ℕ) (d : SignalDecl) → s < n → IsGiven signals name s d
      → IsSome (number_of numbers name)

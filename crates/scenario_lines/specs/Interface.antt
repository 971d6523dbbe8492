-- The signals that the environment gives, by name. (This project's own.)
use Rattle.std.specs.Prelude.{◌≡◌, ◌≢◌, ℕ, ◌<◌, ◌^◌, Bool, true, false, Option, Some, None, List, All, cond}
use Rattle.std.specs.Prelude.{slice_get}
use Rattle.hh_base.specs.declared.value.Dir.{Dir}
use Rattle.hh_base.specs.declared.value.Dir.TheVariants as dir
use Rattle.hh_base.specs.declared.value.Kind.{Kind}
use Rattle.hh_term.specs.declared.program.SignalDecl.{SignalDecl}

-- the environment gives the signal
abbrev pub is_given : Dir → Bool
is_given dir.Input = true
is_given dir.Both = true
is_given _ = false

-- the signal with number s, which the environment gives, has this name and this declaration
pub record IsGiven (signals : List SignalDecl) (name : List ℕ) (s : ℕ) (d : SignalDecl) : Type 0 where
  pub at : slice_get signals s ≡ Some d
  pub given : is_given d.dir ≡ true
  pub named : d.name ≡ Some name

-- the numbers of the signals that the environment gives are of 32 bits, and no two have one name
pub record HasNames (signals : List SignalDecl) : Type 0 where
  pub numbered : (name : List ℕ) (s : ℕ) (d : SignalDecl) → IsGiven signals name s d → s < 2 ^ 32
  pub distinct : (name : List ℕ) (s t : ℕ) (d e : SignalDecl) → IsGiven signals name s d
      → IsGiven signals name t e → s ≡ t

-- the names of these signals have no parenthesis, and no two have one name
pub record HasWords (signals : List SignalDecl) : Type 0 where
  pub words : (name : List ℕ) (s : ℕ) (d : SignalDecl) → IsGiven signals name s d → All (λ b. b ≢ 40) name
  pub distinct : (name : List ℕ) (s t : ℕ) (d e : SignalDecl) → IsGiven signals name s d
      → IsGiven signals name t e → s ≡ t

-- the name of a signal that the environment gives
abbrev pub given_name : SignalDecl → Option (List ℕ)
given_name d = cond (is_given d.dir) d.name None

-- the signal has this name, and this kind
pub record HasKind (signals : List SignalDecl) (name : List ℕ) (s : ℕ) (kind : Kind) : Type 0 where
  pub signal : SignalDecl
  pub given : IsGiven signals name s signal
  pub kind_is : signal.kind ≡ kind

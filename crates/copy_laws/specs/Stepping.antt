-- When a statement and its copy step the same, up to the numbers of signals and async sites. (This project's
-- own.)
use Rattle.std.specs.Prelude.{◌≡◌, ℕ, Option, Some, None, List, map, slice_get}
use Rattle.hh_term.specs.declared.program.SignalDecl.{SignalDecl}
use Rattle.hh_term.specs.Statement.{Statement}
use Rattle.hh_term.specs.Kernel.{Kernel}
use Rattle.hh_term.specs.Touches.{Touch}
use Rattle.hh_term.specs.Step.{Stepped}
use Rattle.loop_copy.specs.Stands.{Stands}
use Rattle.copy_laws.specs.Agreeing.{EmitsTheSame}

-- both are there, in this relation, or none is
abbrev pub BothOrNone : {A : Type 0} → (A → A → Type 0) → Option A → Option A → Type 0
BothOrNone R None None = Unit {0}
BothOrNone R (Some a) (Some b) = R a b
BothOrNone R _ _ = ⊥

-- a touch of a copied site counts as one of the site that it copies
abbrev pub counted_at : (ℕ → ℕ) → Touch → Touch
counted_at original t = record t { site = original t.site }

abbrev pub declared_in : Kernel → ℕ → Option SignalDecl
declared_in K s = slice_get K.signals s

-- In the copied program C signal s of K has the number f s, and its sites copy those that `original` gives.
-- The same is emitted and touched, with the same code and faults; the doubled signals are declared the same;
-- and the next marks stand for each other.
pub record StepsTheSame (K C : Kernel) (f original : ℕ → ℕ) (locals : List ℕ) (p : Statement)
    (a copied : Stepped) : Type 0 where
  pub bag : EmitsTheSame K f locals a.bag copied.bag
  pub code : copied.code ≡ a.code
  pub next : BothOrNone (Stands p) a.next copied.next
  pub touches : map (counted_at original) copied.touches ≡ a.touches
  pub faults : copied.faults ≡ a.faults
  pub doubled : map (declared_in C) copied.doubled ≡ map (declared_in K) a.doubled

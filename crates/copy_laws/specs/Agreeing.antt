-- When a statement and its copy must and can do the same, up to the numbers of signals. (This project's own.)
use Rattle.std.specs.Prelude.{◌≡◌, ℕ, List, [], ◌∷◌}
use Rattle.host_expr.specs.Environment.{Env}
use Rattle.hh_term.specs.Kernel.{Kernel}
use Rattle.hh_term.specs.Scopes.{IsInScope}
use Rattle.hh_term.specs.MustCan.{Bag, MustCan}

-- each signal in scope has in the copy the cell that it has here
abbrev pub SeesTheSame : Kernel → (ℕ → ℕ) → List ℕ → Env → Env → Type 0
SeesTheSame K f locals E F = (s : ℕ) → IsInScope K locals s → F (f s) ≡ E s

-- the same emissions in the same order, each of a signal that is in scope
abbrev pub EmitsTheSame : Kernel → (ℕ → ℕ) → List ℕ → Bag → Bag → Type 0
EmitsTheSame K f locals [] [] = Unit {0}
EmitsTheSame K f locals (e ∷ bag) (d ∷ copied) =
    (IsInScope K locals e.0 × (d.0 ≡ f e.0) × (d.1 ≡ e.1)) × EmitsTheSame K f locals bag copied
EmitsTheSame K f locals _ _ = ⊥

pub record DoesTheSame (K : Kernel) (f : ℕ → ℕ) (locals : List ℕ) (a copied : MustCan) : Type 0 where
  pub must : EmitsTheSame K f locals a.must copied.must
  pub code : copied.code ≡ a.code
  pub can : EmitsTheSame K f locals a.can copied.can
  pub codes : copied.codes ≡ a.codes

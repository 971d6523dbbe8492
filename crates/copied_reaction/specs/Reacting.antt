-- When a reaction of a program and one of its copy are the same. (This project's own.)
use Rattle.std.specs.Prelude.{◌≡◌, Bool, List, map, IsPermutation}
use Rattle.std.specs.List.{filter}
use Rattle.hh_term.specs.Kernel.{Kernel}
use Rattle.hh_term.specs.Touches.{Touch, new_id}
use Rattle.hh_term.specs.Reaction.{Completed, Outcome, Undecided, Doubled, Faulted, Completes}
use Rattle.loop_copy.specs.Copies.{copied_program, original_site}
use Rattle.loop_copy.specs.Stands.{StandsFor}
use Rattle.copy_laws.specs.Stepping.{counted_at, declared_in}

-- the touches of copied sites, each as one of the site that it copies
abbrev pub counted : Kernel → List Touch → List Touch
counted K = map (counted_at (original_site K))

-- The interface has the same emissions and values; the code is the same; the controls stand for each other;
-- and the same touches were made, in any order.
pub record CompletesTheSame (K : Kernel) (a copied : Completed) : Type 0 where
  pub signals : copied.signals ≡ a.signals
  pub code : copied.code ≡ a.code
  pub next : StandsFor K.statement a.next copied.next
  pub touches : IsPermutation (counted K copied.touches) a.touches

-- an instance that is started and runs on, and so gets an id
abbrev pub is_new : Touch → Bool
is_new t = new_id t.started t.runs_after

-- the new instances have the same ids, in the order of copied sites and in the order of sites
abbrev pub GivesTheSameIds : Kernel → Completed → Completed → Type 0
GivesTheSameIds K a copied = counted K (filter is_new copied.touches) ≡ filter is_new a.touches

-- the same refusal, of signals that are declared the same or at the same position, or two reactions that
-- complete in this relation
abbrev pub ReactsTheSame : Kernel → (Completed → Completed → Type 0) → Outcome → Outcome → Type 0
ReactsTheSame K R (Undecided ss) (Undecided ts) =
    (ts ≡ ss) × (map (declared_in (copied_program K)) ts ≡ map (declared_in K) ss)
ReactsTheSame K R (Doubled s) (Doubled t) = declared_in (copied_program K) t ≡ declared_in K s
ReactsTheSame K R (Faulted at kind) (Faulted at' kind') = (at' ≡ at) × (kind' ≡ kind)
ReactsTheSame K R (Completes a) (Completes c) = R a c
ReactsTheSame K R _ _ = ⊥

-- How the answer to a reaction stands for its outcome. (This project's own.)
use Rattle.std.specs.Prelude.{◌≡◌, ℕ, Option, Some, None, List, map, slice_get}
use Rattle.hh_term.specs.Kernel.{Kernel}
use Rattle.hh_term.specs.Views.{control_of}
use Rattle.hh_term.specs.Reaction.{Now, Completed, Outcome, Undecided, Doubled, Faulted, Completes}
use Rattle.last_walk.specs.LastWalk.{touch_of}
use Rattle.sync_step.specs.declared.answer.SignalNow.{SignalNow}
use Rattle.sync_step.specs.declared.answer.Stepped.{Stepped}
use Rattle.sync_step.specs.declared.answer.StepEnd.{StepEnd}
use Rattle.sync_step.specs.declared.answer.StepEnd.TheVariants as end

abbrev pub now_in : SignalNow → Now
now_in n = record { signal = n.signal; emissions = n.emissions; status = n.status; val = n.value }

abbrev pub completed_in : Stepped → Completed
completed_in a =
    record {
      signals = map now_in a.signals.items;
      code = a.code;
      next = control_of a.next;
      touches = map touch_of a.touches.items;
    }

-- the name that a signal is declared with
abbrev pub declared_name : Kernel → ℕ → Option (List ℕ)
declared_name K s = (elim (slice_get K.signals s) [ Some d ↦ d.name | None ↦ None ])

-- a doubled signal is told by its name
pub record IsRefusedFor (K : Kernel) (s : ℕ) (a : Stepped) : Type 0 where
  pub name : List ℕ
  pub told : a.multiple ≡ Some name
  pub declared : declared_name K s ≡ Some name

-- the answer tells this outcome
abbrev pub Tells : Kernel → Outcome → StepEnd → Type 0
Tells K (Undecided signals) (end.Undecided us) = us.items ≡ signals
Tells K (Doubled s) (end.Stepped a) = IsRefusedFor K s a
Tells K (Faulted at kind) (end.Stepped a) = (a.multiple ≡ None) × (a.fault ≡ Some (at, kind))
Tells K (Completes d) (end.Stepped a) = (a.multiple ≡ None) × (a.fault ≡ None) × (completed_in a ≡ d)
Tells K _ _ = ⊥

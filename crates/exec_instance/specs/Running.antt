-- The running instances of a machine, in rising id. (This project's own.)
use Rattle.std.specs.Prelude.{ℕ, ◌<◌, ◌≤◌, ◌==◌, Option, List, [], ◌∷◌, find}
use Rattle.exec_instance.specs.declared.instance.Instance.{Instance}

-- the last id that was given, and the instances that run
pub record Running : Type 0 where
  pub last : ℕ
  pub instances : List Instance

-- the instance that has the id
abbrev pub holder : List Instance → ℕ → Option Instance
holder running id = find (λ i. i.id == id) running

-- the ids rise from above the first number up to the last id
abbrev pub RiseFrom : ℕ → List Instance → ℕ → Type 0
RiseFrom low [] last = low ≤ last
RiseFrom low (i ∷ is) last = (low < i.id) × RiseFrom i.id is last

-- the ids differ, rise, and lie from 1 to the last id
abbrev pub IsRising : List Instance → ℕ → Type 0
IsRising running last = RiseFrom 0 running last

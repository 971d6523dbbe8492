-- The runs of a text that lie on a cycle: two modules that reach each other have one root. This project's own.
use Rattle.std.specs.Prelude.{◌≡◌, ℕ, ◌+◌, ◌==◌, Bool, true, false, Option, Some, None, List, [], ◌∷◌, map}
use Rattle.std.specs.List.{Contains}
use Rattle.hh_base.specs.declared.value.Pos.{Pos}
use Rattle.run_graph.specs.Flood.{root_of}
use Rattle.link_faults.specs.declared.fault.LinkKind.TheVariants as fault
use Rattle.link_faults.specs.declared.fault.LinkFault.{LinkFault}
use Rattle.link_faults.specs.declared.walk.RunAt.{RunAt}
use Rattle.link_faults.specs.Faults.{earlier}
use Rattle.link_faults.specs.Earliest.{first_at, first_by}
use Rattle.link_faults.specs.Rows.{Program, here_if}
use Rattle.link_faults.specs.FirstFault.{RunsInCycle}

-- the modules that are run
abbrev pub callees : List RunAt → List ℕ
callees = map (λ (r : RunAt). r.callee)

-- these are the positions of the runs on a cycle
pub record AreCycles (parts : Program) (cycles : List Pos) : Type 0 where
  pub there : (p : Pos) → Contains cycles p → RunsInCycle parts p
  pub all : (p : Pos) → RunsInCycle parts p → Contains cycles p

-- the first of the runs on a cycle, or none
abbrev pub IsFirstCycle : Program → Option LinkFault → Type 0
IsFirstCycle parts v = (cycles : List Pos) × (v ≡ first_at fault.RunCycle cycles) × AreCycles parts cycles

-- ---- by roots

abbrev pub is_one_root : Option ℕ → Option ℕ → Bool
is_one_root None None = true
is_one_root (Some a) (Some b) = a == b
is_one_root _ _ = false

abbrev pub is_on_cycle : List (Option ℕ) → ℕ → RunAt → Bool
is_on_cycle roots caller run = is_one_root (root_of roots caller) (root_of roots run.callee)

-- a run of the module at this place
abbrev pub first_of_run : List (Option ℕ) → ℕ → RunAt → Option LinkFault
first_of_run roots caller run = first_at fault.RunCycle (here_if (is_on_cycle roots caller run) run.pos)

-- the runs of the modules from this place on
abbrev pub first_from : List (Option ℕ) → ℕ → List (List RunAt) → Option LinkFault
first_from roots n [] = None
first_from roots n (runs ∷ others) = earlier (first_by (first_of_run roots n) runs)
    (first_from roots (n + 1) others)

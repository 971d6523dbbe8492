-- The first of several faults. This project's own.
use Rattle.std.specs.Prelude.{Option, Some, None, List, [], ◌∷◌}
use Rattle.hh_base.specs.declared.value.Pos.{Pos}
use Rattle.link_faults.specs.declared.fault.LinkKind.{LinkKind}
use Rattle.link_faults.specs.declared.fault.LinkFault.{LinkFault}
use Rattle.link_faults.specs.Faults.{earlier}

-- the first of the faults of one kind at these positions
abbrev pub first_at : LinkKind → List Pos → Option LinkFault
first_at kind [] = None
first_at kind (p ∷ ps) = earlier (Some (record { pos = p; kind = kind })) (first_at kind ps)

-- the first of the faults of all items
abbrev pub first_by : {A : Type 0} → (A → Option LinkFault) → List A → Option LinkFault
first_by f [] = None
first_by f (x ∷ xs) = earlier (f x) (first_by f xs)

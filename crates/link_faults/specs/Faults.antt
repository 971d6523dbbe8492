-- The order of the faults of names, kinds and runs: by position, and at one position as the kinds are
-- listed. This project's own.
use Rattle.std.specs.Prelude.{ℕ, ◌&&◌, ◌||◌, ◌==◌, nat_lt, Bool, Option, Some, None}
use Rattle.std.specs.Prelude.{if◌then◌else◌}
use Rattle.link_faults.specs.declared.fault.LinkKind.{LinkKind}
use Rattle.link_faults.specs.declared.fault.LinkKind.TheVariants as fault
use Rattle.link_faults.specs.declared.fault.LinkFault.{LinkFault}

abbrev pub rank_of : LinkKind → ℕ
rank_of fault.TwiceDeclared = 0
rank_of fault.UnknownSignal = 1
rank_of fault.UnknownModule = 2
rank_of fault.UnknownTrap = 3
rank_of fault.UnknownBody = 4
rank_of fault.KindWrong = 5
rank_of fault.EmitsInput = 6
rank_of fault.BadBinding = 7
rank_of fault.RunCycle = 8

abbrev pub is_before : LinkFault → LinkFault → Bool
is_before a b = nat_lt a.pos.0 b.pos.0 || ((a.pos.0 == b.pos.0) && nat_lt (rank_of a.kind) (rank_of b.kind))

-- the first of two faults
abbrev pub earlier : Option LinkFault → Option LinkFault → Option LinkFault
earlier None b = b
earlier (Some a) None = Some a
earlier (Some a) (Some b) = Some (if is_before b a then b else a)

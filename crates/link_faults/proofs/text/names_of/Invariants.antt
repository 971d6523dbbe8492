use Rattle.std.proofs.Common.{map, take}
use Rattle.link_faults.specs.declared.fault.LinkKind.TheVariants as fault
use Rattle.link_faults.specs.NameTables.{IsTable}
use Rattle.link_faults.specs.TextTables.{name_of_module}
use Rattle.link_faults.proofs.text.names_of.Given as goal

abbrev pub invariant-modules : goal.invariant-modules
invariant-modules l = IsTable fault.TwiceDeclared (map (λ m. name_of_module m.now) (take l.place l.modules)) l.names

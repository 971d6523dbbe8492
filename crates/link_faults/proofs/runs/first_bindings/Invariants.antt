use Rattle.std.proofs.Common.{◌≡◌, take, map}
use Rattle.link_faults.specs.declared.fault.LinkKind.{LinkKind}
use Rattle.link_faults.specs.Meanings.{meaning_of}
use Rattle.link_faults.specs.NameTables.{IsTable, interface_name}
use Rattle.link_faults.specs.RunFaults.{first_bindings}
use Rattle.link_faults.proofs.runs.first_bindings.Given as goal

abbrev pub invariant-written : goal.invariant-written
invariant-written l = (k : LinkKind) → IsTable k (map interface_name l.interface) l.table
    → l.first ≡ first_bindings (meaning_of l.names) (take l.binding-index l.bindings) l.interface

use Rattle.std.proofs.Common.{◌≡◌, List, take, map}
use Rattle.module_tree.specs.declared.source.Binding.{Binding}
use Rattle.link_faults.specs.declared.fault.LinkKind.{LinkKind}
use Rattle.link_faults.specs.declared.fault.LinkKind.TheVariants as fault
use Rattle.link_faults.specs.Named.{Name}
use Rattle.link_faults.specs.Meanings.{meaning_of}
use Rattle.link_faults.specs.NameTables.{IsTable, interface_name}
use Rattle.link_faults.specs.RunFaults.{first_unbound, left_name}
use Rattle.link_faults.proofs.runs.first_unbound.Given as goal

abbrev pub invariant-nodes : goal.invariant-nodes
invariant-nodes l = record {
  seen : IsTable fault.TwiceDeclared (map interface_name (take l.place l.interface)) l.seen;
  first : (k : LinkKind) (bindings : List (Binding Name)) → IsTable k (map left_name bindings) l.lefts
      → l.first ≡ first_unbound (meaning_of l.names) l.pos bindings (take l.place l.interface);
}

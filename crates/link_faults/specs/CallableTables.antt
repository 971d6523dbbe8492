-- The bodies and hosts of a text with the places of their names. This project's own.
use Rattle.std.specs.Prelude.{◌≡◌, List, map}
use Rattle.module_tree.specs.declared.source.NameAt.{NameAt}
use Rattle.module_tree.specs.Callables.{Signature}
use Rattle.link_faults.specs.declared.fault.LinkKind.TheVariants as fault
use Rattle.link_faults.specs.declared.text.Callable.{Callable}
use Rattle.link_faults.specs.declared.text.Callables.{Callables}
use Rattle.link_faults.specs.Named.{Name}
use Rattle.link_faults.specs.NameTables.{IsTable}

abbrev pub callable : Signature → Callable
callable s = record { parameters = s.parameters; answer = s.answer }

abbrev pub name_of_callable : Signature → NameAt Name
name_of_callable s = record { pos = s.pos; name = s.name }

pub record AreCallables (signatures : List Signature) (c : Callables) : Type 0 where
  pub all : c.all ≡ map callable signatures
  pub names : IsTable fault.TwiceDeclared (map name_of_callable signatures) c.names

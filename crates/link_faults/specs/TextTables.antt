-- What is declared in a text, with the places of the names. This project's own.
use Rattle.std.specs.Prelude.{◌≡◌, map}
use Rattle.module_tree.specs.declared.source.NameAt.{NameAt}
use Rattle.module_tree.specs.declared.source.ModuleNode.{ModuleNode}
use Rattle.module_tree.specs.Callables.{modules_of, signatures_of}
use Rattle.link_faults.specs.declared.fault.LinkKind.TheVariants as fault
use Rattle.link_faults.specs.declared.text.Text.{Text}
use Rattle.link_faults.specs.Named.{Name}
use Rattle.link_faults.specs.NameTables.{IsTable}
use Rattle.link_faults.specs.CallableTables.{AreCallables}

abbrev pub name_of_module : ModuleNode Name → NameAt Name
name_of_module m = record { pos = m.pos; name = m.name }

pub record IsText (t : Text) : Type 0 where
  pub modules : map (λ m. m.now) t.modules.items ≡ modules_of t.parts.now
  pub names : IsTable fault.TwiceDeclared (map name_of_module (modules_of t.parts.now)) t.names
  pub callables : AreCallables (signatures_of t.parts.now) t.callables

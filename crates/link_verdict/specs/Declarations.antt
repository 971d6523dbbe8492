-- The first fault of each declaration of a text, and the runs of a module. All modules are judged, also those
-- that nobody runs. This project's own.
use Rattle.std.specs.Prelude.{Option, None, option_map, List, map}
use Rattle.std.specs.List.{flat_map}
use Rattle.module_tree.specs.declared.source.InterfaceNode.{InterfaceNode}
use Rattle.module_tree.specs.declared.source.ParameterNode.{ParameterNode}
use Rattle.module_tree.specs.declared.source.ModuleNode.{ModuleNode}
use Rattle.module_tree.specs.declared.source.BodyNode.{BodyNode}
use Rattle.module_tree.specs.declared.source.Part.{Part}
use Rattle.module_tree.specs.declared.source.Part.TheVariants as top
use Rattle.module_tree.specs.Parts.{parts_of}
use Rattle.link_faults.specs.declared.fault.LinkKind.TheVariants as fault
use Rattle.link_faults.specs.declared.fault.LinkFault.{LinkFault}
use Rattle.link_faults.specs.declared.walk.RunAt.{RunAt}
use Rattle.link_faults.specs.Faults.{earlier}
use Rattle.link_faults.specs.Earliest.{first_at, first_by}
use Rattle.link_faults.specs.Named.{Name, parameter_named}
use Rattle.link_faults.specs.NameTables.{interface_name, name_of_parameter}
use Rattle.link_faults.specs.SourceKinds.{Kinds}
use Rattle.link_faults.specs.Rows.{Program, no_kinds, repeated, wrong_signal}
use Rattle.link_faults.specs.PartFaults.{first_expected}
use Rattle.link_faults.specs.Walks.{first_placed, runs_placed}

-- ---- a module

abbrev pub wrong_declared : InterfaceNode → Option LinkFault
wrong_declared d = first_at fault.KindWrong (wrong_signal d.signal)

abbrev pub first_in_interface : List InterfaceNode → Option LinkFault
first_in_interface interface = earlier (first_at fault.TwiceDeclared (repeated (map interface_name interface)))
    (first_by wrong_declared interface)

abbrev pub first_in_module : Program → ModuleNode Name → Option LinkFault
first_in_module parts m = earlier (first_in_interface m.interface) (first_by (first_placed parts) (parts_of m))

-- the runs of modules that are there, in the order of the text
abbrev pub placed_runs : Program → ModuleNode Name → List RunAt
placed_runs parts m = flat_map (runs_placed parts) (parts_of m)

-- ---- a body

abbrev pub kinds_of_parameters : List ParameterNode → Kinds
kinds_of_parameters parameters n = option_map (λ (p : ParameterNode). p.kind) (parameter_named parameters n)

abbrev pub first_in_body : BodyNode Name → Option LinkFault
first_in_body b = earlier (first_at fault.TwiceDeclared (repeated (map name_of_parameter b.parameters)))
    (first_expected no_kinds (kinds_of_parameters b.parameters) b.answer b.expr)

-- ---- any declaration

abbrev pub first_in_declaration : Program → Part Name → Option LinkFault
first_in_declaration parts (top.Module m) = first_in_module parts m
first_in_declaration parts (top.Body b) = first_in_body b
first_in_declaration parts (top.Host h) = None

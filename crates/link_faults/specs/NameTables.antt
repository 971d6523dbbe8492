-- The names that a list declares: each name with the place of its first declaration, and the first name that
-- stands there twice. This project's own.
use Rattle.std.specs.Prelude.{◌≡◌, ℕ, Bool, is_some, Option, Some, None, List, map}
use Rattle.indexmap.specs.IndexMap.{get_by_text}
use Rattle.module_tree.specs.declared.source.NameAt.{NameAt}
use Rattle.module_tree.specs.declared.source.InterfaceNode.{InterfaceNode}
use Rattle.module_tree.specs.declared.source.ParameterNode.{ParameterNode}
use Rattle.link_faults.specs.declared.fault.LinkKind.{LinkKind}
use Rattle.link_faults.specs.declared.table.Table.{Table}
use Rattle.link_faults.specs.Earliest.{first_at}
use Rattle.link_faults.specs.Named.{Name, place_of}
use Rattle.link_faults.specs.Rows.{repeated, name_of_signal}

abbrev pub place_in_table : Table → Name → Option ℕ
place_in_table t name = get_by_text t.places name

abbrev pub or_place : Option ℕ → Option ℕ → Option ℕ
or_place None b = b
or_place (Some a) b = Some a

abbrev pub has_name : Table → Name → Bool
has_name t name = is_some (place_in_table t name)

abbrev pub name_of : NameAt Name → Name
name_of n = n.name

abbrev pub name_of_parameter : ParameterNode → NameAt Name
name_of_parameter p = record { pos = p.pos; name = p.name }

abbrev pub interface_name : InterfaceNode → NameAt Name
interface_name d = name_of_signal d.signal

-- the table of these names; one that stands twice is a fault of this kind
pub record IsTable (twice : LinkKind) (names : List (NameAt Name)) (t : Table) : Type 0 where
  pub found : (name : Name) → place_in_table t name ≡ place_of (map name_of names) name
  pub kind : t.twice ≡ twice
  pub first : t.first ≡ first_at twice (repeated names)

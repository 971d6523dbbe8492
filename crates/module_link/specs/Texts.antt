-- What the tables of a text show. This project's own.
use Rattle.std.specs.Prelude.{◌≡◌, map}
use Rattle.std.specs.Borrow.{Bor}
use Rattle.indexmap.specs.IndexMap.{get_by_text}
use Rattle.module_tree.specs.declared.source.ModuleNode.{ModuleNode}
use Rattle.module_tree.specs.Callables.{Signature, modules_of, signatures_of}
use Rattle.link_faults.specs.Named.{Name, place_of}
use Rattle.link_faults.specs.Rows.{module_place}
use Rattle.module_link.specs.declared.text.Text.{Text}

-- its modules in order, and the places at which the names of modules and bodies stand first
pub record IsText (t : Text) : Type 0 where
  pub modules : map (λ (m : Bor (ModuleNode Name)). m.now) t.modules.items ≡ modules_of t.parts.now
  pub module_places : (n : Name) → get_by_text t.module_places n ≡ module_place t.parts.now n
  pub body_places : (n : Name) → get_by_text t.body_places n ≡ place_of (map (λ (s : Signature). s.name)
      (signatures_of t.parts.now)) n

-- What a module text declares: its modules, the signatures of its bodies and hosts, and which module runs
-- which.
-- This project's own.
use Rattle.std.specs.Prelude.{ℕ, List, [], ◌∷◌, map}
use Rattle.hh_base.specs.declared.value.Pos.{Pos}
use Rattle.hh_base.specs.declared.value.Kind.{Kind}
use Rattle.module_tree.specs.declared.source.ParameterNode.{ParameterNode}
use Rattle.module_tree.specs.declared.source.InterfaceNode.{InterfaceNode}
use Rattle.module_tree.specs.declared.source.ModuleNode.{ModuleNode}
use Rattle.module_tree.specs.declared.source.Part.{Part}
use Rattle.module_tree.specs.declared.source.Part.TheVariants as top

-- what a body or host takes and answers
pub record Signature : Type 0 where
  pub pos : Pos
  pub name : List ℕ
  pub parameters : List Kind
  pub answer : Kind

-- the modules of a text, in order: a module's place is that in this list
abbrev pub modules_of : {R : Type 0} → List (Part R) → List (ModuleNode R)
modules_of [] = []
modules_of (top.Module m ∷ parts) = m ∷ modules_of parts
modules_of (top.Body b ∷ parts) = modules_of parts
modules_of (top.Host h ∷ parts) = modules_of parts

-- its bodies and hosts together, in order: a body's place is that in this list
abbrev pub signatures_of : {R : Type 0} → List (Part R) → List Signature
signatures_of [] = []
signatures_of (top.Module m ∷ parts) = signatures_of parts
signatures_of (top.Body b ∷ parts) = record {
  pos = b.pos;
  name = b.name;
  parameters =
      map (λ (p : ParameterNode). p.kind) b.parameters;
  answer = b.answer;
} ∷ signatures_of parts
signatures_of (top.Host h ∷ parts) = record {
  pos = h.pos;
  name = h.name;
  parameters = h.parameters;
  answer = h.answer;
} ∷ signatures_of parts

-- the interfaces of its modules
abbrev pub interfaces_of : {R : Type 0} → List (Part R) → List (List InterfaceNode)
interfaces_of {R} parts = map (λ (m : ModuleNode R). m.interface) (modules_of parts)

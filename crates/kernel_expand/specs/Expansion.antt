-- The expansion of a linked text: the kernel program of its main module. (This project's own.)
use Rattle.std.specs.Prelude.{ℕ, Option, Some, None, List, [], ◌∷◌, map, length, slice_get}
use Rattle.std.specs.List.{range_with_len}
use Rattle.host_expr.specs.Expression.{expression_of}
use Rattle.module_tree.specs.declared.source.ParameterNode.{ParameterNode}
use Rattle.module_tree.specs.declared.source.InterfaceNode.{InterfaceNode}
use Rattle.module_tree.specs.declared.source.ModuleNode.{ModuleNode}
use Rattle.module_tree.specs.declared.source.Part.{Part}
use Rattle.module_tree.specs.declared.source.Part.TheVariants as part
use Rattle.module_tree.specs.Callables.{modules_of}
use Rattle.hh_term.specs.declared.program.SignalDecl.{SignalDecl}
use Rattle.hh_term.specs.Kernel.{Kernel, Body, AsyncSite}
use Rattle.hh_term.specs.Placed.{Placed, Nothing, unplaced}
use Rattle.kernel_expand.specs.Modules.{of_module}
use Rattle.kernel_expand.specs.Numbering.{Piece, Numbered, alone, no_traps, numbering, first_or_default}

-- a kernel program whose statement has its positions
pub record Expansion : Type 0 where
  pub signals : List SignalDecl
  pub interface : ℕ
  pub bodies : List Body
  pub sites : List AsyncSite
  pub statement : Placed

abbrev pub interface_signal : InterfaceNode → SignalDecl
interface_signal d =
    record {
      name = Some d.signal.name;
      dir = d.dir;
      kind = d.signal.kind;
      first =
          first_or_default d.signal.kind d.signal.first;
      combine = d.signal.combine;
      pos = d.signal.pos;
    }

-- the bodies and hosts together, in order; a host stands at its word
abbrev pub bodies_of : List (Part ℕ) → List Body
bodies_of [] = []
bodies_of (part.Module m ∷ parts) = bodies_of parts
bodies_of (part.Body b ∷ parts) =
    record {
      name = b.name;
      params = map (λ (p : ParameterNode). p.kind) b.parameters;
      answer = b.answer;
      expr = Some (expression_of b.expr.expr);
      pos = b.pos;
    } ∷ bodies_of parts
bodies_of (part.Host h ∷ parts) = record {
  name = h.name;
  params = h.parameters;
  answer = h.answer;
  expr =
      None;
  pos = h.token;
} ∷ bodies_of parts

-- stands for a module that is not there
abbrev pub no_module : Piece
no_module = alone (λ n. Nothing (record { 0 = 0 }))

-- the body of the module of this place
abbrev pub piece_of_module : List (ModuleNode ℕ) → ℕ → Piece
piece_of_module modules = of_module numbering no_module modules (length modules)

abbrev pub main_interface : Option (ModuleNode ℕ) → List InterfaceNode
main_interface None = []
main_interface (Some m) = m.interface

-- its interface is numbered first
abbrev pub at_start : List InterfaceNode → Numbered
at_start interface = record {
  signals = map interface_signal interface;
  sites = [];
  places =
      range_with_len 0 (length interface);
  traps = 0;
}

abbrev pub expanded : List (Part ℕ) → List InterfaceNode → Placed × Numbered → Expansion
expanded parts interface x =
    record {
      signals = x.1.signals;
      interface = length interface;
      bodies = bodies_of parts;
      sites =
          x.1.sites;
      statement = x.0;
    }

abbrev pub expansion_of : List (Part ℕ) → Expansion
expansion_of parts =
    let interface = main_interface (slice_get (modules_of parts) 0) in
    expanded parts interface (piece_of_module (modules_of parts) 0 no_traps (at_start interface))

-- without its positions
abbrev pub kernel_of_expansion : Expansion → Kernel
kernel_of_expansion x =
    record {
      signals = x.signals;
      interface = x.interface;
      bodies = x.bodies;
      sites = x.sites;
      statement =
          unplaced x.statement;
    }

-- What is written out of a text. (This project's own.)
use Rattle.std.specs.Prelude.{◌≡◌, ℕ, None, List, Result, slice_get}
use Rattle.module_tree.specs.declared.source.ModuleNode.{ModuleNode}
use Rattle.module_tree.specs.declared.source.Part.{Part}
use Rattle.hh_term.specs.declared.program.BodyDecl.{BodyDecl}
use Rattle.hh_term.specs.declared.program.Program.{Program}
use Rattle.hh_term.specs.declared.program.SignalDecl.{SignalDecl}
use Rattle.hh_term.specs.declared.program.Site.{Site}
use Rattle.hh_term.specs.declared.term.Term.{Term}
use Rattle.hh_term.specs.Placed.{Placed, placed_term}
use Rattle.hh_term.specs.Views.{kernel_from}
use Rattle.kernel_expand.specs.declared.fault.ExpandFault.{ExpandFault}
use Rattle.kernel_expand.specs.Expansion.{at_start, main_interface, piece_of_module, expansion_of}
use Rattle.kernel_expand.specs.Expansion.{kernel_of_expansion}
use Rattle.kernel_expand.specs.Numbering.{Numbered, no_traps}
use Rattle.kernel_expand.specs.Refusals.{Expands}
use Rattle.kernel_expand.specs.Weighed.{sizes_of_kernel}
use Rattle.kernel_build.specs.Refusing.{refusal_of_sizes}

-- the main module's statement, and what is numbered behind it
abbrev pub main_piece : List (ModuleNode ℕ) → Placed × Numbered
main_piece ms = piece_of_module ms 0 no_traps (at_start (main_interface (slice_get ms 0)))

-- the main module of these is written out as this statement, with the signals and sites of these numbers
pub record IsMain (ms : List (ModuleNode ℕ)) (t : Placed) (end : Numbered) : Type 0 where
  pub statement : t ≡ (main_piece ms).0
  pub signals : end.signals ≡ (main_piece ms).1.signals
  pub sites : end.sites ≡ (main_piece ms).1.sites

-- the expansion of these parts is written out as these declarations and this statement
pub record IsWritten (parts : List (Part ℕ)) (signals : List SignalDecl) (interface : ℕ)
    (bodies : List BodyDecl) (sites : List Site) (term : Term) : Type 0 where
  pub kernel : kernel_from signals interface bodies sites term ≡ kernel_of_expansion (expansion_of parts)
  pub statement : placed_term term ≡ (expansion_of parts).statement

-- no size refuses the expansion of these parts
pub record IsSmall (parts : List (Part ℕ)) : Type 0 where
  pub is_small : refusal_of_sizes (sizes_of_kernel (kernel_of_expansion (expansion_of parts))) None ≡ None

-- the parts expand to this
pub record IsExpanded (parts : List (Part ℕ)) (result : Result Program ExpandFault) : Type 0 where
  pub expands : Expands (expansion_of parts) result

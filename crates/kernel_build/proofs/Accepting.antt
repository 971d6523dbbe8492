-- What was written out is the expansion, and what refuses it.
use Rattle.std.proofs.Common.{◌≡◌, ℕ, Option, Some, None, List, length, map, sym, ap, ◌∙◌, Ok, Err, subst}
use Rattle.std.specs.Prelude.{Result, slice_get}
use Rattle.hh_base.specs.declared.value.Pos.{Pos}
use Rattle.module_tree.specs.declared.source.InterfaceNode.{InterfaceNode}
use Rattle.module_tree.specs.declared.source.ModuleNode.{ModuleNode}
use Rattle.module_tree.specs.declared.source.Part.{Part}
use Rattle.module_tree.specs.Callables.{modules_of}
use Rattle.module_tree.specs.LinkedFacts.{IsLinked}
use Rattle.hh_term.proofs.Unplaced.{terms_are_unplaced}
use Rattle.hh_term.specs.declared.program.BodyDecl.{BodyDecl}
use Rattle.hh_term.specs.declared.program.SignalDecl.{SignalDecl}
use Rattle.hh_term.specs.declared.program.Site.{Site}
use Rattle.hh_term.specs.declared.term.Term.{Term}
use Rattle.hh_term.specs.declared.program.Program.{Program}
use Rattle.hh_term.specs.IsProgram.{IsProgram}
use Rattle.hh_term.specs.Placed.{Placed, PlacedKernel, placed_term, placed_from, unplaced}
use Rattle.hh_term.specs.ProgramView.{kernel_of, placed_of}
use Rattle.hh_term.specs.Views.{body_of, site_of, kernel_from}
use Rattle.kernel_expand.specs.declared.fault.ExpandFault.{ExpandFault}
use Rattle.kernel_expand.specs.declared.fault.ExpandFault.TheVariants as fault
use Rattle.kernel_expand.specs.declared.sizes.Sizes.{Sizes}
use Rattle.kernel_expand.specs.Expansion.{Expansion, expansion_of, at_start, main_interface, bodies_of}
use Rattle.kernel_expand.specs.Expansion.{no_module, kernel_of_expansion}
use Rattle.kernel_expand.specs.Lawful.{AcceptedKeepRules}
use Rattle.kernel_expand.specs.Modules.{of_module}
use Rattle.kernel_expand.specs.Numbering.{Numbered, numbering, no_traps}
use Rattle.kernel_expand.specs.Refusals.{refusal_of, instant, least, instant_loops, Expands}
use Rattle.kernel_expand.specs.Weighed.{sizes_of_kernel}
use Rattle.statement_build.specs.Levels.{tail}
use Rattle.kernel_build.specs.Refusing.{refusal_of_sizes}
use Rattle.kernel_build.specs.Whole.{main_piece, IsMain, IsWritten, IsSmall, IsExpanded}
use Rattle.kernel_build.proofs.Refusing.{refused_by_sizes, sizes_first, or_else}

-- of what stands behind the main module the places and traps do not count
of_tail : (ms : List (ModuleNode ℕ)) (n : Numbered) (x : Placed × Numbered) → tail n x ≡ tail n (main_piece ms)
    → IsMain ms x.0 x.1
of_tail ms n x h = record {
  statement = ap (λ (z : Placed × Numbered). z.0) h;
  signals = ap (λ (z : Placed × Numbered). z.1.signals) h;
  sites = ap (λ (z : Placed × Numbered). z.1.sites) h;
}

pub is_main : (ms : List (ModuleNode ℕ)) (deep : ℕ) (I : List InterfaceNode) (start : Numbered)
    (x : Placed × Numbered) → deep ≡ length ms → I ≡ main_interface (slice_get ms 0) → start ≡ at_start I
    → tail start (of_module numbering no_module ms deep 0 no_traps start) ≡ tail start x → IsMain ms x.0 x.1
is_main ms deep I start x d is s h = of_tail ms start x (sym h
    ∙ (λ i. tail start (of_module numbering no_module ms (d i) 0 no_traps ((s ∙ ap at_start is) i))))

-- the text's modules are these, and its declarations were written out too
pub is_written : (parts : List (Part ℕ)) (ms : List (ModuleNode ℕ)) (signals : List SignalDecl) (interface : ℕ)
    (bodies : List BodyDecl) (sites : List Site) (term : Term) (end : Numbered)
    → ms ≡ modules_of parts → IsMain ms (placed_term term) end → signals ≡ end.signals
    → interface ≡ length (main_interface (slice_get ms 0)) → map body_of bodies ≡ bodies_of parts
    → map site_of sites ≡ end.sites → IsWritten parts signals interface bodies sites term
is_written parts ms signals interface bodies sites term end are main s i b a =
    let S : signals ≡ (main_piece (modules_of parts)).1.signals =
    s ∙ main.signals ∙ ap (λ (zs : List (ModuleNode ℕ)). (main_piece zs).1.signals) are in
    let N : interface ≡ length (main_interface (slice_get (modules_of parts) 0)) =
    i ∙ ap (λ (zs : List (ModuleNode ℕ)). length (main_interface (slice_get zs 0))) are in
    let A : map site_of sites ≡ (main_piece (modules_of parts)).1.sites =
    a ∙ main.sites ∙ ap (λ (zs : List (ModuleNode ℕ)). (main_piece zs).1.sites) are in
    let P : placed_term term ≡ (expansion_of parts).statement =
    main.statement ∙ ap (λ (zs : List (ModuleNode ℕ)). (main_piece zs).0) are in
    let T = sym (terms_are_unplaced term) ∙ ap unplaced P in
    record {
      kernel = λ j. record { signals = S j; interface = N j; bodies = b j; sites = A j; statement = T j };
      statement = P;
    }

-- ---- refusals

abbrev by_loops : Expansion → Option ExpandFault
by_loops x = instant (least (instant_loops x.statement))

abbrev by_sizes_of : Expansion → Option ExpandFault
by_sizes_of x = refusal_of_sizes (sizes_of_kernel (kernel_of_expansion x)) None

-- the refusals by sizes, and then that by loops
in_order : (x : Expansion) → refusal_of x ≡ or_else (by_sizes_of x) (by_loops x)
in_order x = sym (refused_by_sizes x) ∙ sizes_first (sizes_of_kernel (kernel_of_expansion x)) (by_loops x)

refused : (x : Expansion) (f : ExpandFault) → refusal_of x ≡ Some f → Expands x (Err f)
refused x (fault.TooLarge n) e = e
refused x (fault.TooDeep n) e = e
refused x (fault.TrapsDeep n) e = e
refused x (fault.ManyAsyncs n) e = e
refused x (fault.CopyLarge n) e = e
refused x (fault.InstantLoop at) e = e
refused x fault.NoMemory e = tt

pub by_size : (x : Expansion) (s : Sizes) (f : ExpandFault) → s ≡ sizes_of_kernel (kernel_of_expansion x)
    → Some f ≡ refusal_of_sizes s None → Expands x (Err f)
by_size x s f are e = refused x f (in_order x ∙ ap (λ (o : Option ExpandFault). or_else o (by_loops x))
    (sym (ap (λ (z : Sizes). refusal_of_sizes z None) are) ∙ sym e))

pub is_small : (parts : List (Part ℕ)) (s : Sizes)
    → s ≡ sizes_of_kernel (kernel_of_expansion (expansion_of parts)) → None ≡ refusal_of_sizes s None → IsSmall parts
is_small parts s are e = record {
  is_small = sym (ap (λ (z : Sizes). refusal_of_sizes z None) are) ∙ sym e;
}

behind_sizes : (x : Expansion) (first : Option Pos) → by_sizes_of x ≡ None
    → first ≡ least (instant_loops x.statement) → refusal_of x ≡ instant first
behind_sizes x first e f = in_order x ∙ ap (λ (o : Option ExpandFault). or_else o (by_loops x)) e
    ∙ ap instant (sym f)

-- ---- the program where no size refuses it

module _ (parts : List (Part ℕ)) (signals : List SignalDecl) (interface : ℕ) (bodies : List BodyDecl)
    (sites : List Site) (term : Term) (small : IsSmall parts)
    (written : IsWritten parts signals interface bodies sites term) where
  by_first : (first : Option Pos) → first ≡ least (instant_loops (placed_term term))
      → refusal_of (expansion_of parts) ≡ instant first
  by_first first f = behind_sizes (expansion_of parts) first small.is_small
      (f ∙ ap (λ (t : Placed). least (instant_loops t)) written.statement)

  pub by_loop : (at : Pos) → Some at ≡ least (instant_loops (placed_term term))
      → IsExpanded parts (Err (fault.InstantLoop at))
  by_loop at f = record { expands = by_first (Some at) f }

  pub keeps_rules : AcceptedKeepRules → IsLinked parts → None ≡ least (instant_loops (placed_term term))
      → ∥ IsProgram (kernel_from signals interface bodies sites term) ∥₁
  keeps_rules law linked f = ∣ subst IsProgram (sym written.kernel) (law parts linked (by_first None f)) ∣₁

  pub accepted : (p : Program) → None ≡ least (instant_loops (placed_term term))
      → kernel_of p ≡ kernel_from signals interface bodies sites term
      → placed_of p ≡ placed_from signals interface bodies sites term → IsExpanded parts (Ok p)
  accepted p f k q = record {
    expands = (
      by_first None f,
      record {
        kernel = k ∙ written.kernel;
        statement = ap (λ (z : PlacedKernel). z.statement) q ∙ written.statement;
      },
    );
  }

pub no_memory : (parts : List (Part ℕ)) (r : Result Program ExpandFault) (f : ExpandFault) → r ≡ Err f
    → f ≡ fault.NoMemory → IsExpanded parts r
no_memory parts r f e m =
    let is : r ≡ Err fault.NoMemory = e ∙ ap Err m in
    subst (IsExpanded parts) (sym is) (record { expands = tt })

-- `run`: the body of another module, in which its interface is what is bound to it. (Berry, The Esterel v5
-- Language Primer; numbers are this project's own.)
use Rattle.std.specs.Prelude.{◌≡◌, ℕ, ◌+◌, ◌-◌, ◌<◌, true, Some, None, List, map, length, slice_get, option_map}
use Rattle.std.specs.List.{AllByRecursion}
use Rattle.hh_base.specs.declared.value.Pos.{Pos}
use Rattle.host_expr.specs.Environment.{Env}
use Rattle.module_tree.specs.declared.source.Binding.{Binding}
use Rattle.module_tree.specs.declared.source.InterfaceNode.{InterfaceNode}
use Rattle.module_tree.specs.declared.source.ModuleNode.{ModuleNode}
use Rattle.module_tree.specs.declared.source.Part.{Part}
use Rattle.module_tree.specs.Callables.{modules_of}
use Rattle.module_tree.specs.declared.source.NameAt.{NameAt}
use Rattle.module_tree.specs.Scopes.{InScope, Signal}
use Rattle.module_tree.specs.Parts as part
use Rattle.module_tree.specs.LinkedFacts.{IsLinked, known_in, is_in_scope, binds_interface}
use Rattle.hh_term.specs.declared.program.SignalDecl.{SignalDecl}
use Rattle.hh_term.specs.Statement.{Statement}
use Rattle.hh_term.specs.Selection.{Selection, Task}
use Rattle.hh_term.specs.Kernel.{Kernel, AsyncSite}
use Rattle.hh_term.specs.MustCan.{Table, Index, table_of, must_can}
use Rattle.hh_term.specs.Step.{step}
use Rattle.hh_term.specs.Placed.{Placed, unplaced}
use Rattle.kernel_expand.specs.Modules.{of_module}
use Rattle.kernel_expand.specs.Numbering.{Around, Numbered, numbering, number_of, no_traps}
use Rattle.kernel_expand.specs.Expansion.{no_module, main_interface, at_start}
use Rattle.derived_laws.specs.Resting.{RestsAt}
use Rattle.derived_laws.specs.Naming.{names_its_own}
use Rattle.derived_laws.specs.Replacements.{statement_with, seen_by, must_can_with, stepped_with, Declares}

-- a statement with signals and sites replaced does what the statement does where each signal has the status and
-- the value of that in its place
pub record ReplacedObeys : Type 0 where
  pub must_can : (f g : ℕ → ℕ) (T T' : Table) (p : Statement) (t : Task) (i : Index) (E : Env)
      → Declares T T' f g p
      → must_can T' (statement_with f g p) t i E ≡ must_can_with f (must_can T p t i (seen_by f E))
  pub step : (f g : ℕ → ℕ) (T T' : Table) (p : Statement) (t : Task) (E : Env) → Declares T T' f g p
      → step T' (statement_with f g p) t E ≡ option_map (stepped_with f g) (step T p t (seen_by f E))
  pub marks : (f g : ℕ → ℕ) (T T' : Table) (p : Statement) (m : Selection) → Declares T T' f g p
      → RestsAt T' (statement_with f g p) m → RestsAt T p m

-- the signals in scope are among the first a of their module
abbrev pub ScopeBelow : ℕ → InScope → Type 0
ScopeBelow a scope = AllByRecursion (λ (s : Signal). s.place < a) scope.signals

-- a run, with what stands round it and what is numbered before it in the caller's program
pub record Call : Type 0 where
  pub modules : List (ModuleNode ℕ)
  pub deep : ℕ
  pub callee : ℕ
  pub bindings : List (Binding ℕ)
  pub pos : Pos
  pub around : Around
  pub before : Numbered

abbrev pub interface_of : Call → List InterfaceNode
interface_of c = main_interface (slice_get c.modules c.callee)

-- what it expands to
abbrev pub expanded : Call → Placed × Numbered
expanded c =
    (numbering (of_module numbering no_module c.modules c.deep) c.pos).run c.callee c.bindings c.around c.before

-- what the callee expands to as a program of its own, with its interface numbered first
abbrev pub as_program : Call → Placed × Numbered
as_program c = of_module numbering no_module c.modules c.deep c.callee no_traps (at_start (interface_of c))

-- the caller's signals that are bound to those of the interface
abbrev pub bound : Call → List ℕ
bound c = map (λ (b : Binding ℕ). number_of c.before b.right.name) c.bindings

-- for a signal of the interface that which is bound to it; those that the callee declares come behind the
-- caller's
abbrev pub signal_for : Call → ℕ → ℕ
signal_for c s =
    (elim (slice_get (bound c) s) [
      | Some t ↦ t
      | None ↦ length c.before.signals + (s - length (bound c))
    ])

abbrev pub site_for : Call → ℕ → ℕ
site_for c n = length c.before.sites + n

-- each signal of the interface is bound to a signal of the caller, and the callee names no others than its own
pub record Binds (c : Call) : Type 0 where
  pub all : length c.bindings ≡ length (interface_of c)
  pub declared : AllByRecursion (λ s. s < length c.before.signals) (bound c)
  pub own : names_its_own c.modules c.deep c.callee (length c.bindings) ≡ true

-- a program that declares what is numbered
pub record Begins (K : Kernel) (n : Numbered) : Type 0 where
  pub signals : (s : ℕ) (d : SignalDecl) → slice_get n.signals s ≡ Some d → slice_get K.signals s ≡ Some d
  pub sites : (s : ℕ) (a : AsyncSite) → slice_get n.sites s ≡ Some a → slice_get K.sites s ≡ Some a

-- the callee's own program, and one of the caller
pub record Programs (c : Call) (K K' : Kernel) : Type 0 where
  pub callee : Begins K (as_program c).1
  pub caller : Begins K' (expanded c).1
  pub bodies : K'.bodies ≡ K.bodies

-- the callee reacts, each signal of its interface being the signal that is bound to it; and the runs of a
-- linked text bind all
pub record RunObeys : Type 0 where
  pub binds : (parts : List (Part ℕ)) → IsLinked parts →
      (m : ModuleNode ℕ) (scope : InScope) (callee : NameAt ℕ)
      (c : Call) → c.modules ≡ modules_of parts → c.callee ≡ callee.name
      → is_in_scope (known_in parts m) (record { scope = scope; part = part.Call callee c.bindings }) ≡ true
      → binds_interface (known_in parts m) (part.Call callee c.bindings) ≡ true
      → ScopeBelow (length c.before.places) scope
      → ((p : ℕ) → p < length c.before.places → number_of c.before p < length c.before.signals) → Binds c
  pub must_can : (c : Call) (K K' : Kernel) → Binds c → Programs c K K' → (t : Task) (i : Index) (E : Env) →
      must_can (table_of K') (unplaced (expanded c).0) t i E
      ≡ must_can_with (signal_for c)
      (must_can (table_of K) (unplaced (as_program c).0) t i (seen_by (signal_for c) E))
  pub step : (c : Call) (K K' : Kernel) → Binds c → Programs c K K' → (t : Task) (E : Env) →
      step (table_of K') (unplaced (expanded c).0) t E
      ≡ option_map (stepped_with (signal_for c) (site_for c))
      (step (table_of K) (unplaced (as_program c).0) t (seen_by (signal_for c) E))
  pub marks : (c : Call) (K K' : Kernel) → Binds c → Programs c K K' → (m : Selection)
      → RestsAt (table_of K') (unplaced (expanded c).0) m → RestsAt (table_of K) (unplaced (as_program c).0) m
  pub expands : (c : Call) → Binds c →
      unplaced (expanded c).0 ≡ statement_with (signal_for c) (site_for c) (unplaced (as_program c).0)

-- What the rules ask of a body, of the bodies that a text has: its numbers, its exits. (This project's own.)
use Rattle.std.specs.Prelude.{◌≡◌, ℕ, suc, ◌==◌, ◌<◌, true, false, List, length, Some, None, slice_get}
use Rattle.std.specs.List.{AllByRecursion}
use Rattle.hh_base.specs.declared.value.Pos.{Pos}
use Rattle.host_expr.specs.declared.expr.Expr.{Expr}
use Rattle.host_expr.specs.Environment.{Env}
use Rattle.module_tree.specs.declared.source.ExprAt.{ExprAt}
use Rattle.module_tree.specs.declared.source.Part.{Part}
use Rattle.module_tree.specs.Callables.{modules_of}
use Rattle.module_tree.specs.Scopes.{InScope, Declared, TrapName}
use Rattle.module_tree.specs.Parts.{Placed, Test, block_walk}
use Rattle.module_tree.specs.LinkedFacts.{IsLinked, known_in, is_in_scope, binds_interface}
use Rattle.module_tree.specs.declared.source.BlockNode.{BlockNode}
use Rattle.module_tree.specs.declared.source.ModuleNode.{ModuleNode}
use Rattle.hh_term.specs.Statement.{Statement, If, Suspend, Seq, Par, Loop, Trap, Exit, Local}
use Rattle.hh_term.specs.Selection.{Task}
use Rattle.hh_term.specs.Kernel.{Kernel}
use Rattle.hh_term.specs.MustCan.{Table, table_of}
use Rattle.hh_term.specs.Step.{step}
use Rattle.hh_term.specs.Placed.{unplaced}
use Rattle.kernel_expand.specs.Interpretation.{of_block}
use Rattle.kernel_expand.specs.Modules.{of_module}
use Rattle.kernel_expand.specs.Numbering.{Piece, Around, Numbered, numbering, number_of, in_numbers}
use Rattle.kernel_expand.specs.Numbering.{with_signal}
use Rattle.kernel_expand.specs.Numbering.{counter_signal, traps_between}
use Rattle.kernel_expand.specs.Expansion.{no_module}
use Rattle.derived_laws.specs.Naming.{Naming, naming, nothing_named, expression_names}
use Rattle.derived_laws.specs.Runs.{Begins, ScopeBelow}
use Rattle.derived_laws.specs.Aborts.{StandsIn}
use Rattle.derived_laws.specs.CountedAborts.{IsOwn, StandsBelow, in_counter, counted_body}
use Rattle.derived_laws.specs.Repeats.{StaysIn}

-- no exit of the statement leaves the trap that is j traps outward
abbrev pub NeverExits : ℕ → Statement → Type 0
NeverExits j (If e p q) = NeverExits j p × NeverExits j q
NeverExits j (Suspend e p) = NeverExits j p
NeverExits j (Seq p q) = NeverExits j p × NeverExits j q
NeverExits j (Par p q) = NeverExits j p × NeverExits j q
NeverExits j (Loop p) = NeverExits j p
NeverExits j (Trap p) = NeverExits (suc j) p
NeverExits j (Exit k) = (k == j) ≡ false
NeverExits j (Local s p) = NeverExits j p
NeverExits j _ = Unit {0}

-- a block, with the modules that it runs
abbrev pub block_piece : List (ModuleNode ℕ) → ℕ → BlockNode ℕ → Piece
block_piece modules deep = of_block (numbering (of_module numbering no_module modules deep))

abbrev pub block_naming : List (ModuleNode ℕ) → ℕ → BlockNode ℕ → Naming
block_naming modules deep = of_block (naming (of_module naming nothing_named modules deep))

-- the traps in scope stand round it
abbrev pub Opened : List TrapName → Around → Type 0
Opened ts a = AllByRecursion (λ (t : TrapName). traps_between t.place a.traps < length a.traps) ts

-- Where a test names only signals that are declared before it, a block leaves their numbers as they are, and
-- the counter of a row is its own. A statement without an exit to the trap round it does not leave that trap.
-- Tests and blocks of a linked text are so.
pub record BodiesObey : Type 0 where
  pub stands : (modules : List (ModuleNode ℕ)) (deep : ℕ) (b : BlockNode ℕ) (d : Expr ℕ) (a : Around)
      (n : Numbered) → expression_names (length n.places) d ≡ true → StandsIn (block_piece modules deep b) d a n
  pub stands_below : (modules : List (ModuleNode ℕ)) (deep : ℕ) (b : BlockNode ℕ) (pos : Pos) (d : Expr ℕ)
      (a : Around) (n : Numbered) → expression_names (length n.places) d ≡ true
      → StandsBelow pos (block_piece modules deep b) d a n
  pub stays : (T : Table) (p : Statement) (t : Task) (E : Env) → NeverExits 0 p → StaysIn (step T p t E)
  pub own : (modules : List (ModuleNode ℕ)) (deep : ℕ) (b : BlockNode ℕ) (pos : Pos) (d : Expr ℕ) (a : Around)
      (n : Numbered) (K : Kernel) → ((p : ℕ) → p < length n.places → number_of n p < length n.signals)
      → expression_names (length n.places) d ≡ true
      → (block_naming modules deep b false (length n.places)).0 ≡ true
      → Begins K (block_piece modules deep b (in_counter a n) (with_signal (counter_signal pos) n)).1 →
      IsOwn (table_of K) (length n.signals) (in_numbers n d) (counted_body pos (block_piece modules deep b) a n)
  pub test_named : (parts : List (Part ℕ)) (m : ModuleNode ℕ) (scope : InScope) (a : ℕ) (x : ExprAt ℕ)
      → ScopeBelow a scope → is_in_scope (known_in parts m) (record { scope = scope; part = Test x }) ≡ true
      → expression_names a x.expr ≡ true
  pub block_named : (parts : List (Part ℕ)) → IsLinked parts → (deep : ℕ) (m : ModuleNode ℕ) (b : BlockNode ℕ)
      (scope : InScope) (before : Declared) → ScopeBelow before.signals scope
      → AllByRecursion (λ p. is_in_scope (known_in parts m) p ≡ true) (block_walk b scope before).parts
      → AllByRecursion (λ (p : Placed ℕ). binds_interface (known_in parts m) p.part ≡ true)
      (block_walk b scope before).parts →
      block_naming (modules_of parts) deep b false before.signals
      ≡ (true, (block_walk b scope before).after.signals)
  pub block_stays : (parts : List (Part ℕ)) → IsLinked parts → (deep : ℕ) (m : ModuleNode ℕ) (b : BlockNode ℕ)
      (scope : InScope) (before : Declared)
      → AllByRecursion (λ p. is_in_scope (known_in parts m) p ≡ true) (block_walk b scope before).parts
      → (a : Around) (n : Numbered) → n.traps ≡ before.traps → Opened scope.traps a
      → slice_get a.traps 0 ≡ Some None
      → NeverExits 0 (unplaced (block_piece (modules_of parts) deep b a n).0)

-- What a walk over the statements of a module keeps. This project's own.
use Rattle.std.specs.Prelude.{◌≡◌, ℕ, ◌+◌, List, [], length}
use Rattle.module_tree.specs.declared.source.SignalNode.{SignalNode}
use Rattle.module_tree.specs.declared.source.InterfaceNode.{InterfaceNode}
use Rattle.module_tree.specs.declared.source.BlockNode.{BlockNode}
use Rattle.module_tree.specs.declared.source.StatementNode.{StatementNode}
use Rattle.module_tree.specs.declared.source.Statement.{Statement}
use Rattle.module_tree.specs.declared.source.Statement.TheFolds.{fold-Statement, fold-StatementNode}
use Rattle.module_tree.specs.Scopes.{InScope, Declared, interface_signals, with_signals, with_trap}
use Rattle.link_faults.specs.Named.{Name}
use Rattle.link_faults.specs.Rows.{Program}
use Rattle.module_link.specs.declared.places.Places.{Places}
use Rattle.module_link.specs.Resolved as tree
use Rattle.module_link.specs.Resolved.{Resolve}
use Rattle.module_link.specs.Places.{ArePlaces, Shows, declared_before}

abbrev pub resolved_statement : Program → Statement Name → Resolve (Statement ℕ)
resolved_statement parts = fold-Statement Name (Resolve (Statement ℕ)) (Resolve (BlockNode ℕ))
    (Resolve (StatementNode ℕ)) (tree.statement_step parts) tree.block_step tree.node_step

abbrev pub resolved_node : Program → StatementNode Name → Resolve (StatementNode ℕ)
resolved_node parts = fold-StatementNode Name (Resolve (Statement ℕ)) (Resolve (BlockNode ℕ))
    (Resolve (StatementNode ℕ)) (tree.statement_step parts) tree.block_step tree.node_step

-- a block behind a `signal` list, and in a trap
abbrev pub behind_signals : List SignalNode → Resolve (BlockNode ℕ) → Resolve (BlockNode ℕ)
behind_signals signals block scope before =
    block (with_signals before.signals signals scope)
    (record { signals = before.signals + length signals; traps = before.traps })

abbrev pub inside_trap : Name → Resolve (BlockNode ℕ) → Resolve (BlockNode ℕ)
inside_trap name block scope before =
    block (with_trap before.traps name scope)
    (record { signals = before.signals; traps = before.traps + 1 })

-- In each scope that its tables showed, the walk made of a piece of the text what it becomes, and shows that
-- scope behind it.
pub record Resolves {A : Type 0} (r : Resolve A) (old new : Places) (made : A) : Type 0 where
  pub are_places : ArePlaces new
  pub tree : (c : InScope) → Shows old c → made ≡ (r c (declared_before old)).tree
  pub after : (c : InScope) → Shows old c → declared_before new ≡ (r c (declared_before old)).after
  pub shows : (c : InScope) → Shows old c → Shows new c

-- the tables but for the signals
pub record SameButSignals (old new : Places) : Type 0 where
  pub traps : new.traps ≡ old.traps
  pub parameters : new.parameters ≡ old.parameters
  pub next_trap : new.next_trap ≡ old.next_trap

-- the tables but for the traps
pub record SameButTraps (old new : Places) : Type 0 where
  pub signals : new.signals ≡ old.signals
  pub parameters : new.parameters ≡ old.parameters
  pub next_signal : new.next_signal ≡ old.next_signal

-- what is in scope where the block of a module begins, and how much is declared before it
abbrev pub module_scope : List InterfaceNode → InScope
module_scope interface = record { signals = interface_signals interface; traps = [] }

abbrev pub module_declared : List InterfaceNode → Declared
module_declared interface = record { signals = length interface; traps = 0 }

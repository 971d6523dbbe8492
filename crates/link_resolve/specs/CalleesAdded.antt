-- The modules that a piece of a text runs, once names are resolved. This project's own.
use Rattle.std.specs.Prelude.{◌≡◌, ℕ, List, ◌++◌}
use Rattle.std.specs.List.{flat_map}
use Rattle.module_tree.specs.declared.source.StatementNode.{StatementNode}
use Rattle.module_tree.specs.declared.source.Statement.{Statement}
use Rattle.module_tree.specs.declared.source.Statement.TheFolds.{fold-Statement, fold-StatementNode}
use Rattle.module_tree.specs.Scopes.{InScope, Declared}
use Rattle.module_tree.specs.Parts.{Walk, Placed, statement_step, block_step}
use Rattle.module_tree.specs.Runs.{callee_of}

abbrev pub callees_in : List (Placed ℕ) → List ℕ
callees_in = flat_map (λ (p : Placed ℕ). callee_of p.part)

abbrev pub statement_walk : Statement ℕ → Walk ℕ
statement_walk = fold-Statement ℕ (Walk ℕ) (Walk ℕ) (Walk ℕ) statement_step block_step (λ n. n.what)

abbrev pub node_walk : StatementNode ℕ → Walk ℕ
node_walk = fold-StatementNode ℕ (Walk ℕ) (Walk ℕ) (Walk ℕ) statement_step block_step (λ n. n.what)

-- those that the piece runs are added, in the order of the text, whatever is in scope there
pub record AddsCallees (w : Walk ℕ) (old new : List ℕ) : Type 0 where
  pub added : (scope : InScope) (before : Declared) → new ≡ old ++ callees_in (w scope before).parts

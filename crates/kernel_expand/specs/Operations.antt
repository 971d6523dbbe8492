-- The kernel statements as operations on meanings of any kind, so that one table of the derived statements
-- says both what they expand to and how large that is. (Berry's kernel, The Constructive Semantics of Pure
-- Esterel, and async, after HipHop.js.)
use Rattle.std.specs.Prelude.{ℕ, Option, List}
use Rattle.host_expr.specs.declared.expr.Expr.{Expr}
use Rattle.module_tree.specs.declared.source.SignalNode.{SignalNode}
use Rattle.module_tree.specs.declared.source.Binding.{Binding}
use Rattle.module_tree.specs.declared.source.AsyncNode.{AsyncNode}

-- signals, traps and modules go by their places in the linked text
pub record Operations (X : Type 0) : Type 0 where
  pub nothing : X
  pub pause : X
  pub emit : ℕ → Option (Expr ℕ) → X
  pub choice : Expr ℕ → X → X → X
  pub suspend : Expr ℕ → X → X
  pub seq : X → X → X
  pub par : X → X → X
  pub loop : X → X
  pub local : SignalNode → X → X
  pub async : AsyncNode ℕ → X
  -- a trap that a row makes, and the exit of the innermost trap
  pub trap : X → X
  pub exit : X
  -- a trap of the text, and the exit of the trap of this place
  pub named_trap : X → X
  pub leave : ℕ → X
  -- the signal C of `abort count`: its scope, the suspension while it is present, and its emission
  pub counter : X → X
  pub suspend_counted : X → X
  pub emit_counter : X
  -- the body of the module of this place, with these signals for its interface
  pub run : ℕ → List (Binding ℕ) → X

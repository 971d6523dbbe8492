-- The parts of a module's statements that names and kinds are judged by, in the order of the text, each with
-- what is in scope there. R is a name where the tree is as written, and a place where names are resolved.
-- This project's own.
use Rattle.std.specs.Prelude.{ℕ, ◌+◌, Option, Some, None, List, [], ◌∷◌, ◌++◌, map, length}
use Rattle.std.specs.List.{flat_map}
use Rattle.hh_base.specs.declared.value.Pos.{Pos}
use Rattle.host_expr.specs.declared.expr.Expr.{Expr}
use Rattle.host_expr.specs.declared.expr.ExprNode.TheOpen as e
use Rattle.host_expr.specs.declared.expr.ExprNode.TheFolds.{fold-Expr}
use Rattle.module_tree.specs.declared.source.NameAt.{NameAt}
use Rattle.module_tree.specs.declared.source.ExprAt.{ExprAt}
use Rattle.module_tree.specs.declared.source.SignalNode.{SignalNode}
use Rattle.module_tree.specs.declared.source.Binding.{Binding}
use Rattle.module_tree.specs.declared.source.AsyncNode.{AsyncNode}
use Rattle.module_tree.specs.declared.source.ModuleNode.{ModuleNode}
use Rattle.module_tree.specs.declared.source.BlockNode.{BlockNode}
use Rattle.module_tree.specs.declared.source.Statement.TheOpen as s
use Rattle.module_tree.specs.declared.source.Statement.TheFolds.{fold-BlockNode}
use Rattle.module_tree.specs.declared.source.Later.{Later}
use Rattle.module_tree.specs.declared.source.Later.TheVariants as plain
use Rattle.module_tree.specs.declared.source.Delay.{Delay}
use Rattle.module_tree.specs.declared.source.Delay.TheVariants as delay
use Rattle.module_tree.specs.Scopes.{InScope, Declared, interface_signals, with_signals, with_trap}

pub data StatementPart (R : Type 0) : Type 0 where
  -- an expression that has to be true or false: of an `if`, a `suspend` or a delay
  Test : (x : ExprAt R) → StatementPart R
  -- how often it has to be true: of a `count`
  Times : (n : ℕ) → StatementPart R
  -- `emit` or `sustain`
  Emission : (signal : NameAt R) (value : Option (ExprAt R)) → StatementPart R
  -- a `signal` list
  Locals : (signals : List SignalNode) → StatementPart R
  -- `break`
  Exit : (trap : NameAt R) → StatementPart R
  -- `run`
  Call : (callee : NameAt R) (bindings : List (Binding R)) → StatementPart R
  -- `async`
  Start : (a : AsyncNode R) → StatementPart R

pub record Placed (R : Type 0) : Type 0 where
  pub scope : InScope
  pub part : StatementPart R

-- the parts of a piece of the text, and what is declared before its end
pub record Walked (R : Type 0) : Type 0 where
  pub parts : List (Placed R)
  pub after : Declared

-- what a piece of the text has where this is in scope and declared before it
abbrev pub Walk : Type 0 → Type 0
Walk R = InScope → Declared → Walked R

abbrev pub empty : {R : Type 0} → Walk R
empty scope before = record { parts = []; after = before }

abbrev pub here : {R : Type 0} → StatementPart R → Walk R
here part scope before = record { parts = record { scope = scope; part = part } ∷ []; after = before }

abbrev pub joined : {R : Type 0} → List (Placed R) → Walked R → Walked R
joined parts w = record { parts = parts ++ w.parts; after = w.after }

-- one piece, and then another in the same scope
abbrev pub then : {R : Type 0} → Walk R → Walk R → Walk R
then a b scope before = joined (a scope before).parts (b scope (a scope before).after)

abbrev pub in_order : {R : Type 0} → List (Walk R) → Walk R
in_order [] = empty
in_order (w ∷ ws) = then w (in_order ws)

abbrev pub if_there : {R : Type 0} → Option (Walk R) → Walk R
if_there None = empty
if_there (Some w) = w

abbrev pub plain_walk : {R : Type 0} → Later R → Walk R
plain_walk (plain.Once x) = here (Test x)
plain_walk (plain.Count n x) = then (here (Times n)) (here (Test x))

abbrev pub delay_walk : {R : Type 0} → Delay R → Walk R
delay_walk (delay.Later p) = plain_walk p
delay_walk (delay.Immediate x) = here (Test x)

abbrev pub locals_walk : {R : Type 0} → List SignalNode → Walk R → Walk R
locals_walk signals block scope before =
    block (with_signals before.signals signals scope)
    (record { signals = before.signals + length signals; traps = before.traps })

abbrev pub trap_walk : {R : Type 0} → List ℕ → Walk R → Walk R
trap_walk name block scope before =
    block (with_trap before.traps name scope) (record { signals = before.signals; traps = before.traps + 1 })

-- by one layer, with what its parts have in their places
abbrev pub statement_step : {R : Type 0} → s.Statement-F R (Walk R) (Walk R) (Walk R) → Walk R
statement_step s.Nothing = empty
statement_step s.Pause = empty
statement_step s.Halt = empty
statement_step (s.Emit n x) = here (Emission n x)
statement_step (s.Sustain n x) = here (Emission n x)
statement_step (s.If x b other) = then (here (Test x)) (then b (if_there other))
statement_step (s.Loop b) = b
statement_step (s.Fork bs) = in_order bs
statement_step (s.Block b) = b
statement_step (s.Await d) = delay_walk d
statement_step (s.Every d b) = then (delay_walk d) b
statement_step (s.DoEvery b p) = then b (plain_walk p)
statement_step (s.Abort d b) = then (delay_walk d) b
statement_step (s.WeakAbort d b) = then (delay_walk d) b
statement_step (s.Suspend immediate x b) = then (here (Test x)) b
statement_step (s.Signal signals b) = then (here (Locals signals)) (locals_walk signals b)
statement_step (s.Trap n b) = trap_walk n b
statement_step (s.Break n) = here (Exit n)
statement_step (s.Run n bindings) = here (Call n bindings)
statement_step (s.Async a) = here (Start a)

abbrev pub block_step : {R : Type 0} → s.BlockNode-F R (Walk R) (Walk R) (Walk R) → Walk R
block_step b = in_order b.statements

abbrev pub block_walk : {R : Type 0} → BlockNode R → Walk R
block_walk {R} = fold-BlockNode R (Walk R) (Walk R) (Walk R) statement_step block_step (λ n. n.what)

-- the parts of a module, in the order of the text
abbrev pub parts_of : {R : Type 0} → ModuleNode R → List (Placed R)
parts_of m = (block_walk m.block (record { signals = interface_signals m.interface; traps = [] })
    (record { signals = length m.interface; traps = 0 })).parts

-- ---- what an expression reads

abbrev pub read_step : {R : Type 0} → e.ExprNode-F R (Pos → List (NameAt R)) (List (NameAt R)) → Pos
    → List (NameAt R)
read_step (e.Now r) p = record { pos = p; name = r } ∷ []
read_step (e.Pre r) p = record { pos = p; name = r } ∷ []
read_step (e.NowVal r) p = record { pos = p; name = r } ∷ []
read_step (e.PreVal r) p = record { pos = p; name = r } ∷ []
read_step (e.Not a) p = a
read_step (e.Neg a) p = a
read_step (e.Arith op a b) p = a ++ b
read_step (e.Compare rel a b) p = a ++ b
read_step (e.And a b) p = a ++ b
read_step (e.Or a b) p = a ++ b
read_step (e.Choose a b c) p = a ++ b ++ c
read_step _ p = []

-- the signals that it reads, from left to right
abbrev pub signals_read : {R : Type 0} → Expr R → List (NameAt R)
signals_read {R} = fold-Expr R (Pos → List (NameAt R)) (List (NameAt R)) read_step (λ x. x.node x.pos)

abbrev pub parameter_step : {R : Type 0} → e.ExprNode-F R (Pos → List (NameAt R)) (List (NameAt R)) → Pos
    → List (NameAt R)
parameter_step (e.Arg r) p = record { pos = p; name = r } ∷ []
parameter_step (e.Not a) p = a
parameter_step (e.Neg a) p = a
parameter_step (e.Arith op a b) p = a ++ b
parameter_step (e.Compare rel a b) p = a ++ b
parameter_step (e.And a b) p = a ++ b
parameter_step (e.Or a b) p = a ++ b
parameter_step (e.Choose a b c) p = a ++ b ++ c
parameter_step _ p = []

-- the parameters that it reads, from left to right
abbrev pub parameters_read : {R : Type 0} → Expr R → List (NameAt R)
parameters_read {R} = fold-Expr R (Pos → List (NameAt R)) (List (NameAt R)) parameter_step (λ x. x.node x.pos)

-- ---- what a part refers to

abbrev pub if_any : {A : Type 0} → Option A → List A
if_any None = []
if_any (Some a) = a ∷ []

abbrev pub expressions_of : {R : Type 0} → StatementPart R → List (ExprAt R)
expressions_of (Test x) = x ∷ []
expressions_of (Emission n value) = if_any value
expressions_of (Start a) = a.args
expressions_of _ = []

-- the signals that it emits, answers to or binds
abbrev pub signals_written : {R : Type 0} → StatementPart R → List (NameAt R)
signals_written (Emission n value) = n ∷ []
signals_written (Call callee bindings) = map (λ b. b.right) bindings
signals_written (Start a) = if_any a.signal
signals_written _ = []

abbrev pub signals_named : {R : Type 0} → StatementPart R → List (NameAt R)
signals_named {R} part = signals_written part ++ flat_map (λ (x : ExprAt R). signals_read x.expr)
    (expressions_of part)

abbrev pub parameters_named : {R : Type 0} → StatementPart R → List (NameAt R)
parameters_named {R} part = flat_map (λ (x : ExprAt R). parameters_read x.expr) (expressions_of part)

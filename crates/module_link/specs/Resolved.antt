-- The tree of a text with each name that refers to something replaced by the place of what it means. A name
-- that means nothing gets the place 0; no text without faults has one. This project's own.
use Rattle.std.specs.Prelude.{ℕ, ◌+◌, Option, Some, None, option_map, List, [], ◌∷◌, map, length}
use Rattle.std.specs.List.{find}
use Rattle.std.specs.Str.{bytes_eq}
use Rattle.hh_base.specs.declared.value.Pos.{Pos}
use Rattle.host_expr.specs.declared.expr.Expr.{Expr, roll-Expr}
use Rattle.host_expr.specs.declared.expr.ExprNode.{ExprNode}
use Rattle.host_expr.specs.declared.expr.ExprNode.TheVariants as x
use Rattle.host_expr.specs.declared.expr.ExprNode.TheOpen as node
use Rattle.host_expr.specs.declared.expr.ExprNode.TheFolds.{fold-Expr}
use Rattle.module_tree.specs.declared.source.NameAt.{NameAt}
use Rattle.module_tree.specs.declared.source.ExprAt.{ExprAt}
use Rattle.module_tree.specs.declared.source.SignalNode.{SignalNode}
use Rattle.module_tree.specs.declared.source.ParameterNode.{ParameterNode}
use Rattle.module_tree.specs.declared.source.Binding.{Binding}
use Rattle.module_tree.specs.declared.source.AsyncNode.{AsyncNode}
use Rattle.module_tree.specs.declared.source.ModuleNode.{ModuleNode}
use Rattle.module_tree.specs.declared.source.BlockNode.{BlockNode, roll-BlockNode}
use Rattle.module_tree.specs.declared.source.StatementNode.{StatementNode, roll-StatementNode}
use Rattle.module_tree.specs.declared.source.Statement.{Statement}
use Rattle.module_tree.specs.declared.source.Statement.TheVariants as s
use Rattle.module_tree.specs.declared.source.Statement.TheOpen as layer
use Rattle.module_tree.specs.declared.source.Statement.TheFolds.{fold-BlockNode}
use Rattle.module_tree.specs.declared.source.Later.{Later}
use Rattle.module_tree.specs.declared.source.Later.TheVariants as later
use Rattle.module_tree.specs.declared.source.Delay.{Delay}
use Rattle.module_tree.specs.declared.source.Delay.TheVariants as delay
use Rattle.module_tree.specs.declared.source.Part.{Part}
use Rattle.module_tree.specs.declared.source.Part.TheVariants as top
use Rattle.module_tree.specs.Scopes.{Signal, TrapName, InScope, Declared, interface_signals, with_signals}
use Rattle.module_tree.specs.Scopes.{with_trap}
use Rattle.module_tree.specs.Callables.{Signature, signatures_of}
use Rattle.link_faults.specs.Named.{Name, signal_named, trap_named, module_named, place_of}
use Rattle.link_faults.specs.Rows.{Program, module_place}

abbrev pub or_first : Option ℕ → ℕ
or_first None = 0
or_first (Some place) = place

abbrev pub signal_place : InScope → Name → ℕ
signal_place scope n = or_first (option_map (λ (s : Signal). s.place) (signal_named scope n))

abbrev pub trap_place : InScope → Name → ℕ
trap_place scope n = or_first (option_map (λ (t : TrapName). t.place) (trap_named scope n))

abbrev pub body_place : Program → Name → ℕ
body_place parts n = or_first (place_of (map (λ (s : Signature). s.name) (signatures_of parts)) n)

-- ---- names and expressions

abbrev pub resolved_name : (Name → ℕ) → NameAt Name → NameAt ℕ
resolved_name place n = record { pos = n.pos; name = place n.name }

abbrev pub resolved_node : (Name → ℕ) → (Name → ℕ) → node.ExprNode-F Name (ExprNode ℕ) (Expr ℕ) → ExprNode ℕ
resolved_node signals args (node.Int n) = x.Int n
resolved_node signals args (node.Bool b) = x.Bool b
resolved_node signals args (node.Text t) = x.Text t
resolved_node signals args (node.Now n) = x.Now (signals n)
resolved_node signals args (node.Pre n) = x.Pre (signals n)
resolved_node signals args (node.NowVal n) = x.NowVal (signals n)
resolved_node signals args (node.PreVal n) = x.PreVal (signals n)
resolved_node signals args (node.Arg n) = x.Arg (args n)
resolved_node signals args (node.Not a) = x.Not a
resolved_node signals args (node.Neg a) = x.Neg a
resolved_node signals args (node.Arith op a b) = x.Arith op a b
resolved_node signals args (node.Compare rel a b) = x.Compare rel a b
resolved_node signals args (node.And a b) = x.And a b
resolved_node signals args (node.Or a b) = x.Or a b
resolved_node signals args (node.Choose a b c) = x.Choose a b c

abbrev pub resolved_expr : (Name → ℕ) → (Name → ℕ) → Expr Name → Expr ℕ
resolved_expr signals args = fold-Expr Name (ExprNode ℕ) (Expr ℕ) (resolved_node signals args)
    (λ e. roll-Expr ℕ (record { pos = e.pos; node = e.node }))

-- in a module, where nothing is a parameter
abbrev pub resolved : InScope → ExprAt Name → ExprAt ℕ
resolved scope e = record { pos = e.pos; expr = resolved_expr (signal_place scope) (λ n. 0) e.expr }

abbrev pub resolved_later : InScope → Later Name → Later ℕ
resolved_later scope (later.Once e) = later.Once (resolved scope e)
resolved_later scope (later.Count n e) = later.Count n (resolved scope e)

abbrev pub resolved_delay : InScope → Delay Name → Delay ℕ
resolved_delay scope (delay.Later p) = delay.Later (resolved_later scope p)
resolved_delay scope (delay.Immediate e) = delay.Immediate (resolved scope e)

abbrev pub resolved_async : Program → InScope → AsyncNode Name → AsyncNode ℕ
resolved_async parts scope a =
    record {
      signal = option_map (resolved_name (signal_place scope)) a.signal;
      body =
          resolved_name (body_place parts) a.body;
      args = map (resolved scope) a.args;
      kill = a.kill;
      suspend = a.suspend;
      resume = a.resume;
    }

-- ---- runs: one binding for each signal of the interface. One that is not written stands where the run
-- names the module, and its right side is the signal of that name in scope.

abbrev pub binding_at : Pos → Pos → ℕ → ℕ → Binding ℕ
binding_at left right callee caller = record {
  left = record { pos = left; name = callee };
  right =
      record { pos = right; name = caller };
}

abbrev pub resolved_binding : InScope → Pos → Signal → Option (Binding Name) → Binding ℕ
resolved_binding scope p s None = binding_at p p s.place (signal_place scope s.signal.name)
resolved_binding scope p s (Some b) = binding_at b.left.pos b.right.pos s.place
    (signal_place scope b.right.name)

abbrev pub resolved_bindings : InScope → Pos → List (Binding Name) → Option (ModuleNode Name)
    → List (Binding ℕ)
resolved_bindings scope p written None = []
resolved_bindings scope p written (Some m) = map (λ (s : Signal). resolved_binding scope p s
    (find (λ (b : Binding Name). bytes_eq b.left.name s.signal.name) written)) (interface_signals m.interface)

-- ---- statements

-- a tree, and what is declared before its end
pub record Ended (A : Type 0) : Type 0 where
  pub tree : A
  pub after : Declared

-- what a piece of the text becomes where this is in scope and declared before it
abbrev pub Resolve : Type 0 → Type 0
Resolve A = InScope → Declared → Ended A

abbrev pub plainly : {A : Type 0} → (InScope → A) → Resolve A
plainly tree scope before = record { tree = tree scope; after = before }

abbrev pub within : {A B : Type 0} → (InScope → A → B) → Resolve A → Resolve B
within make a scope before = record {
  tree = make scope (a scope before).tree;
  after =
      (a scope before).after;
}

abbrev pub then : {A B C : Type 0} → (InScope → A → B → C) → Resolve A → Resolve B → Resolve C
then make a b scope before =
    record {
      tree = make scope (a scope before).tree (b scope (a scope before).after).tree;
      after =
          (b scope (a scope before).after).after;
    }

abbrev pub each : {A : Type 0} → List (Resolve A) → Resolve (List A)
each [] = plainly (λ scope. [])
each (a ∷ others) = then (λ scope tree trees. tree ∷ trees) a (each others)

abbrev pub if_there : {A : Type 0} → Option (Resolve A) → Resolve (Option A)
if_there None = plainly (λ scope. None)
if_there (Some a) = within (λ scope tree. Some tree) a

abbrev pub in_signals : List SignalNode → Resolve (BlockNode ℕ) → Resolve (Statement ℕ)
in_signals signals block scope before =
    within (λ inner b. s.Signal signals b) block (with_signals before.signals signals scope)
    (record { signals = before.signals + length signals; traps = before.traps })

abbrev pub in_trap : Name → Resolve (BlockNode ℕ) → Resolve (Statement ℕ)
in_trap name block scope before =
    within (λ inner b. s.Trap name b) block (with_trap before.traps name scope)
    (record { signals = before.signals; traps = before.traps + 1 })

-- by one layer, with its parts resolved
abbrev pub statement_step : Program → layer.Statement-F Name (Resolve (Statement ℕ))
    (Resolve (BlockNode ℕ)) (Resolve (StatementNode ℕ)) → Resolve (Statement ℕ)
statement_step parts layer.Nothing = plainly (λ scope. s.Nothing)
statement_step parts layer.Pause = plainly (λ scope. s.Pause)
statement_step parts layer.Halt = plainly (λ scope. s.Halt)
statement_step parts (layer.Emit n e) = plainly (λ scope. s.Emit (resolved_name (signal_place scope) n)
    (option_map (resolved scope) e))
statement_step parts (layer.Sustain n e) = plainly
    (λ scope. s.Sustain (resolved_name (signal_place scope) n) (option_map (resolved scope) e))
statement_step parts (layer.If e b other) = then (λ scope yes no. s.If (resolved scope e) yes no) b
    (if_there other)
statement_step parts (layer.Loop b) = within (λ scope. s.Loop) b
statement_step parts (layer.Fork bs) = within (λ scope. s.Fork) (each bs)
statement_step parts (layer.Block b) = within (λ scope. s.Block) b
statement_step parts (layer.Await d) = plainly (λ scope. s.Await (resolved_delay scope d))
statement_step parts (layer.Every d b) = within (λ scope. s.Every (resolved_delay scope d)) b
statement_step parts (layer.DoEvery b p) = within (λ scope tree. s.DoEvery tree (resolved_later scope p)) b
statement_step parts (layer.Abort d b) = within (λ scope. s.Abort (resolved_delay scope d)) b
statement_step parts (layer.WeakAbort d b) = within (λ scope. s.WeakAbort (resolved_delay scope d)) b
statement_step parts (layer.Suspend immediate e b) =
    within (λ scope. s.Suspend immediate (resolved scope e)) b
statement_step parts (layer.Signal signals b) = in_signals signals b
statement_step parts (layer.Trap n b) = in_trap n b
statement_step parts (layer.Break n) = plainly (λ scope. s.Break (resolved_name (trap_place scope) n))
statement_step parts (layer.Run n bindings) =
    plainly (λ scope. s.Run (resolved_name (λ m. or_first (module_place parts m)) n)
    (resolved_bindings scope n.pos bindings (module_named parts n.name)))
statement_step parts (layer.Async a) = plainly (λ scope. s.Async (resolved_async parts scope a))

abbrev pub block_step : layer.BlockNode-F Name (Resolve (Statement ℕ)) (Resolve (BlockNode ℕ))
    (Resolve (StatementNode ℕ)) → Resolve (BlockNode ℕ)
block_step b = within (λ scope statements. roll-BlockNode ℕ
    (record { pos = b.pos; statements = statements })) (each b.statements)

abbrev pub node_step : layer.StatementNode-F Name (Resolve (Statement ℕ)) (Resolve (BlockNode ℕ))
    (Resolve (StatementNode ℕ)) → Resolve (StatementNode ℕ)
node_step n = within (λ scope what. roll-StatementNode ℕ (record { pos = n.pos; what = what })) n.what

abbrev pub resolved_block : Program → BlockNode Name → Resolve (BlockNode ℕ)
resolved_block parts = fold-BlockNode Name (Resolve (Statement ℕ)) (Resolve (BlockNode ℕ))
    (Resolve (StatementNode ℕ)) (statement_step parts) block_step node_step

-- ---- texts

abbrev pub resolved_module : Program → ModuleNode Name → ModuleNode ℕ
resolved_module parts m =
    record {
      pos = m.pos;
      name = m.name;
      interface = m.interface;
      block =
          (resolved_block parts m.block (record { signals = interface_signals m.interface; traps = [] })
          (record { signals = length m.interface; traps = 0 })).tree;
    }

abbrev pub resolved_part : Program → Part Name → Part ℕ
resolved_part parts (top.Body b) =
    top.Body (record {
      pos = b.pos;
      name = b.name;
      parameters = b.parameters;
      answer = b.answer;
      expr =
          record {
            pos = b.expr.pos;
            expr = resolved_expr (λ n. 0)
                (λ n. or_first (place_of (map (λ (p : ParameterNode). p.name) b.parameters) n)) b.expr.expr;
          };
    })
resolved_part parts (top.Host h) = top.Host h
resolved_part parts (top.Module m) = top.Module (resolved_module parts m)

-- the tree of the text with its names resolved
abbrev pub resolved_parts : Program → List (Part ℕ)
resolved_parts parts = map (resolved_part parts) parts

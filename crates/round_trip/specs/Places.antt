-- Source trees without their places, and trees that are the same but for places. This project's own.
use Rattle.std.specs.Prelude.{◌≡◌, List, map, option_map}
use Rattle.host_expr.specs.declared.expr.Expr.{Expr}
use Rattle.host_expr.specs.declared.expr.ExprNode.{ExprNode, roll-ExprNode}
use Rattle.host_expr.specs.declared.expr.ExprNode.TheFolds.{fold-Expr}
use Rattle.module_tree.specs.declared.source.NameAt.{NameAt}
use Rattle.module_tree.specs.declared.source.ExprAt.{ExprAt}
use Rattle.module_tree.specs.declared.source.SignalNode.{SignalNode}
use Rattle.module_tree.specs.declared.source.InterfaceNode.{InterfaceNode}
use Rattle.module_tree.specs.declared.source.ParameterNode.{ParameterNode}
use Rattle.module_tree.specs.declared.source.Binding.{Binding}
use Rattle.module_tree.specs.declared.source.AsyncNode.{AsyncNode}
use Rattle.module_tree.specs.declared.source.BlockNode.{BlockNode}
use Rattle.module_tree.specs.declared.source.StatementNode.{StatementNode}
use Rattle.module_tree.specs.declared.source.Statement.{Statement}
use Rattle.module_tree.specs.declared.source.Statement.TheVariants as s
use Rattle.module_tree.specs.declared.source.Statement.TheOpen as layer
use Rattle.module_tree.specs.declared.source.Statement.TheFolds.{fold-BlockNode}
use Rattle.module_tree.specs.declared.source.Later.{Later}
use Rattle.module_tree.specs.declared.source.Later.TheVariants as plain
use Rattle.module_tree.specs.declared.source.Delay.{Delay}
use Rattle.module_tree.specs.declared.source.Delay.TheVariants as delay
use Rattle.module_tree.specs.declared.source.Part.{Part}
use Rattle.module_tree.specs.declared.source.Part.TheVariants as top
use Rattle.expression_reader.specs.Trees.{Name, pos_at, node}
use Rattle.module_reader.specs.Trees.{statement_at, block_at}

-- ---- parts

abbrev pub placeless_expr : Expr Name → Expr Name
placeless_expr = fold-Expr Name (ExprNode Name) (Expr Name) (roll-ExprNode Name) (λ x. node 0 x.node)

abbrev pub placeless_outermost : ExprAt Name → ExprAt Name
placeless_outermost x = record { pos = pos_at 0; expr = placeless_expr x.expr }

abbrev pub placeless_name : NameAt Name → NameAt Name
placeless_name n = record { pos = pos_at 0; name = n.name }

abbrev pub placeless_signal : SignalNode → SignalNode
placeless_signal s = record {
  pos = pos_at 0;
  name = s.name;
  kind = s.kind;
  first = s.first;
  combine = s.combine;
}

abbrev pub placeless_interface : InterfaceNode → InterfaceNode
placeless_interface d = record { dir = d.dir; signal = placeless_signal d.signal }

abbrev pub placeless_parameter : ParameterNode → ParameterNode
placeless_parameter p = record { pos = pos_at 0; name = p.name; kind = p.kind }

abbrev pub placeless_later : Later Name → Later Name
placeless_later (plain.Once x) = plain.Once (placeless_outermost x)
placeless_later (plain.Count n x) = plain.Count n (placeless_outermost x)

abbrev pub placeless_delay : Delay Name → Delay Name
placeless_delay (delay.Later p) = delay.Later (placeless_later p)
placeless_delay (delay.Immediate x) = delay.Immediate (placeless_outermost x)

abbrev pub placeless_binding : Binding Name → Binding Name
placeless_binding b = record { left = placeless_name b.left; right = placeless_name b.right }

abbrev pub placeless_async : AsyncNode Name → AsyncNode Name
placeless_async a =
    record {
      signal = option_map placeless_name a.signal;
      body = placeless_name a.body;
      args = map placeless_outermost a.args;
      kill = a.kill;
      suspend = a.suspend;
      resume = a.resume;
    }

-- ---- statements

-- by one layer, with its parts without places
abbrev pub statement_step : layer.Statement-F Name (Statement Name) (BlockNode Name) (StatementNode Name)
    → Statement Name
statement_step layer.Nothing = s.Nothing
statement_step layer.Pause = s.Pause
statement_step layer.Halt = s.Halt
statement_step (layer.Emit n x) = s.Emit (placeless_name n) (option_map placeless_outermost x)
statement_step (layer.Sustain n x) = s.Sustain (placeless_name n) (option_map placeless_outermost x)
statement_step (layer.If x b other) = s.If (placeless_outermost x) b other
statement_step (layer.Loop b) = s.Loop b
statement_step (layer.Fork bs) = s.Fork bs
statement_step (layer.Block b) = s.Block b
statement_step (layer.Await d) = s.Await (placeless_delay d)
statement_step (layer.Every d b) = s.Every (placeless_delay d) b
statement_step (layer.DoEvery b p) = s.DoEvery b (placeless_later p)
statement_step (layer.Abort d b) = s.Abort (placeless_delay d) b
statement_step (layer.WeakAbort d b) = s.WeakAbort (placeless_delay d) b
statement_step (layer.Suspend immediate x b) = s.Suspend immediate (placeless_outermost x) b
statement_step (layer.Signal signals b) = s.Signal (map placeless_signal signals) b
statement_step (layer.Trap n b) = s.Trap n b
statement_step (layer.Break n) = s.Break (placeless_name n)
statement_step (layer.Run n bindings) = s.Run (placeless_name n) (map placeless_binding bindings)
statement_step (layer.Async a) = s.Async (placeless_async a)

abbrev pub block_step : layer.BlockNode-F Name (Statement Name) (BlockNode Name) (StatementNode Name)
    → BlockNode Name
block_step b = block_at 0 b.statements

abbrev pub node_step : layer.StatementNode-F Name (Statement Name) (BlockNode Name) (StatementNode Name)
    → StatementNode Name
node_step n = statement_at 0 n.what

abbrev pub placeless_block : BlockNode Name → BlockNode Name
placeless_block = fold-BlockNode Name (Statement Name) (BlockNode Name)
    (StatementNode Name) statement_step block_step node_step

-- ---- texts

abbrev pub placeless_part : Part Name → Part Name
placeless_part (top.Body b) = top.Body (record {
  pos = pos_at 0;
  name = b.name;
  parameters = map placeless_parameter b.parameters;
  answer = b.answer;
  expr = placeless_outermost b.expr;
})
placeless_part (top.Host h) = top.Host (record {
  pos = pos_at 0;
  token = pos_at 0;
  name = h.name;
  parameters = h.parameters;
  answer = h.answer;
})
placeless_part (top.Module m) = top.Module (record {
  pos = pos_at 0;
  name = m.name;
  interface = map placeless_interface m.interface;
  block = placeless_block m.block;
})

abbrev pub without_places : List (Part Name) → List (Part Name)
without_places = map placeless_part

abbrev pub SameButPlaces : List (Part Name) → List (Part Name) → Type 0
SameButPlaces a b = without_places a ≡ without_places b

-- How many `(` and `{` are open at once in a part of a module text. This project's own.
use Rattle.std.specs.Prelude.{ℕ, suc, List, [], ◌∷◌, map, max, Option, Some, None}
use Rattle.module_tree.specs.declared.source.BlockNode.{BlockNode}
use Rattle.module_tree.specs.declared.source.Statement.TheOpen as s
use Rattle.module_tree.specs.declared.source.Statement.TheFolds.{fold-BlockNode}
use Rattle.module_tree.specs.declared.source.ExprAt.{ExprAt}
use Rattle.module_tree.specs.declared.source.Later.{Later}
use Rattle.module_tree.specs.declared.source.Later.TheVariants as plain
use Rattle.module_tree.specs.declared.source.Delay.{Delay}
use Rattle.module_tree.specs.declared.source.Delay.TheVariants as delay
use Rattle.module_tree.specs.declared.source.Part.{Part}
use Rattle.module_tree.specs.declared.source.Part.TheVariants as top
use Rattle.module_tree.specs.SourceExpressions.{nesting_of}

abbrev pub largest : List ℕ → ℕ
largest [] = 0
largest (n ∷ ns) = max n (largest ns)

abbrev pub if_any : Option ℕ → ℕ
if_any None = 0
if_any (Some n) = n

-- between parentheses
abbrev pub in_parentheses : ExprAt (List ℕ) → ℕ
in_parentheses x = suc (nesting_of x.expr)

abbrev pub nesting_of_value : Option (ExprAt (List ℕ)) → ℕ
nesting_of_value None = 0
nesting_of_value (Some x) = in_parentheses x

abbrev pub nesting_of_later : Later (List ℕ) → ℕ
nesting_of_later (plain.Once x) = in_parentheses x
nesting_of_later (plain.Count n x) = in_parentheses x

abbrev pub nesting_of_delay : Delay (List ℕ) → ℕ
nesting_of_delay (delay.Later p) = nesting_of_later p
nesting_of_delay (delay.Immediate x) = in_parentheses x

-- by one layer, with what its parts gave in their places
abbrev pub statement_step : s.Statement-F (List ℕ) ℕ ℕ ℕ → ℕ
statement_step (s.Emit n x) = nesting_of_value x
statement_step (s.Sustain n x) = nesting_of_value x
statement_step (s.If x b other) = max (in_parentheses x) (max b (if_any other))
statement_step (s.Loop b) = b
statement_step (s.Fork bs) = largest bs
statement_step (s.Block b) = b
statement_step (s.Await d) = nesting_of_delay d
statement_step (s.Every d b) = max (nesting_of_delay d) b
statement_step (s.DoEvery b p) = max b (nesting_of_later p)
statement_step (s.Abort d b) = max (nesting_of_delay d) b
statement_step (s.WeakAbort d b) = max (nesting_of_delay d) b
statement_step (s.Suspend immediate x b) = max (in_parentheses x) b
statement_step (s.Signal signals b) = b
statement_step (s.Trap n b) = b
statement_step (s.Run n bindings) = 1
statement_step (s.Async a) = suc (largest (map (λ (x : ExprAt (List ℕ)). nesting_of x.expr) a.args))
statement_step _ = 0

abbrev pub block_step : s.BlockNode-F (List ℕ) ℕ ℕ ℕ → ℕ
block_step b = suc (largest b.statements)

abbrev pub nesting_of_block : BlockNode (List ℕ) → ℕ
nesting_of_block = fold-BlockNode (List ℕ) ℕ ℕ ℕ statement_step block_step (λ n. n.what)

abbrev pub nesting_of_part : Part (List ℕ) → ℕ
nesting_of_part (top.Body b) = in_parentheses b.expr
nesting_of_part (top.Host h) = 1
nesting_of_part (top.Module m) = nesting_of_block m.block

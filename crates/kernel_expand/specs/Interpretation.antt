-- The expansion as a recursion over the linked tree: what a statement means, given what the kernel
-- statements mean at each position. A node that a row makes stands at the position of the derived statement,
-- one that joins the statements of a block at that of the block. (This project's own.)
use Rattle.std.specs.Prelude.{ℕ, Bool, true, false, Option, Some, None, List, [], ◌∷◌}
use Rattle.hh_base.specs.declared.value.Pos.{Pos}
use Rattle.host_expr.specs.declared.expr.Expr.{Expr}
use Rattle.module_tree.specs.declared.source.ExprAt.{ExprAt}
use Rattle.module_tree.specs.declared.source.SignalNode.{SignalNode}
use Rattle.module_tree.specs.declared.source.BlockNode.{BlockNode}
use Rattle.module_tree.specs.declared.source.StatementNode.{StatementNode}
use Rattle.module_tree.specs.declared.source.Statement.{Statement}
use Rattle.module_tree.specs.declared.source.Statement.TheOpen as s
use Rattle.module_tree.specs.declared.source.Statement.TheFolds.{fold-Statement, fold-StatementNode}
use Rattle.module_tree.specs.declared.source.Statement.TheFolds.{fold-BlockNode}
use Rattle.module_tree.specs.declared.source.Later.{Later}
use Rattle.module_tree.specs.declared.source.Later.TheVariants as later
use Rattle.module_tree.specs.declared.source.Delay.{Delay}
use Rattle.module_tree.specs.declared.source.Delay.TheVariants as delay
use Rattle.kernel_expand.specs.Operations.{Operations}
use Rattle.kernel_expand.specs.Rows as row

abbrev pub test_of : ExprAt ℕ → Expr ℕ
test_of x = x.expr

abbrev pub value_of : Option (ExprAt ℕ) → Option (Expr ℕ)
value_of None = None
value_of (Some x) = Some (test_of x)

-- the first signal outermost
abbrev pub locals : {X : Type 0} → Operations X → List SignalNode → X → X
locals k [] p = p
locals k (d ∷ ds) p = k.local d (locals k ds p)

abbrev pub otherwise : {X : Type 0} → Operations X → Option X → X
otherwise k None = k.nothing
otherwise k (Some q) = q

-- each row by the delay that the statement has
abbrev pub await : {X : Type 0} → Operations X → Delay ℕ → X
await k (delay.Later (later.Once x)) = row.await k (test_of x)
await k (delay.Later (later.Count n x)) = row.await_count k n (test_of x)
await k (delay.Immediate x) = row.await_immediate k (test_of x)

abbrev pub abort : {X : Type 0} → Operations X → Delay ℕ → X → X
abort k (delay.Later (later.Once x)) p = row.abort k (test_of x) p
abort k (delay.Later (later.Count n x)) p = row.abort_count k n (test_of x) p
abort k (delay.Immediate x) p = row.abort_immediate k (test_of x) p

abbrev pub weak_abort : {X : Type 0} → Operations X → Delay ℕ → X → X
weak_abort k (delay.Later (later.Once x)) p = row.weak_abort k (test_of x) p
weak_abort k (delay.Later (later.Count n x)) p = row.weak_abort_count k n (test_of x) p
weak_abort k (delay.Immediate x) p = row.weak_abort_immediate k (test_of x) p

abbrev pub suspend : {X : Type 0} → Operations X → Bool → Expr ℕ → X → X
suspend k false d p = k.suspend d p
suspend k true d p = row.suspend_immediate k d p

abbrev pub do_every : {X : Type 0} → Operations X → Later ℕ → X → X
do_every k (later.Once x) p = row.do_every k (test_of x) p
do_every k (later.Count n x) p = row.do_every_count k n (test_of x) p

abbrev pub every : {X : Type 0} → Operations X → Delay ℕ → X → X
every k (delay.Later (later.Once x)) p = row.every k (test_of x) p
every k (delay.Later (later.Count n x)) p = row.every_count k n (test_of x) p
every k (delay.Immediate x) p = row.every_immediate k (test_of x) p

-- by one layer: what a statement means by the operations at its position, with the meanings of its blocks in
-- their places
abbrev pub statement_means : {X Y Z : Type 0} → Operations X → s.Statement-F ℕ Y X Z → X
statement_means k s.Nothing = k.nothing
statement_means k s.Pause = k.pause
statement_means k s.Halt = row.halt k
statement_means k (s.Emit n x) = k.emit n.name (value_of x)
statement_means k (s.Sustain n x) = row.sustain k n.name (value_of x)
statement_means k (s.If x p q) = k.choice (test_of x) p (otherwise k q)
statement_means k (s.Loop p) = k.loop p
statement_means k (s.Fork ps) = row.forked k ps
statement_means k (s.Block p) = p
statement_means k (s.Await d) = await k d
statement_means k (s.Every d p) = every k d p
statement_means k (s.DoEvery p d) = do_every k d p
statement_means k (s.Abort d p) = abort k d p
statement_means k (s.WeakAbort d p) = weak_abort k d p
statement_means k (s.Suspend immediate x p) = suspend k immediate (test_of x) p
statement_means k (s.Signal sigs p) = locals k sigs p
statement_means k (s.Trap n p) = k.named_trap p
statement_means k (s.Break n) = k.leave n.name
statement_means k (s.Run n bindings) = k.run n.name bindings
statement_means k (s.Async a) = k.async a

-- the operations at each position
abbrev pub Kernel : Type 0 → Type 0
Kernel X = Pos → Operations X

abbrev pub statement_step : {X : Type 0} → Kernel X → s.Statement-F ℕ (Pos → X) X X → Pos → X
statement_step k what pos = statement_means (k pos) what

abbrev pub block_step : {X : Type 0} → Kernel X → s.BlockNode-F ℕ (Pos → X) X X → X
block_step k b = row.listed (k b.pos) b.statements

abbrev pub node_step : {X : Type 0} → s.StatementNode-F ℕ (Pos → X) X X → X
node_step n = n.what n.pos

-- what a statement, a statement at its position and a block mean
abbrev pub of_statement : {X : Type 0} → Kernel X → Statement ℕ → Pos → X
of_statement {X} k = fold-Statement ℕ (Pos → X) X X (statement_step k) (block_step k) node_step

abbrev pub of_node : {X : Type 0} → Kernel X → StatementNode ℕ → X
of_node {X} k = fold-StatementNode ℕ (Pos → X) X X (statement_step k) (block_step k) node_step

abbrev pub of_block : {X : Type 0} → Kernel X → BlockNode ℕ → X
of_block {X} k = fold-BlockNode ℕ (Pos → X) X X (statement_step k) (block_step k) node_step

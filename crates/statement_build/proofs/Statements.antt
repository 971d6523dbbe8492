-- What each statement means, by its blocks.
use Rattle.std.proofs.Common.{◌≡◌, ℕ, Bool, None, List, sym, ap, ◌∙◌}
use Rattle.hh_base.specs.declared.value.Pos.{Pos}
use Rattle.module_tree.specs.declared.source.ExprAt.{ExprAt}
use Rattle.module_tree.specs.declared.source.Delay.{Delay}
use Rattle.module_tree.specs.declared.source.BlockNode.{BlockNode}
use Rattle.module_tree.specs.declared.source.Statement.{Statement}
use Rattle.module_tree.specs.declared.source.Statement.TheVariants as v
use Rattle.module_tree.specs.declared.source.Statement.TheOpen as s
use Rattle.module_tree.specs.declared.source.Statement.TheFolds.{fold-roll-Statement}
use Rattle.kernel_expand.specs.Interpretation as tree
use Rattle.kernel_expand.specs.Interpretation.{Kernel, of_block, of_statement}

module _ {X : Type 0} (k : Kernel X) (pos : Pos) where
  abbrev of : Statement ℕ → X
  of what = of_statement k what pos

  pub then_is : (x : ExprAt ℕ) (p : BlockNode ℕ) → of (v.If x p None) ≡ (k pos).choice (tree.test_of x) (of_block k p) ((k pos).nothing)
  then_is x p = ap of (sym (v.rolls-If x p None))
      ∙ (λ i. fold-roll-Statement ℕ (Pos → X) X X (tree.statement_step k) (tree.block_step k) tree.node_step
      (s.If x p None) i pos)

  pub loop_is : (p : BlockNode ℕ) → of (v.Loop p) ≡ (k pos).loop (of_block k p)
  loop_is p = ap of (sym (v.rolls-Loop p))
      ∙ (λ i. fold-roll-Statement ℕ (Pos → X) X X (tree.statement_step k) (tree.block_step k) tree.node_step
      (s.Loop p) i pos)

  pub await_is : (d : Delay ℕ) → of (v.Await d) ≡ tree.await (k pos) d
  await_is d = ap of (sym (v.rolls-Await d))
      ∙ (λ i. fold-roll-Statement ℕ (Pos → X) X X (tree.statement_step k) (tree.block_step k) tree.node_step
      (s.Await d) i pos)

  pub every_is : (d : Delay ℕ) (p : BlockNode ℕ) → of (v.Every d p) ≡ tree.every (k pos) d (of_block k p)
  every_is d p = ap of (sym (v.rolls-Every d p))
      ∙ (λ i. fold-roll-Statement ℕ (Pos → X) X X (tree.statement_step k) (tree.block_step k) tree.node_step
      (s.Every d p) i pos)

  pub abort_is : (d : Delay ℕ) (p : BlockNode ℕ) → of (v.Abort d p) ≡ tree.abort (k pos) d (of_block k p)
  abort_is d p = ap of (sym (v.rolls-Abort d p))
      ∙ (λ i. fold-roll-Statement ℕ (Pos → X) X X (tree.statement_step k) (tree.block_step k) tree.node_step
      (s.Abort d p) i pos)

  pub weak_abort_is : (d : Delay ℕ) (p : BlockNode ℕ) → of (v.WeakAbort d p) ≡ tree.weak_abort (k pos) d (of_block k p)
  weak_abort_is d p = ap of (sym (v.rolls-WeakAbort d p))
      ∙ (λ i. fold-roll-Statement ℕ (Pos → X) X X (tree.statement_step k) (tree.block_step k) tree.node_step
      (s.WeakAbort d p) i pos)

  pub suspend_is : (now : Bool) (x : ExprAt ℕ) (p : BlockNode ℕ) → of (v.Suspend now x p) ≡ tree.suspend (k pos) now (tree.test_of x) (of_block k p)
  suspend_is now x p = ap of (sym (v.rolls-Suspend now x p))
      ∙ (λ i. fold-roll-Statement ℕ (Pos → X) X X (tree.statement_step k) (tree.block_step k) tree.node_step
      (s.Suspend now x p) i pos)

  pub trap_is : (n : List ℕ) (p : BlockNode ℕ) → of (v.Trap n p) ≡ (k pos).named_trap (of_block k p)
  trap_is n p = ap of (sym (v.rolls-Trap n p))
      ∙ (λ i. fold-roll-Statement ℕ (Pos → X) X X (tree.statement_step k) (tree.block_step k) tree.node_step
      (s.Trap n p) i pos)

-- Two meanings that correspond, over whole statements and blocks: where they correspond on the modules that
-- a block runs.
use Rattle.std.proofs.Common.{◌≡◌, ℕ, List, [], ◌∷◌, ◌++◌, map, Some, None, sym, ap, subst, ◌∙◌, append_assoc}
use Rattle.std.specs.List.{AllByRecursion, AllZip, flat_map}
use Rattle.hh_base.specs.declared.value.Pos.{Pos}
use Rattle.module_tree.specs.declared.source.Binding.{Binding}
use Rattle.module_tree.specs.declared.source.BlockNode.{BlockNode, roll-BlockNode}
use Rattle.module_tree.specs.declared.source.StatementNode.{StatementNode, roll-StatementNode}
use Rattle.module_tree.specs.declared.source.Statement.{Statement, roll-Statement}
use Rattle.module_tree.specs.declared.source.Statement.TheOpen as s
use Rattle.module_tree.specs.declared.source.Statement.TheFolds.{fold-Statement, fold-StatementNode}
use Rattle.module_tree.specs.declared.source.Statement.TheFolds.{fold-roll-Statement, fold-roll-StatementNode}
use Rattle.module_tree.specs.declared.source.Statement.TheFolds.{fold-roll-BlockNode, ind-BlockNode}
use Rattle.module_tree.specs.declared.source.Statement.TheFolds.{map-Statement, map-StatementNode}
use Rattle.module_tree.specs.declared.source.Statement.TheFolds.{map-BlockNode}
use Rattle.module_tree.specs.declared.source.Later.{Later}
use Rattle.module_tree.specs.declared.source.Later.TheVariants as later
use Rattle.module_tree.specs.declared.source.Delay.{Delay}
use Rattle.module_tree.specs.declared.source.Delay.TheVariants as delay
use Rattle.module_tree.specs.Scopes.{InScope, Declared}
use Rattle.module_tree.specs.Parts as parts
use Rattle.module_tree.specs.Parts.{Walk, Placed, block_walk}
use Rattle.module_tree.specs.Runs.{callee_of}
use Rattle.kernel_expand.specs.Rows as row
use Rattle.kernel_expand.specs.Interpretation as tree
use Rattle.kernel_expand.specs.Interpretation.{Kernel, of_statement, of_node, of_block, test_of, value_of}
use Rattle.kernel_expand.proofs.Alike as alike
use Rattle.kernel_expand.proofs.Alike.{Alike}

-- ---- the modules that parts run

abbrev pub callees : List (Placed ℕ) → List ℕ
callees = flat_map (λ (p : Placed ℕ). callee_of p.part)

abbrev pub Runs : (ℕ → Type 0) → List (Placed ℕ) → Type 0
Runs P ps = AllByRecursion P (callees ps)

all_first : (P : ℕ → Type 0) (xs ys : List ℕ) → AllByRecursion P (xs ++ ys) → AllByRecursion P xs
    × AllByRecursion P ys
all_first P [] ys h = (tt, h)
all_first P (x ∷ xs) ys h = let q = all_first P xs ys h.1 in ((h.0, q.0), q.1)

callees_joined : (ps qs : List (Placed ℕ)) → callees (ps ++ qs) ≡ callees ps ++ callees qs
callees_joined [] qs = λ i. callees qs
callees_joined (p ∷ ps) qs = ap (λ z. callee_of p.part ++ z) (callees_joined ps qs)
    ∙ sym (append_assoc (callee_of p.part) (callees ps) (callees qs))

runs_split : (P : ℕ → Type 0) (ps qs : List (Placed ℕ)) → Runs P (ps ++ qs) → Runs P ps × Runs P qs
runs_split P ps qs h = all_first P (callees ps) (callees qs)
    (subst (AllByRecursion P) (callees_joined ps qs) h)

abbrev statement_walk : Statement ℕ → Walk ℕ
statement_walk = fold-Statement ℕ (Walk ℕ) (Walk ℕ) (Walk ℕ) parts.statement_step parts.block_step
    (λ n. n.what)

abbrev node_walk : StatementNode ℕ → Walk ℕ
node_walk = fold-StatementNode ℕ (Walk ℕ) (Walk ℕ) (Walk ℕ) parts.statement_step parts.block_step
    (λ n. n.what)

abbrev Layer : Type 0
Layer = s.Statement-F ℕ (Statement ℕ) (BlockNode ℕ) (StatementNode ℕ)

module _ {X Y : Type 0} (R : X → Y → Type 0) (k : Kernel X) (l : Kernel Y) (P : ℕ → Type 0)
    (operations : (pos : Pos) → Alike R (k pos) (l pos))
    (runs : (pos : Pos) (m : ℕ) (bindings : List (Binding ℕ)) → P m
    → R ((k pos).run m bindings) ((l pos).run m bindings)) where
  abbrev IsAlike : Statement ℕ → Type 0
  IsAlike x = (pos : Pos) (scope : InScope) (before : Declared)
      → Runs P (statement_walk x scope before).parts → R (of_statement k x pos) (of_statement l x pos)

  abbrev IsAlikeNode : StatementNode ℕ → Type 0
  IsAlikeNode x = (scope : InScope) (before : Declared) → Runs P (node_walk x scope before).parts
      → R (of_node k x) (of_node l x)

  abbrev pub IsAlikeBlock : BlockNode ℕ → Type 0
  IsAlikeBlock x = (scope : InScope) (before : Declared) → Runs P (block_walk x scope before).parts
      → R (of_block k x) (of_block l x)

  abbrev What : Type 0
  What = (x : Statement ℕ) × IsAlike x

  abbrev Node : Type 0
  Node = (x : StatementNode ℕ) × IsAlikeNode x

  abbrev Block : Type 0
  Block = (x : BlockNode ℕ) × IsAlikeBlock x

  walks_in : Layer → s.Statement-F ℕ (Walk ℕ) (Walk ℕ) (Walk ℕ)
  walks_in = map-Statement ℕ (Statement ℕ) (BlockNode ℕ) (StatementNode ℕ) (Walk ℕ) (Walk ℕ)
      (Walk ℕ) statement_walk block_walk node_walk

  k_in : Layer → s.Statement-F ℕ (Pos → X) X X
  k_in = map-Statement ℕ (Statement ℕ) (BlockNode ℕ) (StatementNode ℕ) (Pos → X) X X (of_statement k)
      (of_block k) (of_node k)

  l_in : Layer → s.Statement-F ℕ (Pos → Y) Y Y
  l_in = map-Statement ℕ (Statement ℕ) (BlockNode ℕ) (StatementNode ℕ) (Pos → Y) Y Y (of_statement l)
      (of_block l) (of_node l)

  by_layer : (y : Layer) → ((pos : Pos) (scope : InScope) (before : Declared)
      → Runs P (parts.statement_step (walks_in y) scope before).parts
      → R (tree.statement_means (k pos) (k_in y)) (tree.statement_means (l pos) (l_in y)))
      → IsAlike (roll-Statement ℕ y)
  unfolding walks_in k_in l_in
  by_layer y f pos scope before h =
      let walked = fold-roll-Statement ℕ (Walk ℕ) (Walk ℕ) (Walk ℕ) parts.statement_step parts.block_step
      (λ n. n.what) y in
      let left = fold-roll-Statement ℕ (Pos → X) X X (tree.statement_step k) (tree.block_step k)
      tree.node_step y in
      let right = fold-roll-Statement ℕ (Pos → Y) Y Y (tree.statement_step l) (tree.block_step l)
      tree.node_step y in
      subst (λ (z : Pos → X). R (z pos) (of_statement l (roll-Statement ℕ y) pos)) (sym left)
      (subst (λ (z : Pos → Y). R (tree.statement_means (k pos) (k_in y)) (z pos)) (sym right)
      (f pos scope before (subst (λ (z : Walk ℕ). Runs P (z scope before).parts) walked h)))

  branches : (bs : List Block) (scope : InScope) (before : Declared)
      → Runs P (parts.in_order (map block_walk (map (λ b. b.0) bs)) scope before).parts
      → AllZip R (map (of_block k) (map (λ b. b.0) bs)) (map (of_block l) (map (λ b. b.0) bs))
  branches [] scope before h = tt
  branches (b ∷ bs) scope before h =
      let first = block_walk b.0 scope before in
      let q = runs_split P first.parts (parts.in_order (map block_walk (map (λ b. b.0) bs)) scope
      first.after).parts h in
      (b.1 scope before q.0, branches bs scope first.after q.1)

  statements : (ns : List Node) (scope : InScope) (before : Declared)
      → Runs P (parts.in_order (map node_walk (map (λ n. n.0) ns)) scope before).parts
      → AllZip R (map (of_node k) (map (λ n. n.0) ns)) (map (of_node l) (map (λ n. n.0) ns))
  statements [] scope before h = tt
  statements (n ∷ ns) scope before h =
      let first = node_walk n.0 scope before in
      let q = runs_split P first.parts (parts.in_order (map node_walk (map (λ n. n.0) ns)) scope
      first.after).parts h in
      (n.1 scope before q.0, statements ns scope first.after q.1)

  -- a block behind or before a delay, which runs nothing
  behind_delay : (d : Delay ℕ) (b : Block) (scope : InScope) (before : Declared)
      → Runs P (parts.then (parts.delay_walk d) (block_walk b.0) scope before).parts
      → R (of_block k b.0) (of_block l b.0)
  behind_delay (delay.Later (later.Once x)) b scope before h = b.1 scope before h
  behind_delay (delay.Later (later.Count n x)) b scope before h = b.1 scope before h
  behind_delay (delay.Immediate x) b scope before h = b.1 scope before h

  before_plain : (d : Later ℕ) (b : Block) (scope : InScope) (before : Declared)
      → Runs P (parts.then (block_walk b.0) (parts.plain_walk d) scope before).parts
      → R (of_block k b.0) (of_block l b.0)
  before_plain d b scope before h = b.1 scope before
      (runs_split P (block_walk b.0 scope before).parts
      (parts.plain_walk d scope (block_walk b.0 scope before).after).parts h).0

  statement_alike : (y : s.Statement-F ℕ What Block Node)
      → IsAlike (roll-Statement ℕ (map-Statement ℕ What Block Node (Statement ℕ) (BlockNode ℕ)
      (StatementNode ℕ) (λ n. n.0) (λ n. n.0) (λ n. n.0) y))
  unfolding walks_in k_in l_in
  statement_alike s.Nothing = by_layer s.Nothing (λ pos scope before h. (operations pos).nothing)
  statement_alike s.Pause = by_layer s.Pause (λ pos scope before h. (operations pos).pause)
  statement_alike s.Halt = by_layer s.Halt (λ pos scope before h. alike.halt R (k pos) (l pos)
      (operations pos))
  statement_alike (s.Emit n x) = by_layer (s.Emit n x)
      (λ pos scope before h. (operations pos).emit n.name (value_of x))
  statement_alike (s.Sustain n x) = by_layer (s.Sustain n x)
      (λ pos scope before h. alike.sustain R (k pos) (l pos) (operations pos) n.name (value_of x))
  statement_alike (s.If x p None) =
      by_layer (s.If x p.0 None)
      (λ pos scope before h. let q = runs_split P (block_walk p.0 scope before).parts [] h in
      (operations pos).choice (test_of x) _ _ _ _ (p.1 scope before q.0) (operations pos).nothing)
  statement_alike (s.If x p (Some o)) =
      by_layer (s.If x p.0 (Some o.0))
      (λ pos scope before h.
      let first = block_walk p.0 scope before in
      let q = runs_split P first.parts (block_walk o.0 scope first.after).parts h in
      (operations pos).choice (test_of x) _ _ _ _ (p.1 scope before q.0) (o.1 scope first.after q.1))
  statement_alike (s.Loop p) = by_layer (s.Loop p.0)
      (λ pos scope before h. (operations pos).loop _ _ (p.1 scope before h))
  statement_alike (s.Fork ps) =
      by_layer (s.Fork (map (λ b. b.0) ps))
      (λ pos scope before h. alike.forked R (k pos) (l pos) (operations pos)
      (map (of_block k) (map (λ b. b.0) ps)) (map (of_block l) (map (λ b. b.0) ps))
      (branches ps scope before h))
  statement_alike (s.Block p) = by_layer (s.Block p.0) (λ pos scope before h. p.1 scope before h)
  statement_alike (s.Await d) = by_layer (s.Await d)
      (λ pos scope before h. alike.await R (k pos) (l pos) (operations pos) d)
  statement_alike (s.Every d p) = by_layer (s.Every d p.0)
      (λ pos scope before h. alike.every R (k pos) (l pos) (operations pos) d _ _
      (behind_delay d p scope before h))
  statement_alike (s.DoEvery p d) = by_layer (s.DoEvery p.0 d)
      (λ pos scope before h. alike.do_every R (k pos) (l pos) (operations pos) d _ _
      (before_plain d p scope before h))
  statement_alike (s.Abort d p) = by_layer (s.Abort d p.0)
      (λ pos scope before h. alike.abort R (k pos) (l pos) (operations pos) d _ _
      (behind_delay d p scope before h))
  statement_alike (s.WeakAbort d p) = by_layer (s.WeakAbort d p.0)
      (λ pos scope before h. alike.weak_abort R (k pos) (l pos) (operations pos) d _ _
      (behind_delay d p scope before h))
  statement_alike (s.Suspend i x p) = by_layer (s.Suspend i x p.0)
      (λ pos scope before h. alike.suspend R (k pos) (l pos) (operations pos) i (test_of x) _ _
      (p.1 scope before h))
  statement_alike (s.Signal sigs p) = by_layer (s.Signal sigs p.0)
      (λ pos scope before h. alike.locals R (k pos) (l pos) (operations pos) sigs _ _ (p.1 _ _ h))
  statement_alike (s.Trap n p) = by_layer (s.Trap n p.0)
      (λ pos scope before h. (operations pos).named_trap _ _ (p.1 _ _ h))
  statement_alike (s.Break n) = by_layer (s.Break n) (λ pos scope before h. (operations pos).leave n.name)
  statement_alike (s.Run n bindings) = by_layer (s.Run n bindings)
      (λ pos scope before h. runs pos n.name bindings h.0)
  statement_alike (s.Async a) = by_layer (s.Async a) (λ pos scope before h. (operations pos).async a)

  block_alike : (y : s.BlockNode-F ℕ What Block Node)
      → IsAlikeBlock (roll-BlockNode ℕ (map-BlockNode ℕ What Block Node (Statement ℕ) (BlockNode ℕ)
      (StatementNode ℕ) (λ n. n.0) (λ n. n.0) (λ n. n.0) y))
  block_alike y scope before h =
      let x : s.BlockNode-F ℕ (Statement ℕ) (BlockNode ℕ) (StatementNode ℕ) =
      record { pos = y.pos; statements = map (λ n. n.0) y.statements } in
      let walked = fold-roll-BlockNode ℕ (Walk ℕ) (Walk ℕ) (Walk ℕ) parts.statement_step parts.block_step
      (λ n. n.what) x in
      let left = fold-roll-BlockNode ℕ (Pos → X) X X (tree.statement_step k) (tree.block_step k)
      tree.node_step x in
      let right = fold-roll-BlockNode ℕ (Pos → Y) Y Y (tree.statement_step l) (tree.block_step l)
      tree.node_step x in
      let inner = statements y.statements scope before
      (subst (λ (z : Walk ℕ). Runs P (z scope before).parts) walked h) in
      subst (λ z. R z (of_block l (roll-BlockNode ℕ x))) (sym left)
      (subst (λ z. R (row.listed (k y.pos) (map (of_node k) (map (λ n. n.0) y.statements))) z) (sym right)
      (alike.listed R (k y.pos) (l y.pos) (operations y.pos)
      (map (of_node k) (map (λ n. n.0) y.statements)) (map (of_node l) (map (λ n. n.0) y.statements))
      inner))

  node_alike : (y : s.StatementNode-F ℕ What Block Node)
      → IsAlikeNode (roll-StatementNode ℕ (map-StatementNode ℕ What Block Node (Statement ℕ) (BlockNode ℕ)
      (StatementNode ℕ) (λ n. n.0) (λ n. n.0) (λ n. n.0) y))
  node_alike y scope before h =
      let x : s.StatementNode-F ℕ (Statement ℕ) (BlockNode ℕ) (StatementNode ℕ) =
      record { pos = y.pos; what = y.what.0 } in
      let walked = fold-roll-StatementNode ℕ (Walk ℕ) (Walk ℕ) (Walk ℕ) parts.statement_step
      parts.block_step (λ n. n.what) x in
      let left = fold-roll-StatementNode ℕ (Pos → X) X X (tree.statement_step k) (tree.block_step k)
      tree.node_step x in
      let right = fold-roll-StatementNode ℕ (Pos → Y) Y Y (tree.statement_step l) (tree.block_step l)
      tree.node_step x in
      subst (λ z. R z (of_node l (roll-StatementNode ℕ x))) (sym left)
      (subst (λ z. R (of_statement k y.what.0 y.pos) z) (sym right)
      (y.what.1 y.pos scope before (subst (λ (z : Walk ℕ). Runs P (z scope before).parts) walked h)))

  -- a block means what corresponds
  pub blocks_alike : (b : BlockNode ℕ) → IsAlikeBlock b
  blocks_alike =
      ind-BlockNode ℕ IsAlike IsAlikeBlock IsAlikeNode
      (λ x y is. subst (λ (z : Layer). IsAlike (roll-Statement ℕ z)) is (statement_alike y))
      (λ x y is. subst (λ (z : s.BlockNode-F ℕ (Statement ℕ) (BlockNode ℕ) (StatementNode ℕ)). IsAlikeBlock
      (roll-BlockNode ℕ z)) is (block_alike y))
      (λ x y is. subst (λ (z : s.StatementNode-F ℕ (Statement ℕ) (BlockNode ℕ) (StatementNode ℕ)).
      IsAlikeNode (roll-StatementNode ℕ z)) is (node_alike y))

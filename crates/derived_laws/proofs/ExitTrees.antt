-- Each block of a linked text leaves no trap of a row round it.
use Rattle.std.proofs.Common.{◌≡◌, ℕ, zero, suc, true, false, List, [], ◌∷◌, ◌++◌, length, map, Some, None}
use Rattle.std.proofs.Common.{Option, refl, sym, subst}
use Rattle.std.specs.Prelude.{◌&&◌, slice_get, is_some}
use Rattle.std.specs.List.{AllByRecursion, list_all}
use Rattle.hh_base.specs.declared.value.Pos.{Pos}
use Rattle.module_tree.specs.declared.source.NameAt.{NameAt}
use Rattle.module_tree.specs.declared.source.ModuleNode.{ModuleNode}
use Rattle.module_tree.specs.declared.source.Part.{Part}
use Rattle.module_tree.specs.declared.source.BlockNode.{BlockNode, roll-BlockNode}
use Rattle.module_tree.specs.declared.source.StatementNode.{StatementNode, roll-StatementNode}
use Rattle.module_tree.specs.declared.source.Statement.{Statement, roll-Statement}
use Rattle.module_tree.specs.declared.source.Statement.TheOpen as s
use Rattle.module_tree.specs.declared.source.Statement.TheFolds.{fold-Statement, fold-StatementNode}
use Rattle.module_tree.specs.declared.source.Statement.TheFolds.{fold-roll-Statement, fold-roll-StatementNode}
use Rattle.module_tree.specs.declared.source.Statement.TheFolds.{fold-roll-BlockNode, ind-BlockNode}
use Rattle.module_tree.specs.declared.source.Statement.TheFolds.{map-Statement, map-StatementNode}
use Rattle.module_tree.specs.declared.source.Statement.TheFolds.{map-BlockNode}
use Rattle.module_tree.specs.declared.source.Later.{Later}
use Rattle.module_tree.specs.declared.source.Later.TheVariants as later
use Rattle.module_tree.specs.declared.source.Delay.{Delay}
use Rattle.module_tree.specs.declared.source.Delay.TheVariants as delay
use Rattle.module_tree.specs.Callables.{modules_of}
use Rattle.module_tree.specs.Scopes.{InScope, Declared, interface_signals, signal_at}
use Rattle.module_tree.specs.Parts as parts
use Rattle.module_tree.specs.Parts.{Walk, Walked, Placed, block_walk, parts_of, signals_named, parameters_named}
use Rattle.module_tree.specs.LinkedFacts.{IsLinked, Known, known_in, is_in_scope, refers, no_more}
use Rattle.hh_term.specs.Scopes.{ExitsFit}
use Rattle.hh_term.specs.Placed.{unplaced}
use Rattle.hh_term.specs.Placed as placed
use Rattle.kernel_expand.specs.Modules.{of_module, body_means}
use Rattle.kernel_expand.specs.Interpretation as tree
use Rattle.kernel_expand.specs.Interpretation.{Kernel, of_statement, of_node, of_block, test_of, value_of}
use Rattle.kernel_expand.specs.Numbering.{Piece, Around, Numbered, numbering, no_traps, number_of, value_in_numbers}
use Rattle.kernel_expand.specs.Expansion.{no_module}
use Rattle.kernel_expand.proofs.Replaced.{both_all}
use Rattle.kernel_expand.proofs.Progress.{both_true}
use Rattle.derived_laws.specs.Bodies.{NeverExits, Opened, block_piece}
use Rattle.derived_laws.proofs.ExitRows as row
use Rattle.derived_laws.proofs.ExitRows.{Safe}
use Rattle.derived_laws.proofs.NamedModules.{in_module}

-- a `break` is inside its trap
abbrev Refers : Known → Placed ℕ → Type 0
Refers known p = refers known p.scope p.part ≡ true

module _ (known : Known) (modules : ℕ → Piece)
    (runs : (i : ℕ) (n : Numbered) → n.traps ≡ 0 → ExitsFit 0 (unplaced (modules i no_traps n).0)) where
  abbrev k : Kernel Piece
  k = numbering modules

  abbrev Holds : List (Placed ℕ) → Type 0
  Holds = AllByRecursion (Refers known)

  abbrev Met : Piece → InScope → Declared → Declared → Type 0
  Met p scope before after = Safe false scope.traps before.traps after.traps p

  split : (ps qs : List (Placed ℕ)) → Holds (ps ++ qs) → Holds ps × Holds qs
  split ps qs h = both_all (Refers known) ps qs h

  abbrev statement_walk : Statement ℕ → Walk ℕ
  statement_walk = fold-Statement ℕ (Walk ℕ) (Walk ℕ) (Walk ℕ) parts.statement_step parts.block_step
      (λ n. n.what)

  abbrev node_walk : StatementNode ℕ → Walk ℕ
  node_walk = fold-StatementNode ℕ (Walk ℕ) (Walk ℕ) (Walk ℕ) parts.statement_step parts.block_step
      (λ n. n.what)

  abbrev Layer : Type 0
  Layer = s.Statement-F ℕ (Statement ℕ) (BlockNode ℕ) (StatementNode ℕ)

  abbrev IsMet : Statement ℕ → Type 0
  IsMet x = (pos : Pos) (scope : InScope) (before : Declared) → Holds (statement_walk x scope before).parts
      → Met (of_statement k x pos) scope before (statement_walk x scope before).after

  abbrev IsMetNode : StatementNode ℕ → Type 0
  IsMetNode x = (scope : InScope) (before : Declared) → Holds (node_walk x scope before).parts
      → Met (of_node k x) scope before (node_walk x scope before).after

  abbrev pub IsMetBlock : BlockNode ℕ → Type 0
  IsMetBlock x = (scope : InScope) (before : Declared) → Holds (block_walk x scope before).parts
      → Met (of_block k x) scope before (block_walk x scope before).after

  abbrev What : Type 0
  What = (x : Statement ℕ) × IsMet x

  abbrev Node : Type 0
  Node = (x : StatementNode ℕ) × IsMetNode x

  abbrev Block : Type 0
  Block = (x : BlockNode ℕ) × IsMetBlock x

  walks_in : Layer → s.Statement-F ℕ (Walk ℕ) (Walk ℕ) (Walk ℕ)
  walks_in = map-Statement ℕ (Statement ℕ) (BlockNode ℕ) (StatementNode ℕ) (Walk ℕ) (Walk ℕ)
      (Walk ℕ) statement_walk block_walk node_walk

  k_in : Layer → s.Statement-F ℕ (Pos → Piece) Piece Piece
  k_in = map-Statement ℕ (Statement ℕ) (BlockNode ℕ) (StatementNode ℕ) (Pos → Piece) Piece Piece
      (of_statement k) (of_block k) (of_node k)

  by_layer : (y : Layer) → ((pos : Pos) (scope : InScope) (before : Declared)
      → Holds (parts.statement_step (walks_in y) scope before).parts
      → Met (tree.statement_means (k pos) (k_in y)) scope before
      (parts.statement_step (walks_in y) scope before).after) → IsMet (roll-Statement ℕ y)
  unfolding walks_in k_in
  by_layer y g pos scope before h =
      let walked = fold-roll-Statement ℕ (Walk ℕ) (Walk ℕ) (Walk ℕ) parts.statement_step parts.block_step
      (λ n. n.what) y in
      let meant = fold-roll-Statement ℕ (Pos → Piece) Piece Piece (tree.statement_step k) (tree.block_step k)
      tree.node_step y in
      subst (λ (z : Pos → Piece). Met (z pos) scope before (statement_walk (roll-Statement ℕ y) scope before).after)
      (sym meant)
      (subst (λ (z : Walk ℕ). Met (tree.statement_means (k pos) (k_in y)) scope before (z scope before).after)
      (sym walked)
      (g pos scope before (subst (λ (z : Walk ℕ). Holds (z scope before).parts) walked h)))

  branches : (pos : Pos) (bs : List Block) (scope : InScope) (before : Declared)
      → Holds (parts.in_order (map block_walk (map (λ b. b.0) bs)) scope before).parts
      → row.Along modules pos scope.traps false before.traps (map (of_block k) (map (λ b. b.0) bs))
      (parts.in_order (map block_walk (map (λ b. b.0) bs)) scope before).after.traps
  branches pos [] scope before h = refl
  branches pos (b ∷ bs) scope before h =
      let first = block_walk b.0 scope before in
      let others = parts.in_order (map block_walk (map (λ b. b.0) bs)) scope first.after in
      let q = split first.parts others.parts h in
      (first.after.traps, b.1 scope before q.0, branches pos bs scope first.after q.1)

  statements : (pos : Pos) (ns : List Node) (scope : InScope) (before : Declared)
      → Holds (parts.in_order (map node_walk (map (λ n. n.0) ns)) scope before).parts
      → row.Along modules pos scope.traps false before.traps (map (of_node k) (map (λ n. n.0) ns))
      (parts.in_order (map node_walk (map (λ n. n.0) ns)) scope before).after.traps
  statements pos [] scope before h = refl
  statements pos (n ∷ ns) scope before h =
      let first = node_walk n.0 scope before in
      let others = parts.in_order (map node_walk (map (λ n. n.0) ns)) scope first.after in
      let q = split first.parts others.parts h in
      (first.after.traps, n.1 scope before q.0, statements pos ns scope first.after q.1)

  -- a delay before a block
  behind_delay : (d : Delay ℕ) (b : Block) (scope : InScope) (before : Declared)
      → Holds (parts.then (parts.delay_walk d) (block_walk b.0) scope before).parts
      → Met (of_block k b.0) scope before (parts.then (parts.delay_walk d) (block_walk b.0) scope before).after
  behind_delay (delay.Later (later.Once x)) b scope before h = b.1 scope before h.1
  behind_delay (delay.Later (later.Count n x)) b scope before h = b.1 scope before h.1.1
  behind_delay (delay.Immediate x) b scope before h = b.1 scope before h.1

  later_stays : (d : Later ℕ) (scope : InScope) (before : Declared)
      → (parts.plain_walk d scope before).after ≡ before
  later_stays (later.Once x) scope before = refl
  later_stays (later.Count n x) scope before = refl

  delay_stays : (d : Delay ℕ) (scope : InScope) (before : Declared)
      → (parts.delay_walk d scope before).after ≡ before
  delay_stays (delay.Later d) scope before = later_stays d scope before
  delay_stays (delay.Immediate x) scope before = refl

  leaf : (scope : InScope) (before : Declared) (t : Numbered → placed.Placed)
      → ((n : Numbered) (l : ℕ) → ExitsFit l (unplaced (t n)))
      → ((n : Numbered) (j : ℕ) → NeverExits j (unplaced (t n))) → Met (λ a n. (t n, n)) scope before before
  leaf scope before t f g = row.leaf modules (record { 0 = 0 }) scope.traps false before.traps t f g

  statement_met : (y : s.Statement-F ℕ What Block Node)
      → IsMet (roll-Statement ℕ (map-Statement ℕ What Block Node (Statement ℕ) (BlockNode ℕ)
      (StatementNode ℕ) (λ n. n.0) (λ n. n.0) (λ n. n.0) y))
  unfolding walks_in k_in
  statement_met s.Nothing = by_layer s.Nothing
      (λ pos scope before h. leaf scope before (λ n. placed.Nothing pos) (λ n l. tt) (λ n j. tt))
  statement_met s.Pause = by_layer s.Pause
      (λ pos scope before h. leaf scope before (λ n. placed.Pause pos) (λ n l. tt) (λ n j. tt))
  statement_met s.Halt = by_layer s.Halt
      (λ pos scope before h. row.halt_safe modules pos scope.traps false before.traps)
  statement_met (s.Emit n x) = by_layer (s.Emit n x)
      (λ pos scope before h. leaf scope before
      (λ m. placed.Emit pos (number_of m n.name) (value_in_numbers m (value_of x))) (λ n l. tt) (λ n j. tt))
  statement_met (s.Sustain n x) = by_layer (s.Sustain n x)
      (λ pos scope before h. leaf scope before
      (λ m. placed.Loop pos (placed.Seq pos (placed.Emit pos (number_of m n.name) (value_in_numbers m (value_of x)))
      (placed.Pause pos))) (λ n l. (tt, tt)) (λ n j. (tt, tt)))
  statement_met (s.If x p None) =
      by_layer (s.If x p.0 None)
      (λ pos scope before h.
      let w = block_walk p.0 scope before in
      let q = split w.parts [] h.1 in
      row.choice_safe modules pos scope.traps false before.traps w.after.traps w.after.traps (test_of x)
      (of_block k p.0) (k pos).nothing (p.1 scope before q.0)
      (leaf scope w.after (λ n. placed.Nothing pos) (λ n l. tt) (λ n j. tt)))
  statement_met (s.If x p (Some o)) =
      by_layer (s.If x p.0 (Some o.0))
      (λ pos scope before h.
      let w = block_walk p.0 scope before in
      let v = block_walk o.0 scope w.after in
      let q = split w.parts v.parts h.1 in
      row.choice_safe modules pos scope.traps false before.traps w.after.traps v.after.traps (test_of x)
      (of_block k p.0) (of_block k o.0) (p.1 scope before q.0) (o.1 scope w.after q.1))
  statement_met (s.Loop p) = by_layer (s.Loop p.0)
      (λ pos scope before h. row.loop_safe modules pos scope.traps false before.traps
      (block_walk p.0 scope before).after.traps (of_block k p.0) (p.1 scope before h))
  statement_met (s.Fork ps) =
      by_layer (s.Fork (map (λ b. b.0) ps))
      (λ pos scope before h. row.forked_safe modules pos scope.traps false before.traps
      (parts.in_order (map block_walk (map (λ b. b.0) ps)) scope before).after.traps
      (map (of_block k) (map (λ b. b.0) ps)) (branches pos ps scope before h))
  statement_met (s.Block p) = by_layer (s.Block p.0) (λ pos scope before h. p.1 scope before h)
  statement_met (s.Await d) =
      by_layer (s.Await d)
      (λ pos scope before h.
      subst (λ (z : Declared). Met (tree.await (k pos) d) scope before z) (sym (delay_stays d scope before))
      (row.await_safe modules pos scope.traps false before.traps d))
  statement_met (s.Every d p) =
      by_layer (s.Every d p.0)
      (λ pos scope before h. row.every_safe modules pos scope.traps false before.traps
      (parts.then (parts.delay_walk d) (block_walk p.0) scope before).after.traps d (of_block k p.0)
      (behind_delay d p scope before h))
  statement_met (s.DoEvery p d) =
      by_layer (s.DoEvery p.0 d)
      (λ pos scope before h.
      let w = block_walk p.0 scope before in
      let q = split w.parts (parts.plain_walk d scope w.after).parts h in
      subst (λ (z : Declared). Met (tree.do_every (k pos) d (of_block k p.0)) scope before z)
      (sym (later_stays d scope w.after))
      (row.do_every_safe modules pos scope.traps false before.traps w.after.traps d (of_block k p.0)
      (p.1 scope before q.0)))
  statement_met (s.Abort d p) =
      by_layer (s.Abort d p.0)
      (λ pos scope before h. row.abort_safe modules pos scope.traps false before.traps
      (parts.then (parts.delay_walk d) (block_walk p.0) scope before).after.traps d (of_block k p.0)
      (behind_delay d p scope before h))
  statement_met (s.WeakAbort d p) =
      by_layer (s.WeakAbort d p.0)
      (λ pos scope before h. row.weak_abort_safe modules pos scope.traps false before.traps
      (parts.then (parts.delay_walk d) (block_walk p.0) scope before).after.traps d (of_block k p.0)
      (behind_delay d p scope before h))
  statement_met (s.Suspend i x p) =
      by_layer (s.Suspend i x p.0)
      (λ pos scope before h. row.suspended_safe modules pos scope.traps before.traps
      (block_walk p.0 scope before).after.traps i (test_of x) (of_block k p.0) (p.1 scope before h.1))
  statement_met (s.Signal sigs p) =
      by_layer (s.Signal sigs p.0)
      (λ pos scope before h.
      let w = parts.locals_walk sigs (block_walk p.0) scope before in
      row.locals_safe modules pos scope.traps before.traps w.after.traps sigs (of_block k p.0) (p.1 _ _ h.1))
  statement_met (s.Trap n p) =
      by_layer (s.Trap n p.0)
      (λ pos scope before h.
      row.named_trap_safe modules pos scope.traps before.traps (parts.trap_walk n (block_walk p.0) scope before).after.traps
      n (of_block k p.0) (p.1 _ _ h))
  statement_met (s.Break n) = by_layer (s.Break n)
      (λ pos scope before h. row.leave_safe modules pos scope.traps before.traps n.name h.0)
  statement_met (s.Run n bindings) = by_layer (s.Run n bindings)
      (λ pos scope before h. row.run_safe modules pos scope.traps before.traps n.name bindings (runs n.name))
  statement_met (s.Async a) = by_layer (s.Async a)
      (λ pos scope before h b n e o r. record { traps = e; fits = tt; never = λ j at le. tt })

  block_met : (y : s.BlockNode-F ℕ What Block Node)
      → IsMetBlock (roll-BlockNode ℕ (map-BlockNode ℕ What Block Node (Statement ℕ) (BlockNode ℕ)
      (StatementNode ℕ) (λ n. n.0) (λ n. n.0) (λ n. n.0) y))
  block_met y scope before h =
      let x : s.BlockNode-F ℕ (Statement ℕ) (BlockNode ℕ) (StatementNode ℕ) =
      record { pos = y.pos; statements = map (λ n. n.0) y.statements } in
      let walked = fold-roll-BlockNode ℕ (Walk ℕ) (Walk ℕ) (Walk ℕ) parts.statement_step parts.block_step
      (λ n. n.what) x in
      let meant = fold-roll-BlockNode ℕ (Pos → Piece) Piece Piece (tree.statement_step k) (tree.block_step k)
      tree.node_step x in
      let after = (parts.in_order (map node_walk (map (λ n. n.0) y.statements)) scope before).after in
      let rs = map (of_node k) (map (λ n. n.0) y.statements) in
      let inner : Met (tree.block_step k (record { pos = y.pos; statements = rs })) scope before after =
      row.listed_safe modules y.pos scope.traps false before.traps after.traps rs
      (statements y.pos y.statements scope before (subst (λ (z : Walk ℕ). Holds (z scope before).parts) walked h)) in
      subst (λ z. Met z scope before (block_walk (roll-BlockNode ℕ x) scope before).after) (sym meant)
      (subst (λ (z : Walk ℕ). Met (tree.block_step k (record { pos = y.pos; statements = rs })) scope before
      (z scope before).after) (sym walked) inner)

  node_met : (y : s.StatementNode-F ℕ What Block Node)
      → IsMetNode (roll-StatementNode ℕ (map-StatementNode ℕ What Block Node (Statement ℕ) (BlockNode ℕ)
      (StatementNode ℕ) (λ n. n.0) (λ n. n.0) (λ n. n.0) y))
  node_met y scope before h =
      let x : s.StatementNode-F ℕ (Statement ℕ) (BlockNode ℕ) (StatementNode ℕ) =
      record { pos = y.pos; what = y.what.0 } in
      let walked = fold-roll-StatementNode ℕ (Walk ℕ) (Walk ℕ) (Walk ℕ) parts.statement_step
      parts.block_step (λ n. n.what) x in
      let meant = fold-roll-StatementNode ℕ (Pos → Piece) Piece Piece (tree.statement_step k)
      (tree.block_step k) tree.node_step x in
      subst (λ z. Met z scope before (node_walk (roll-StatementNode ℕ x) scope before).after) (sym meant)
      (subst (λ (z : Walk ℕ). Met (of_statement k y.what.0 y.pos) scope before (z scope before).after) (sym walked)
      (y.what.1 y.pos scope before (subst (λ (z : Walk ℕ). Holds (z scope before).parts) walked h)))

  pub blocks_met : (b : BlockNode ℕ) → IsMetBlock b
  blocks_met =
      ind-BlockNode ℕ IsMet IsMetBlock IsMetNode
      (λ x y is. subst (λ (z : Layer). IsMet (roll-Statement ℕ z)) is (statement_met y))
      (λ x y is. subst (λ (z : s.BlockNode-F ℕ (Statement ℕ) (BlockNode ℕ) (StatementNode ℕ)). IsMetBlock
      (roll-BlockNode ℕ z)) is (block_met y))
      (λ x y is. subst (λ (z : s.StatementNode-F ℕ (Statement ℕ) (BlockNode ℕ) (StatementNode ℕ)).
      IsMetNode (roll-StatementNode ℕ z)) is (node_met y))

-- ---- modules of a linked text

in_scope_refers : (known : Known) (ps : List (Placed ℕ)) → AllByRecursion (λ p. is_in_scope known p ≡ true) ps
    → AllByRecursion (Refers known) ps
in_scope_refers known [] h = tt
in_scope_refers known (p ∷ ps) h = (
  (both_true (list_all (λ (n : NameAt ℕ). is_some (signal_at p.scope n.name)) (signals_named p.part)
      && no_more (parameters_named p.part)) (refers known p.scope p.part) h.0).1,
  in_scope_refers known ps h.1,
)

module _ (parts : List (Part ℕ)) (linked : IsLinked parts) where
  body_fits : (modules : ℕ → Piece)
      → ((i : ℕ) (n : Numbered) → n.traps ≡ 0 → ExitsFit 0 (unplaced (modules i no_traps n).0)) → (i : ℕ)
      (o : Option (ModuleNode ℕ)) → slice_get (modules_of parts) i ≡ o → (n : Numbered) → n.traps ≡ 0
      → ExitsFit 0 (unplaced (body_means (numbering modules) no_module o no_traps n).0)
  body_fits modules runs i None at n e = tt
  body_fits modules runs i (Some m) at n e =
      let scope : InScope = record { signals = interface_signals m.interface; traps = [] } in
      let before : Declared = record { signals = length m.interface; traps = 0 } in
      (blocks_met (known_in parts m) modules runs m.block scope before
      (in_scope_refers (known_in parts m) (parts_of m) (in_module parts linked is_in_scope linked.scopes i m at))
      no_traps n e tt (λ f. absurd (let no : ⊥ = cc in no))).fits

  modules_fit : (deep i : ℕ) (n : Numbered) → n.traps ≡ 0
      → ExitsFit 0 (unplaced (of_module numbering no_module (modules_of parts) deep i no_traps n).0)
  unfolding of_module
  modules_fit zero i n e = tt
  modules_fit (suc deep) i n e =
      body_fits (of_module numbering no_module (modules_of parts) deep) (modules_fit deep) i
      (slice_get (modules_of parts) i) refl n e

  pub block_never : (deep : ℕ) (m : ModuleNode ℕ) (b : BlockNode ℕ) (scope : InScope) (before : Declared)
      → AllByRecursion (λ p. is_in_scope (known_in parts m) p ≡ true) (block_walk b scope before).parts
      → (a : Around) (n : Numbered) → n.traps ≡ before.traps → Opened scope.traps a
      → slice_get a.traps 0 ≡ Some None
      → NeverExits 0 (unplaced (block_piece (modules_of parts) deep b a n).0)
  block_never deep m b scope before seen a n e o at =
      (blocks_met (known_in parts m) (of_module numbering no_module (modules_of parts) deep) (modules_fit deep) b scope
      before (in_scope_refers (known_in parts m) (block_walk b scope before).parts seen) a n e o
      (λ f. absurd (let no : ⊥ = cc in no))).never 0 at (λ f. absurd (let no : ⊥ = cc in no))

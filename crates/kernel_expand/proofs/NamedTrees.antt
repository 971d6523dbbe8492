-- The signals that a block declares when it is expanded have the names of their positions.
use Rattle.std.proofs.Common.{◌≡◌, ℕ, zero, suc, List, [], ◌∷◌, ◌++◌, map, Option, Some, None, refl, sym, subst}
use Rattle.std.specs.Prelude.{slice_get}
use Rattle.std.specs.List.{AllByRecursion, AllZip, flat_map}
use Rattle.hh_base.specs.declared.value.Pos.{Pos}
use Rattle.module_tree.specs.declared.source.SignalNode.{SignalNode}
use Rattle.module_tree.specs.declared.source.BlockNode.{BlockNode, roll-BlockNode}
use Rattle.module_tree.specs.declared.source.StatementNode.{StatementNode, roll-StatementNode}
use Rattle.module_tree.specs.declared.source.Statement.{Statement, roll-Statement}
use Rattle.module_tree.specs.declared.source.Statement.TheOpen as s
use Rattle.module_tree.specs.declared.source.Statement.TheFolds.{fold-Statement, fold-StatementNode}
use Rattle.module_tree.specs.declared.source.Statement.TheFolds.{fold-roll-Statement, fold-roll-StatementNode}
use Rattle.module_tree.specs.declared.source.Statement.TheFolds.{fold-roll-BlockNode, ind-BlockNode}
use Rattle.module_tree.specs.declared.source.Statement.TheFolds.{map-Statement, map-StatementNode}
use Rattle.module_tree.specs.declared.source.Statement.TheFolds.{map-BlockNode}
use Rattle.module_tree.specs.declared.source.Later.{Later}
use Rattle.module_tree.specs.declared.source.Later.TheVariants as later
use Rattle.module_tree.specs.declared.source.Delay.{Delay}
use Rattle.module_tree.specs.declared.source.Delay.TheVariants as delay
use Rattle.module_tree.specs.declared.source.ModuleNode.{ModuleNode}
use Rattle.module_tree.specs.DeclaredAt as declared
use Rattle.module_tree.specs.DeclaredAt.{DeclaredAt, declared_signal, declared_in_block, delay_counter}
use Rattle.module_tree.specs.DeclaredAt.{later_counter, declared_in_module}
use Rattle.hh_term.specs.declared.program.SignalDecl.{SignalDecl}
use Rattle.kernel_expand.specs.Operations.{Operations}
use Rattle.kernel_expand.specs.Interpretation as tree
use Rattle.kernel_expand.specs.Interpretation.{Kernel, of_statement, of_node, of_block, test_of, value_of}
use Rattle.kernel_expand.specs.Modules.{body_means, of_module}
use Rattle.kernel_expand.specs.Numbering.{Around, Numbered, Piece, numbering, local_signal, counter_signal}
use Rattle.kernel_expand.specs.Numbering.{with_place, with_signal, with_trap, in_trap, no_traps, inside_run}
use Rattle.kernel_expand.specs.Expansion.{no_module}
use Rattle.kernel_expand.proofs.Alike as alike
use Rattle.kernel_expand.proofs.Alike.{Alike}
use Rattle.kernel_expand.proofs.Ordering.{no_meaning}
use Rattle.kernel_expand.proofs.Replaced.{both_all, all_both}

module _ (name_at : Pos → Option (List ℕ)) where
  abbrev pub Named : SignalDecl → Type 0
  Named d = d.name ≡ name_at d.pos

  abbrev pub IsNamedAt : DeclaredAt → Type 0
  IsNamedAt d = d.name ≡ name_at d.pos

  -- where the signals before it have the names of their positions, those behind it do
  abbrev pub Names : Piece → Unit {0} → Type 0
  Names p u = (a : Around) (n : Numbered) → AllByRecursion Named n.signals
      → AllByRecursion Named (p a n).1.signals

  two : (ds : List SignalDecl) (d : SignalDecl) → AllByRecursion Named ds → Named d
      → AllByRecursion Named (ds ++ d ∷ [])
  two ds d h e = all_both Named ds (d ∷ []) h (e, tt)

  module _ (f : ℕ → Piece) (pos : Pos) where
    -- the operations but those that declare a signal
    undeclared : Operations Piece
    undeclared =
        record {
          nothing = (numbering f pos).nothing;
          pause = (numbering f pos).pause;
          emit = (numbering f pos).emit;
          choice = (numbering f pos).choice;
          suspend = (numbering f pos).suspend;
          seq = (numbering f pos).seq;
          par = (numbering f pos).par;
          loop = (numbering f pos).loop;
          local = λ d p. p;
          async = (numbering f pos).async;
          trap = (numbering f pos).trap;
          exit = (numbering f pos).exit;
          named_trap = (numbering f pos).named_trap;
          leave = (numbering f pos).leave;
          counter = λ p. p;
          suspend_counted = (numbering f pos).suspend_counted;
          emit_counter = (numbering f pos).emit_counter;
          run = (numbering f pos).run;
        }

    undeclared_name : Alike Names undeclared no_meaning
    unfolding undeclared
    undeclared_name =
        record {
          nothing = λ a n h. h;
          pause = λ a n h. h;
          emit = λ s e a n h. h;
          choice = λ d p u q v x y a n h. y a (p a n).1 (x a n h);
          suspend = λ d p u x a n h. x a n h;
          seq = λ p u q v x y a n h. y a (p a n).1 (x a n h);
          par = λ p u q v x y a n h. y a (p a n).1 (x a n h);
          loop = λ p u x a n h. x a n h;
          local = λ d p u x a n h. x a n h;
          async = λ d a n h. h;
          trap = λ p u x a n h. x (in_trap None a) n h;
          exit = λ a n h. h;
          named_trap = λ p u x a n h. x (in_trap (Some n.traps) a) (with_trap n) h;
          leave = λ t a n h. h;
          counter = λ p u x a n h. x a n h;
          suspend_counted = λ p u x a n h. x a n h;
          emit_counter = λ a n h. h;
        }

    -- with a counter, which has no name
    counted : Operations Piece
    counted =
        record {
          nothing = (numbering f pos).nothing;
          pause = (numbering f pos).pause;
          emit = (numbering f pos).emit;
          choice = (numbering f pos).choice;
          suspend = (numbering f pos).suspend;
          seq = (numbering f pos).seq;
          par = (numbering f pos).par;
          loop = (numbering f pos).loop;
          local = λ d p. p;
          async = (numbering f pos).async;
          trap = (numbering f pos).trap;
          exit = (numbering f pos).exit;
          named_trap = (numbering f pos).named_trap;
          leave = (numbering f pos).leave;
          counter = (numbering f pos).counter;
          suspend_counted = (numbering f pos).suspend_counted;
          emit_counter = (numbering f pos).emit_counter;
          run = (numbering f pos).run;
        }

    counted_name : None ≡ name_at pos → Alike Names counted no_meaning
    unfolding undeclared counted
    counted_name e =
        record {
          nothing = undeclared_name.nothing;
          pause = undeclared_name.pause;
          emit = undeclared_name.emit;
          choice = undeclared_name.choice;
          suspend = undeclared_name.suspend;
          seq = undeclared_name.seq;
          par = undeclared_name.par;
          loop = undeclared_name.loop;
          local = undeclared_name.local;
          async = undeclared_name.async;
          trap = undeclared_name.trap;
          exit = undeclared_name.exit;
          named_trap = undeclared_name.named_trap;
          leave = undeclared_name.leave;
          counter = λ p u x a n h. x (record { traps = a.traps; counter = _ }) (with_signal (counter_signal pos) n)
              (two n.signals (counter_signal pos) h e);
          suspend_counted = undeclared_name.suspend_counted;
          emit_counter = undeclared_name.emit_counter;
        }

    -- each derived statement, by whether it counts
    module _ (p : Piece) (h : Names p tt) where
      abort_named : (d : Delay ℕ) → AllByRecursion IsNamedAt (delay_counter d pos)
          → Names (tree.abort (numbering f pos) d p) tt
      unfolding undeclared counted
      abort_named (delay.Later (later.Once x)) e = alike.abort Names undeclared no_meaning undeclared_name
          (delay.Later (later.Once x)) p tt h
      abort_named (delay.Later (later.Count n x)) e = alike.abort Names counted no_meaning (counted_name e.0)
          (delay.Later (later.Count n x)) p tt h
      abort_named (delay.Immediate x) e = alike.abort Names undeclared no_meaning undeclared_name
          (delay.Immediate x) p tt h

      every_named : (d : Delay ℕ) → AllByRecursion IsNamedAt (delay_counter d pos)
          → Names (tree.every (numbering f pos) d p) tt
      unfolding undeclared counted
      every_named (delay.Later (later.Once x)) e = alike.every Names undeclared no_meaning undeclared_name
          (delay.Later (later.Once x)) p tt h
      every_named (delay.Later (later.Count n x)) e = alike.every Names counted no_meaning (counted_name e.0)
          (delay.Later (later.Count n x)) p tt h
      every_named (delay.Immediate x) e = alike.every Names undeclared no_meaning undeclared_name
          (delay.Immediate x) p tt h

      do_every_named : (d : Later ℕ) → AllByRecursion IsNamedAt (later_counter d pos)
          → Names (tree.do_every (numbering f pos) d p) tt
      unfolding undeclared counted
      do_every_named (later.Once x) e = alike.do_every Names undeclared no_meaning undeclared_name
          (later.Once x) p tt h
      do_every_named (later.Count n x) e = alike.do_every Names counted no_meaning (counted_name e.0)
          (later.Count n x) p tt h

      weak_abort_named : (d : Delay ℕ) → Names (tree.weak_abort (numbering f pos) d p) tt
      unfolding undeclared
      weak_abort_named (delay.Later (later.Once x)) = alike.weak_abort Names undeclared no_meaning
          undeclared_name (delay.Later (later.Once x)) p tt h
      weak_abort_named (delay.Later (later.Count n x)) = alike.weak_abort Names undeclared no_meaning
          undeclared_name (delay.Later (later.Count n x)) p tt h
      weak_abort_named (delay.Immediate x) = alike.weak_abort Names undeclared no_meaning undeclared_name
          (delay.Immediate x) p tt h

    await_named : (d : Delay ℕ) → Names (tree.await (numbering f pos) d) tt
    unfolding undeclared
    await_named (delay.Later (later.Once x)) = alike.await Names undeclared no_meaning undeclared_name
        (delay.Later (later.Once x))
    await_named (delay.Later (later.Count n x)) = alike.await Names undeclared no_meaning undeclared_name
        (delay.Later (later.Count n x))
    await_named (delay.Immediate x) = alike.await Names undeclared no_meaning undeclared_name (delay.Immediate x)

    locals_named : (ds : List SignalNode) (p : Piece) → AllByRecursion IsNamedAt (map declared_signal ds)
        → Names p tt → Names (tree.locals (numbering f pos) ds p) tt
    locals_named [] p e h = h
    locals_named (d ∷ ds) p e h = λ a n k. locals_named ds p e.1 h a (with_place (local_signal d) n)
        (two n.signals (local_signal d) k e.0)

  -- ---- whole blocks

  module _ (f : ℕ → Piece) (modules : (m : ℕ) → Names (f m) tt) where
    abbrev k : Kernel Piece
    k = numbering f

    abbrev statement_declares : Statement ℕ → Pos → List DeclaredAt
    statement_declares = fold-Statement ℕ (Pos → List DeclaredAt) (List DeclaredAt) (List DeclaredAt)
        declared.statement_step declared.block_step declared.node_step

    abbrev node_declares : StatementNode ℕ → List DeclaredAt
    node_declares = fold-StatementNode ℕ (Pos → List DeclaredAt) (List DeclaredAt) (List DeclaredAt)
        declared.statement_step declared.block_step declared.node_step

    abbrev Layer : Type 0
    Layer = s.Statement-F ℕ (Statement ℕ) (BlockNode ℕ) (StatementNode ℕ)

    abbrev HasNames : Statement ℕ → Type 0
    HasNames x = (pos : Pos) → AllByRecursion IsNamedAt (statement_declares x pos) → Names (of_statement k x pos) tt

    abbrev NodeHasNames : StatementNode ℕ → Type 0
    NodeHasNames x = AllByRecursion IsNamedAt (node_declares x) → Names (of_node k x) tt

    abbrev pub BlockHasNames : BlockNode ℕ → Type 0
    BlockHasNames x = AllByRecursion IsNamedAt (declared_in_block x) → Names (of_block k x) tt

    abbrev What : Type 0
    What = (x : Statement ℕ) × HasNames x

    abbrev Node : Type 0
    Node = (x : StatementNode ℕ) × NodeHasNames x

    abbrev Block : Type 0
    Block = (x : BlockNode ℕ) × BlockHasNames x

    declared_here : Layer → s.Statement-F ℕ (Pos → List DeclaredAt) (List DeclaredAt) (List DeclaredAt)
    declared_here = map-Statement ℕ (Statement ℕ) (BlockNode ℕ) (StatementNode ℕ) (Pos → List DeclaredAt)
        (List DeclaredAt) (List DeclaredAt) statement_declares declared_in_block node_declares

    k_in : Layer → s.Statement-F ℕ (Pos → Piece) Piece Piece
    k_in = map-Statement ℕ (Statement ℕ) (BlockNode ℕ) (StatementNode ℕ) (Pos → Piece) Piece Piece
        (of_statement k) (of_block k) (of_node k)

    by_layer : (y : Layer) → ((pos : Pos) → AllByRecursion IsNamedAt
        (declared.statement_step (declared_here y) pos)
        → Names (tree.statement_means (k pos) (k_in y)) tt) → HasNames (roll-Statement ℕ y)
    unfolding declared_here k_in
    by_layer y g pos h =
        let told = fold-roll-Statement ℕ (Pos → List DeclaredAt) (List DeclaredAt) (List DeclaredAt)
        declared.statement_step declared.block_step declared.node_step y in
        let meant = fold-roll-Statement ℕ (Pos → Piece) Piece Piece (tree.statement_step k) (tree.block_step k)
        tree.node_step y in
        subst (λ (z : Pos → Piece). Names (z pos) tt) (sym meant)
        (g pos (subst (λ (z : Pos → List DeclaredAt). AllByRecursion IsNamedAt (z pos)) told h))

    all_blocks : (bs : List Block) → AllByRecursion IsNamedAt
        (flat_map (λ (b : List DeclaredAt). b) (map declared_in_block (map (λ (b : Block). b.0) bs)))
        → AllZip Names (map (of_block k) (map (λ (b : Block). b.0) bs)) (map (λ (b : Block). tt {0}) bs)
    all_blocks [] h = tt
    all_blocks (b ∷ bs) h =
        let q = both_all IsNamedAt (declared_in_block b.0) _ h in
        (b.1 q.0, all_blocks bs q.1)

    all_nodes : (ns : List Node) → AllByRecursion IsNamedAt
        (flat_map (λ (b : List DeclaredAt). b) (map node_declares (map (λ (n : Node). n.0) ns)))
        → AllZip Names (map (of_node k) (map (λ (n : Node). n.0) ns)) (map (λ (n : Node). tt {0}) ns)
    all_nodes [] h = tt
    all_nodes (n ∷ ns) h =
        let q = both_all IsNamedAt (node_declares n.0) _ h in
        (n.1 q.0, all_nodes ns q.1)

    statement_named : (y : s.Statement-F ℕ What Block Node)
        → HasNames (roll-Statement ℕ (map-Statement ℕ What Block Node (Statement ℕ) (BlockNode ℕ)
        (StatementNode ℕ) (λ n. n.0) (λ n. n.0) (λ n. n.0) y))
    unfolding declared_here k_in undeclared
    statement_named s.Nothing = by_layer s.Nothing (λ pos h a n e. e)
    statement_named s.Pause = by_layer s.Pause (λ pos h a n e. e)
    statement_named s.Halt = by_layer s.Halt (λ pos h a n e. e)
    statement_named (s.Emit n x) = by_layer (s.Emit n x) (λ pos h a n e. e)
    statement_named (s.Sustain n x) = by_layer (s.Sustain n x) (λ pos h a n e. e)
    statement_named (s.If x p None) = by_layer (s.If x p.0 None)
        (λ pos h a n e. p.1 (both_all IsNamedAt (declared_in_block p.0) [] h).0 a n e)
    statement_named (s.If x p (Some o)) =
        by_layer (s.If x p.0 (Some o.0))
        (λ pos h a n e.
        let q = both_all IsNamedAt (declared_in_block p.0) (declared_in_block o.0) h in
        o.1 q.1 a (of_block k p.0 a n).1 (p.1 q.0 a n e))
    statement_named (s.Loop p) = by_layer (s.Loop p.0) (λ pos h a n e. p.1 h a n e)
    statement_named (s.Fork ps) = by_layer (s.Fork (map (λ b. b.0) ps))
        (λ pos h. alike.forked Names (undeclared f pos) no_meaning (undeclared_name f pos)
        (map (of_block k) (map (λ b. b.0) ps)) (map (λ b. tt {0}) ps) (all_blocks ps h))
    statement_named (s.Block p) = by_layer (s.Block p.0) (λ pos h. p.1 h)
    statement_named (s.Await d) = by_layer (s.Await d) (λ pos h. await_named f pos d)
    statement_named (s.Every d p) =
        by_layer (s.Every d p.0)
        (λ pos h. let q = both_all IsNamedAt (delay_counter d pos) (declared_in_block p.0) h in
        every_named f pos (of_block k p.0) (p.1 q.1) d q.0)
    statement_named (s.DoEvery p d) =
        by_layer (s.DoEvery p.0 d)
        (λ pos h. let q = both_all IsNamedAt (later_counter d pos) (declared_in_block p.0) h in
        do_every_named f pos (of_block k p.0) (p.1 q.1) d q.0)
    statement_named (s.Abort d p) =
        by_layer (s.Abort d p.0)
        (λ pos h. let q = both_all IsNamedAt (delay_counter d pos) (declared_in_block p.0) h in
        abort_named f pos (of_block k p.0) (p.1 q.1) d q.0)
    statement_named (s.WeakAbort d p) = by_layer (s.WeakAbort d p.0)
        (λ pos h. weak_abort_named f pos (of_block k p.0) (p.1 h) d)
    statement_named (s.Suspend i x p) = by_layer (s.Suspend i x p.0)
        (λ pos h. alike.suspend Names (undeclared f pos) no_meaning (undeclared_name f pos) i (test_of x)
        (of_block k p.0) tt (p.1 h))
    statement_named (s.Signal sigs p) =
        by_layer (s.Signal sigs p.0)
        (λ pos h. let q = both_all IsNamedAt (map declared_signal sigs) (declared_in_block p.0) h in
        locals_named f pos sigs (of_block k p.0) q.0 (p.1 q.1))
    statement_named (s.Trap n p) = by_layer (s.Trap n p.0)
        (λ pos h a m e. p.1 h (in_trap (Some m.traps) a) (with_trap m) e)
    statement_named (s.Break n) = by_layer (s.Break n) (λ pos h a n e. e)
    statement_named (s.Run n bindings) = by_layer (s.Run n bindings)
        (λ pos h a m e. modules n.name no_traps (inside_run bindings m) e)
    statement_named (s.Async a) = by_layer (s.Async a) (λ pos h b n e. e)

    block_named : (y : s.BlockNode-F ℕ What Block Node)
        → BlockHasNames (roll-BlockNode ℕ (map-BlockNode ℕ What Block Node (Statement ℕ) (BlockNode ℕ)
        (StatementNode ℕ) (λ n. n.0) (λ n. n.0) (λ n. n.0) y))
    unfolding undeclared
    block_named y h =
        let x : s.BlockNode-F ℕ (Statement ℕ) (BlockNode ℕ) (StatementNode ℕ) =
        record { pos = y.pos; statements = map (λ n. n.0) y.statements } in
        let told = fold-roll-BlockNode ℕ (Pos → List DeclaredAt) (List DeclaredAt) (List DeclaredAt)
        declared.statement_step declared.block_step declared.node_step x in
        let meant = fold-roll-BlockNode ℕ (Pos → Piece) Piece Piece (tree.statement_step k) (tree.block_step k)
        tree.node_step x in
        subst (λ z. Names z tt) (sym meant)
        (alike.listed Names (undeclared f y.pos) no_meaning (undeclared_name f y.pos)
        (map (of_node k) (map (λ n. n.0) y.statements)) (map (λ n. tt {0}) y.statements)
        (all_nodes y.statements (subst (AllByRecursion IsNamedAt) told h)))

    node_named : (y : s.StatementNode-F ℕ What Block Node)
        → NodeHasNames (roll-StatementNode ℕ (map-StatementNode ℕ What Block Node (Statement ℕ) (BlockNode ℕ)
        (StatementNode ℕ) (λ n. n.0) (λ n. n.0) (λ n. n.0) y))
    node_named y h =
        let x : s.StatementNode-F ℕ (Statement ℕ) (BlockNode ℕ) (StatementNode ℕ) =
        record { pos = y.pos; what = y.what.0 } in
        let told = fold-roll-StatementNode ℕ (Pos → List DeclaredAt) (List DeclaredAt) (List DeclaredAt)
        declared.statement_step declared.block_step declared.node_step x in
        let meant = fold-roll-StatementNode ℕ (Pos → Piece) Piece Piece (tree.statement_step k)
        (tree.block_step k) tree.node_step x in
        subst (λ z. Names z tt) (sym meant) (y.what.1 y.pos (subst (AllByRecursion IsNamedAt) told h))

    pub blocks_named : (b : BlockNode ℕ) → BlockHasNames b
    blocks_named =
        ind-BlockNode ℕ HasNames BlockHasNames NodeHasNames
        (λ x y is. subst (λ (z : Layer). HasNames (roll-Statement ℕ z)) is (statement_named y))
        (λ x y is. subst (λ (z : s.BlockNode-F ℕ (Statement ℕ) (BlockNode ℕ) (StatementNode ℕ)). BlockHasNames
        (roll-BlockNode ℕ z)) is (block_named y))
        (λ x y is. subst (λ (z : s.StatementNode-F ℕ (Statement ℕ) (BlockNode ℕ) (StatementNode ℕ)).
        NodeHasNames (roll-StatementNode ℕ z)) is (node_named y))

  -- ---- modules

  module _ (ms : List (ModuleNode ℕ)) (named : AllByRecursion IsNamedAt (flat_map declared_in_module ms)) where
    of_module_named : (xs : List (ModuleNode ℕ)) → AllByRecursion IsNamedAt (flat_map declared_in_module xs)
        → (m : ℕ) (b : ModuleNode ℕ) → slice_get xs m ≡ Some b
        → AllByRecursion IsNamedAt (declared_in_module b)
    of_module_named [] h m b e = absurd (let no : ⊥ = cc in no)
    of_module_named (x ∷ xs) h zero b e =
        let same : x ≡ b = cc in
        subst (λ z. AllByRecursion IsNamedAt (declared_in_module z)) same
        (both_all IsNamedAt (declared_in_module x) (flat_map declared_in_module xs) h).0
    of_module_named (x ∷ xs) h (suc m) b e = of_module_named xs
        (both_all IsNamedAt (declared_in_module x) (flat_map declared_in_module xs) h).1 m b e

    pub module_named : (m : ℕ) (b : ModuleNode ℕ) → slice_get ms m ≡ Some b
        → AllByRecursion IsNamedAt (declared_in_module b)
    module_named m b e = of_module_named ms named m b e

    pub modules_named : (deep m : ℕ) → Names (of_module numbering no_module ms deep m) tt
    unfolding of_module
    modules_named zero m = λ a n h. h
    modules_named (suc deep) m = by_module (slice_get ms m) refl (modules_named deep)
      where
        by_module : (o : Option (ModuleNode ℕ)) → slice_get ms m ≡ o
            → ((m : ℕ) → Names (of_module numbering no_module ms deep m) tt)
            → Names (body_means (numbering (of_module numbering no_module ms deep)) no_module o) tt
        by_module None e h = λ a n k. k
        by_module (Some b) e h = blocks_named (of_module numbering no_module ms deep) h b.block
            (both_all IsNamedAt _ (declared_in_block b.block) (module_named m b e)).1

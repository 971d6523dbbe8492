-- Each block of a linked text names only what is there.
use Rattle.std.proofs.Common.{◌≡◌, ℕ, suc, ◌+◌, ◌<◌, ◌≤◌, Bool, true, false, List, [], ◌∷◌, ◌++◌, length, map, Some}
use Rattle.std.proofs.Common.{None, Option, refl, sym, ap, subst, ◌∙◌, arith, append-nil}
use Rattle.std.proofs.lemmas.Bool.{lt-ltb, eqb-true}
use Rattle.std.specs.Prelude.{◌&&◌, ◌==◌, nat_lt, slice_get, is_some}
use Rattle.std.specs.List.{AllByRecursion, flat_map, list_all}
use Rattle.hh_base.specs.declared.value.Pos.{Pos}
use Rattle.host_expr.specs.declared.expr.Expr.{Expr}
use Rattle.host_expr.specs.Expression.{expression_of}
use Rattle.host_expr.specs.Measures as measures
use Rattle.module_tree.specs.declared.source.NameAt.{NameAt}
use Rattle.module_tree.specs.declared.source.ExprAt.{ExprAt}
use Rattle.module_tree.specs.declared.source.Binding.{Binding}
use Rattle.module_tree.specs.declared.source.AsyncNode.{AsyncNode}
use Rattle.module_tree.specs.declared.source.SignalNode.{SignalNode}
use Rattle.module_tree.specs.declared.source.InterfaceNode.{InterfaceNode}
use Rattle.module_tree.specs.declared.source.BlockNode.{BlockNode, roll-BlockNode}
use Rattle.module_tree.specs.declared.source.StatementNode.{StatementNode, roll-StatementNode}
use Rattle.module_tree.specs.declared.source.Statement.{Statement, roll-Statement}
use Rattle.module_tree.specs.declared.source.Statement.TheOpen as s
use Rattle.module_tree.specs.declared.source.Statement.TheFolds.{fold-Statement, fold-StatementNode}
use Rattle.module_tree.specs.declared.source.Statement.TheFolds.{fold-roll-Statement, fold-roll-StatementNode}
use Rattle.module_tree.specs.declared.source.Statement.TheFolds.{fold-roll-BlockNode, ind-BlockNode}
use Rattle.module_tree.specs.declared.source.Statement.TheFolds.{map-Statement, map-StatementNode}
use Rattle.module_tree.specs.declared.source.Statement.TheFolds.{map-BlockNode}
use Rattle.module_tree.specs.declared.source.Later.{Later}
use Rattle.module_tree.specs.declared.source.Later.TheVariants as later
use Rattle.module_tree.specs.declared.source.Delay.{Delay}
use Rattle.module_tree.specs.declared.source.Delay.TheVariants as delay
use Rattle.module_tree.specs.Scopes.{InScope, Declared, Signal, signal_at, local_signals}
use Rattle.module_tree.specs.Parts as parts
use Rattle.module_tree.specs.Parts.{Walk, Walked, Placed, block_walk, Test, Emission, Start, Call, signals_named}
use Rattle.module_tree.specs.LinkedFacts.{Known, binds_interface, each_bound, each_binding, places_from}
use Rattle.kernel_expand.specs.Interpretation as tree
use Rattle.kernel_expand.specs.Interpretation.{Kernel, of_statement, of_node, of_block, test_of, value_of}
use Rattle.kernel_expand.proofs.Replaced.{both_all, all_both, all_map}
use Rattle.kernel_expand.proofs.Reading.{places, same_reads}
use Rattle.kernel_expand.proofs.Standing.{found_in}
use Rattle.kernel_expand.proofs.Progress.{both_true}
use Rattle.derived_laws.specs.Naming.{Naming, naming, nothing_named, expression_names, value_names, result_names}
use Rattle.derived_laws.specs.Naming.{bindings_name}
use Rattle.derived_laws.specs.Runs.{ScopeBelow}
use Rattle.derived_laws.proofs.NamedRows as row
use Rattle.derived_laws.proofs.NamedRows.{Passes, Tests}

-- ---- names in scope

abbrev pub IsSeen : InScope → NameAt ℕ → Type 0
IsSeen scope n = is_some (signal_at scope n.name) ≡ true

-- the names of a part are in scope, and a run binds the interface
pub record Tested (known : Known) (p : Placed ℕ) : Type 0 where
  pub seen : AllByRecursion (IsSeen p.scope) (signals_named p.part)
  pub bindings : binds_interface known p.part ≡ true

pub scope_later : (a b : ℕ) (scope : InScope) → a ≤ b → ScopeBelow a scope → ScopeBelow b scope
scope_later a b scope le h =
    all_map (λ (s : Signal). s.place < a) (λ (s : Signal). s.place < b) (λ s k. omega (arith, le, k)) scope.signals h

abbrev pub NameBelow : ℕ → NameAt ℕ → Type 0
NameBelow a n = n.name < a

below : (a : ℕ) (scope : InScope) → ScopeBelow a scope → (n : NameAt ℕ) → IsSeen scope n → NameBelow a n
below a scope h n e =
    let q = found_in (λ (s : Signal). s.place < a) (λ (s : Signal). s.place == n.name) scope.signals h e in
    subst (λ p. p < a) (eqb-true q.0.place n.name q.1) q.2

pub all_below : (a : ℕ) (scope : InScope) → ScopeBelow a scope → (ns : List (NameAt ℕ))
    → AllByRecursion (IsSeen scope) ns → AllByRecursion (NameBelow a) ns
all_below a scope h ns e = all_map (IsSeen scope) (NameBelow a) (below a scope h) ns e

places_below : (a : ℕ) (ns : List (NameAt ℕ)) → AllByRecursion (NameBelow a) ns
    → AllByRecursion (λ p. p < a) (places ns)
places_below a [] h = tt
places_below a (n ∷ ns) h = (h.0, places_below a ns h.1)

tested_below : (m a : ℕ) (ps : List ℕ) → a ≤ m → AllByRecursion (λ p. p < a) ps → list_all (λ s. nat_lt s m) ps ≡ true
tested_below m a [] le h = refl
tested_below m a (p ∷ ps) le h =
    (λ i. lt-ltb p m (omega (arith, le, h.0)) i && list_all (λ s. nat_lt s m) ps) ∙ tested_below m a ps le h.1

reads_below : (a : ℕ) (d : Expr ℕ) → AllByRecursion (NameBelow a) (parts.signals_read d) → Tests a d
reads_below a d h m le =
    tested_below m a (measures.signals_read (expression_of d)) le
    (subst (AllByRecursion (λ p. p < a)) (same_reads d) (places_below a (parts.signals_read d) h))

locals_below : (n a : ℕ) (ds : List SignalNode) → n + length ds ≤ a
    → AllByRecursion (λ (s : Signal). s.place < a) (local_signals n ds)
locals_below n a [] le = tt
locals_below n a (d ∷ ds) le = (omega (arith, le), locals_below (n + 1) a ds (omega (arith, le)))

bindings_below : (a : ℕ) (bs : List (Binding ℕ)) → AllByRecursion (NameBelow a) (map (λ (b : Binding ℕ). b.right) bs)
    → bindings_name a bs ≡ true
bindings_below a [] h = refl
bindings_below a (b ∷ bs) h =
    (λ i. lt-ltb b.right.name a h.0 i && bindings_name a bs) ∙ bindings_below a bs h.1

arguments_below : (a : ℕ) (xs : List (ExprAt ℕ))
    → AllByRecursion (NameBelow a) (flat_map (λ (x : ExprAt ℕ). parts.signals_read x.expr) xs)
    → list_all (λ (x : ExprAt ℕ). expression_names a x.expr) xs ≡ true
arguments_below a [] h = refl
arguments_below a (x ∷ xs) h =
    let q = both_all (NameBelow a) (parts.signals_read x.expr)
    (flat_map (λ (x : ExprAt ℕ). parts.signals_read x.expr) xs) h in
    (λ i. reads_below a x.expr q.0 a (omega arith) i && list_all (λ (x : ExprAt ℕ). expression_names a x.expr) xs)
    ∙ arguments_below a xs q.1

pub as_many : (f : Binding ℕ → InterfaceNode → Bool) (bs : List (Binding ℕ)) (ds : List InterfaceNode)
    → each_binding f bs ds ≡ true → length bs ≡ length ds
as_many f [] [] e = refl
as_many f [] (d ∷ ds) e = absurd (let no : ⊥ = cc in no)
as_many f (b ∷ bs) [] e = absurd (let no : ⊥ = cc in no)
as_many f (b ∷ bs) (d ∷ ds) e = ap suc (as_many f bs ds (both_true (f b d) (each_binding f bs ds) e).1)

pub test_passes : (known : Known) (a : ℕ) (scope : InScope) (x : ExprAt ℕ) → ScopeBelow a scope
    → Tested known (record { scope = scope; part = Test x }) → Tests a (test_of x)
test_passes known a scope x h t =
    reads_below a x.expr (subst (AllByRecursion (NameBelow a)) (append-nil (parts.signals_read x.expr))
    (all_below a scope h (signals_named (Test x)) t.seen))

module _ (known : Known) (modules : ℕ → Naming)
    (runs : (m : ℕ) (ds : List InterfaceNode) → slice_get known.interfaces m ≡ Some ds
    → (modules m false (length ds)).0 ≡ true) where
  abbrev k : Kernel Naming
  k = naming modules

  abbrev Holds : List (Placed ℕ) → Type 0
  Holds = AllByRecursion (Tested known)

  abbrev Met : Naming → Declared → Declared → Type 0
  Met r before after = (c : Bool) → Passes c before.signals after.signals r

  split : (ps qs : List (Placed ℕ)) → Holds (ps ++ qs) → Holds ps × Holds qs
  split ps qs h = both_all (Tested known) ps qs h

  -- ---- parts

  signal_passes : (a : ℕ) (scope : InScope) (n : NameAt ℕ) (v : Option (ExprAt ℕ)) → ScopeBelow a scope
      → Tested known (record { scope = scope; part = Emission n v }) → nat_lt n.name a ≡ true
  signal_passes a scope n v h t = lt-ltb n.name a (below a scope h n t.seen.0)

  value_passes : (a : ℕ) (scope : InScope) (n : NameAt ℕ) (v : Option (ExprAt ℕ)) → ScopeBelow a scope
      → Tested known (record { scope = scope; part = Emission n v }) → value_names a (value_of v) ≡ true
  value_passes a scope n None h t = refl
  value_passes a scope n (Some x) h t =
      reads_below a x.expr (subst (AllByRecursion (NameBelow a)) (append-nil (parts.signals_read x.expr))
      (all_below a scope h (signals_named (Emission n (Some x))) t.seen).1) a (omega arith)

  result_passes : (a : ℕ) (scope : InScope) (s : Option (NameAt ℕ)) → ScopeBelow a scope
      → AllByRecursion (IsSeen scope) (parts.if_any s) → result_names a s ≡ true
  result_passes a scope None h e = refl
  result_passes a scope (Some n) h e = lt-ltb n.name a (below a scope h n e.0)

  async_passes : (pos : Pos) (a : ℕ) (scope : InScope) (d : AsyncNode ℕ) → ScopeBelow a scope
      → Tested known (record { scope = scope; part = Start d }) → (c : Bool) → Passes c a a ((k pos).async d)
  async_passes pos a scope d h t c =
      let q = both_all (IsSeen scope) (parts.if_any d.signal)
      (flat_map (λ (x : ExprAt ℕ). parts.signals_read x.expr) d.args) t.seen in
      let args = arguments_below a d.args
      (all_below a scope h (flat_map (λ (x : ExprAt ℕ). parts.signals_read x.expr) d.args) q.1) in
      record {
        is = (λ i. (result_passes a scope d.signal h q.0 i && list_all (λ (x : ExprAt ℕ). expression_names a x.expr) d.args, a))
            ∙ ap (λ (u : Bool). (u, a)) args;
        grows = omega arith;
      }

  callee_passes : (m : ℕ) (bs : List (Binding ℕ)) (o : Option (List InterfaceNode)) → slice_get known.interfaces m ≡ o
      → each_bound (λ b d. true) bs o ≡ true → (modules m false (length bs)).0 ≡ true
  callee_passes m bs None at e = absurd (let no : ⊥ = cc in no)
  callee_passes m bs (Some ds) at e =
      ap (λ n. (modules m false n).0) (as_many (λ b d. true) bs ds e) ∙ runs m ds at

  run_passes : (pos : Pos) (a : ℕ) (scope : InScope) (n : NameAt ℕ) (bs : List (Binding ℕ)) → ScopeBelow a scope
      → Tested known (record { scope = scope; part = Call n bs }) → (c : Bool)
      → Passes c a a ((k pos).run n.name bs)
  run_passes pos a scope n bs h t c =
      let q = both_all (IsSeen scope) (map (λ (b : Binding ℕ). b.right) bs) [] t.seen in
      let bound = bindings_below a bs (all_below a scope h (map (λ (b : Binding ℕ). b.right) bs) q.0) in
      let e = both_true (places_from 0 bs) (each_bound (λ b d. true) bs (slice_get known.interfaces n.name)) t.bindings in
      record {
        is = (λ i. (bound i && (modules n.name false (length bs)).0, a))
            ∙ ap (λ (u : Bool). (u, a)) (callee_passes n.name bs (slice_get known.interfaces n.name) refl e.1);
        grows = omega arith;
      }

  -- ---- the walk

  abbrev statement_walk : Statement ℕ → Walk ℕ
  statement_walk = fold-Statement ℕ (Walk ℕ) (Walk ℕ) (Walk ℕ) parts.statement_step parts.block_step
      (λ n. n.what)

  abbrev node_walk : StatementNode ℕ → Walk ℕ
  node_walk = fold-StatementNode ℕ (Walk ℕ) (Walk ℕ) (Walk ℕ) parts.statement_step parts.block_step
      (λ n. n.what)

  abbrev Layer : Type 0
  Layer = s.Statement-F ℕ (Statement ℕ) (BlockNode ℕ) (StatementNode ℕ)

  abbrev IsMet : Statement ℕ → Type 0
  IsMet x = (pos : Pos) (scope : InScope) (before : Declared) → ScopeBelow before.signals scope
      → Holds (statement_walk x scope before).parts
      → Met (of_statement k x pos) before (statement_walk x scope before).after

  abbrev IsMetNode : StatementNode ℕ → Type 0
  IsMetNode x = (scope : InScope) (before : Declared) → ScopeBelow before.signals scope
      → Holds (node_walk x scope before).parts → Met (of_node k x) before (node_walk x scope before).after

  abbrev pub IsMetBlock : BlockNode ℕ → Type 0
  IsMetBlock x = (scope : InScope) (before : Declared) → ScopeBelow before.signals scope
      → Holds (block_walk x scope before).parts → Met (of_block k x) before (block_walk x scope before).after

  abbrev What : Type 0
  What = (x : Statement ℕ) × IsMet x

  abbrev Node : Type 0
  Node = (x : StatementNode ℕ) × IsMetNode x

  abbrev Block : Type 0
  Block = (x : BlockNode ℕ) × IsMetBlock x

  walks_in : Layer → s.Statement-F ℕ (Walk ℕ) (Walk ℕ) (Walk ℕ)
  walks_in = map-Statement ℕ (Statement ℕ) (BlockNode ℕ) (StatementNode ℕ) (Walk ℕ) (Walk ℕ)
      (Walk ℕ) statement_walk block_walk node_walk

  k_in : Layer → s.Statement-F ℕ (Pos → Naming) Naming Naming
  k_in = map-Statement ℕ (Statement ℕ) (BlockNode ℕ) (StatementNode ℕ) (Pos → Naming) Naming Naming
      (of_statement k) (of_block k) (of_node k)

  by_layer : (y : Layer) → ((pos : Pos) (scope : InScope) (before : Declared) → ScopeBelow before.signals scope
      → Holds (parts.statement_step (walks_in y) scope before).parts
      → Met (tree.statement_means (k pos) (k_in y)) before (parts.statement_step (walks_in y) scope before).after)
      → IsMet (roll-Statement ℕ y)
  unfolding walks_in k_in
  by_layer y g pos scope before low h =
      let walked = fold-roll-Statement ℕ (Walk ℕ) (Walk ℕ) (Walk ℕ) parts.statement_step parts.block_step
      (λ n. n.what) y in
      let meant = fold-roll-Statement ℕ (Pos → Naming) Naming Naming (tree.statement_step k) (tree.block_step k)
      tree.node_step y in
      subst (λ (z : Pos → Naming). Met (z pos) before (statement_walk (roll-Statement ℕ y) scope before).after)
      (sym meant)
      (subst (λ (z : Walk ℕ). Met (tree.statement_means (k pos) (k_in y)) before (z scope before).after) (sym walked)
      (g pos scope before low (subst (λ (z : Walk ℕ). Holds (z scope before).parts) walked h)))

  branches : (bs : List Block) (scope : InScope) (before : Declared) → ScopeBelow before.signals scope
      → Holds (parts.in_order (map block_walk (map (λ b. b.0) bs)) scope before).parts → (c : Bool)
      → row.Along c before.signals (map (of_block k) (map (λ b. b.0) bs))
      (parts.in_order (map block_walk (map (λ b. b.0) bs)) scope before).after.signals
  branches [] scope before low h c = refl
  branches (b ∷ bs) scope before low h c =
      let first = block_walk b.0 scope before in
      let others = parts.in_order (map block_walk (map (λ b. b.0) bs)) scope first.after in
      let q = split first.parts others.parts h in
      let m = b.1 scope before low q.0 c in
      let l = scope_later before.signals first.after.signals scope m.grows low in
      (first.after.signals, m, branches bs scope first.after l q.1 c)

  statements : (ns : List Node) (scope : InScope) (before : Declared) → ScopeBelow before.signals scope
      → Holds (parts.in_order (map node_walk (map (λ n. n.0) ns)) scope before).parts → (c : Bool)
      → row.Along c before.signals (map (of_node k) (map (λ n. n.0) ns))
      (parts.in_order (map node_walk (map (λ n. n.0) ns)) scope before).after.signals
  statements [] scope before low h c = refl
  statements (n ∷ ns) scope before low h c =
      let first = node_walk n.0 scope before in
      let others = parts.in_order (map node_walk (map (λ n. n.0) ns)) scope first.after in
      let q = split first.parts others.parts h in
      let m = n.1 scope before low q.0 c in
      let l = scope_later before.signals first.after.signals scope m.grows low in
      (first.after.signals, m, statements ns scope first.after l q.1 c)

  -- a delay before a block
  behind_delay : (d : Delay ℕ) (b : Block) (scope : InScope) (before : Declared) → ScopeBelow before.signals scope
      → Holds (parts.then (parts.delay_walk d) (block_walk b.0) scope before).parts
      → row.DelayTests before.signals d
      × Met (of_block k b.0) before (parts.then (parts.delay_walk d) (block_walk b.0) scope before).after
  behind_delay (delay.Later (later.Once x)) b scope before low h =
      (test_passes known before.signals scope x low h.0, b.1 scope before low h.1)
  behind_delay (delay.Later (later.Count n x)) b scope before low h =
      (test_passes known before.signals scope x low h.1.0, b.1 scope before low h.1.1)
  behind_delay (delay.Immediate x) b scope before low h =
      (test_passes known before.signals scope x low h.0, b.1 scope before low h.1)

  of_later : (d : Later ℕ) (scope : InScope) (before : Declared) → ScopeBelow before.signals scope
      → Holds (parts.plain_walk d scope before).parts → row.LaterTests before.signals d
  of_later (later.Once x) scope before low h = test_passes known before.signals scope x low h.0
  of_later (later.Count n x) scope before low h = test_passes known before.signals scope x low h.1.0

  of_delay : (d : Delay ℕ) (scope : InScope) (before : Declared) → ScopeBelow before.signals scope
      → Holds (parts.delay_walk d scope before).parts → row.DelayTests before.signals d
  of_delay (delay.Later (later.Once x)) scope before low h = test_passes known before.signals scope x low h.0
  of_delay (delay.Later (later.Count n x)) scope before low h = test_passes known before.signals scope x low h.1.0
  of_delay (delay.Immediate x) scope before low h = test_passes known before.signals scope x low h.0

  later_stays : (d : Later ℕ) (scope : InScope) (before : Declared)
      → (parts.plain_walk d scope before).after ≡ before
  later_stays (later.Once x) scope before = refl
  later_stays (later.Count n x) scope before = refl

  delay_stays : (d : Delay ℕ) (scope : InScope) (before : Declared)
      → (parts.delay_walk d scope before).after ≡ before
  delay_stays (delay.Later d) scope before = later_stays d scope before
  delay_stays (delay.Immediate x) scope before = refl

  -- its parts do not go by what is declared before it
  same_parts : (d : Later ℕ) (scope : InScope) (m n : Declared) → Holds (parts.plain_walk d scope m).parts
      → Holds (parts.plain_walk d scope n).parts
  same_parts (later.Once x) scope m n h = h
  same_parts (later.Count i x) scope m n h = h

  nothing_passes : (before : Declared) → Met nothing_named before before
  nothing_passes before c = record { is = refl; grows = omega arith }

  statement_met : (y : s.Statement-F ℕ What Block Node)
      → IsMet (roll-Statement ℕ (map-Statement ℕ What Block Node (Statement ℕ) (BlockNode ℕ)
      (StatementNode ℕ) (λ n. n.0) (λ n. n.0) (λ n. n.0) y))
  unfolding walks_in k_in
  statement_met s.Nothing = by_layer s.Nothing (λ pos scope before low h. nothing_passes before)
  statement_met s.Pause = by_layer s.Pause (λ pos scope before low h. nothing_passes before)
  statement_met s.Halt = by_layer s.Halt (λ pos scope before low h. nothing_passes before)
  statement_met (s.Emit n x) = by_layer (s.Emit n x)
      (λ pos scope before low h c. row.emit_named modules pos c before.signals n.name (value_of x)
      (signal_passes before.signals scope n x low h.0) (value_passes before.signals scope n x low h.0))
  statement_met (s.Sustain n x) = by_layer (s.Sustain n x)
      (λ pos scope before low h c. row.sustain_named modules pos c before.signals n.name (value_of x)
      (signal_passes before.signals scope n x low h.0) (value_passes before.signals scope n x low h.0))
  statement_met (s.If x p None) =
      by_layer (s.If x p.0 None)
      (λ pos scope before low h c.
      let w = block_walk p.0 scope before in
      let q = split w.parts [] h.1 in
      row.choice_named modules pos c before.signals w.after.signals w.after.signals (test_of x) (of_block k p.0)
      nothing_named (test_passes known before.signals scope x low h.0) (p.1 scope before low q.0 c)
      (nothing_passes w.after c))
  statement_met (s.If x p (Some o)) =
      by_layer (s.If x p.0 (Some o.0))
      (λ pos scope before low h c.
      let w = block_walk p.0 scope before in
      let v = block_walk o.0 scope w.after in
      let q = split w.parts v.parts h.1 in
      let m = p.1 scope before low q.0 c in
      row.choice_named modules pos c before.signals w.after.signals v.after.signals (test_of x) (of_block k p.0)
      (of_block k o.0) (test_passes known before.signals scope x low h.0) m
      (o.1 scope w.after (scope_later before.signals w.after.signals scope m.grows low) q.1 c))
  statement_met (s.Loop p) = by_layer (s.Loop p.0) (λ pos scope before low h c. p.1 scope before low h c)
  statement_met (s.Fork ps) =
      by_layer (s.Fork (map (λ b. b.0) ps))
      (λ pos scope before low h c. row.forked_named modules pos c before.signals
      (parts.in_order (map block_walk (map (λ b. b.0) ps)) scope before).after.signals
      (map (of_block k) (map (λ b. b.0) ps)) (branches ps scope before low h c))
  statement_met (s.Block p) = by_layer (s.Block p.0) (λ pos scope before low h c. p.1 scope before low h c)
  statement_met (s.Await d) =
      by_layer (s.Await d)
      (λ pos scope before low h c.
      subst (λ (z : Declared). Passes c before.signals z.signals (tree.await (k pos) d))
      (sym (delay_stays d scope before))
      (row.await_named modules pos c before.signals d (of_delay d scope before low h)))
  statement_met (s.Every d p) =
      by_layer (s.Every d p.0)
      (λ pos scope before low h c.
      let q = behind_delay d p scope before low h in
      row.every_named modules pos c before.signals
      (parts.then (parts.delay_walk d) (block_walk p.0) scope before).after.signals d (of_block k p.0) q.0 q.1)
  statement_met (s.DoEvery p d) =
      by_layer (s.DoEvery p.0 d)
      (λ pos scope before low h c.
      let w = block_walk p.0 scope before in
      let v = parts.plain_walk d scope w.after in
      let q = split w.parts v.parts h in
      let m = p.1 scope before low q.0 in
      subst (λ (z : Declared). Passes c before.signals z.signals (tree.do_every (k pos) d (of_block k p.0)))
      (sym (later_stays d scope w.after))
      (row.do_every_named modules pos c before.signals w.after.signals d (of_block k p.0)
      (of_later d scope before low (same_parts d scope w.after before q.1)) m))
  statement_met (s.Abort d p) =
      by_layer (s.Abort d p.0)
      (λ pos scope before low h c.
      let q = behind_delay d p scope before low h in
      row.abort_named modules pos c before.signals
      (parts.then (parts.delay_walk d) (block_walk p.0) scope before).after.signals d (of_block k p.0) q.0 q.1)
  statement_met (s.WeakAbort d p) =
      by_layer (s.WeakAbort d p.0)
      (λ pos scope before low h c.
      let q = behind_delay d p scope before low h in
      row.weak_abort_named modules pos c before.signals
      (parts.then (parts.delay_walk d) (block_walk p.0) scope before).after.signals d (of_block k p.0) q.0 q.1)
  statement_met (s.Suspend i x p) =
      by_layer (s.Suspend i x p.0)
      (λ pos scope before low h c.
      row.suspended_named modules pos c before.signals (block_walk p.0 scope before).after.signals i (test_of x)
      (of_block k p.0) (test_passes known before.signals scope x low h.0) (p.1 scope before low h.1))
  statement_met (s.Signal sigs p) =
      by_layer (s.Signal sigs p.0)
      (λ pos scope before low h c.
      let inner : Declared = record { signals = before.signals + length sigs; traps = before.traps } in
      let w = parts.locals_walk sigs (block_walk p.0) scope before in
      let all = all_both (λ (s : Signal). s.place < before.signals + length sigs)
      (local_signals before.signals sigs) scope.signals
      (locals_below before.signals (before.signals + length sigs) sigs (omega arith))
      (scope_later before.signals (before.signals + length sigs) scope (omega arith) low) in
      row.locals_named modules pos c before.signals w.after.signals sigs (of_block k p.0) (p.1 _ inner all h.1 c))
  statement_met (s.Trap n p) =
      by_layer (s.Trap n p.0)
      (λ pos scope before low h c.
      let inner : Declared = record { signals = before.signals; traps = before.traps + 1 } in
      p.1 _ inner low h c)
  statement_met (s.Break n) = by_layer (s.Break n) (λ pos scope before low h. nothing_passes before)
  statement_met (s.Run n bindings) = by_layer (s.Run n bindings)
      (λ pos scope before low h. run_passes pos before.signals scope n bindings low h.0)
  statement_met (s.Async a) = by_layer (s.Async a)
      (λ pos scope before low h. async_passes pos before.signals scope a low h.0)

  block_met : (y : s.BlockNode-F ℕ What Block Node)
      → IsMetBlock (roll-BlockNode ℕ (map-BlockNode ℕ What Block Node (Statement ℕ) (BlockNode ℕ)
      (StatementNode ℕ) (λ n. n.0) (λ n. n.0) (λ n. n.0) y))
  block_met y scope before low h =
      let x : s.BlockNode-F ℕ (Statement ℕ) (BlockNode ℕ) (StatementNode ℕ) =
      record { pos = y.pos; statements = map (λ n. n.0) y.statements } in
      let walked = fold-roll-BlockNode ℕ (Walk ℕ) (Walk ℕ) (Walk ℕ) parts.statement_step parts.block_step
      (λ n. n.what) x in
      let meant = fold-roll-BlockNode ℕ (Pos → Naming) Naming Naming (tree.statement_step k) (tree.block_step k)
      tree.node_step x in
      let after = (parts.in_order (map node_walk (map (λ n. n.0) y.statements)) scope before).after in
      let rs = map (of_node k) (map (λ n. n.0) y.statements) in
      let inner : Met (tree.block_step k (record { pos = y.pos; statements = rs })) before after =
      λ c. row.listed_named modules y.pos c before.signals after.signals rs
      (statements y.statements scope before low (subst (λ (z : Walk ℕ). Holds (z scope before).parts) walked h) c) in
      subst (λ z. Met z before (block_walk (roll-BlockNode ℕ x) scope before).after) (sym meant)
      (subst (λ (z : Walk ℕ). Met (tree.block_step k (record { pos = y.pos; statements = rs })) before
      (z scope before).after) (sym walked) inner)

  node_met : (y : s.StatementNode-F ℕ What Block Node)
      → IsMetNode (roll-StatementNode ℕ (map-StatementNode ℕ What Block Node (Statement ℕ) (BlockNode ℕ)
      (StatementNode ℕ) (λ n. n.0) (λ n. n.0) (λ n. n.0) y))
  node_met y scope before low h =
      let x : s.StatementNode-F ℕ (Statement ℕ) (BlockNode ℕ) (StatementNode ℕ) =
      record { pos = y.pos; what = y.what.0 } in
      let walked = fold-roll-StatementNode ℕ (Walk ℕ) (Walk ℕ) (Walk ℕ) parts.statement_step
      parts.block_step (λ n. n.what) x in
      let meant = fold-roll-StatementNode ℕ (Pos → Naming) Naming Naming (tree.statement_step k)
      (tree.block_step k) tree.node_step x in
      subst (λ z. Met z before (node_walk (roll-StatementNode ℕ x) scope before).after) (sym meant)
      (subst (λ (z : Walk ℕ). Met (of_statement k y.what.0 y.pos) before (z scope before).after) (sym walked)
      (y.what.1 y.pos scope before low (subst (λ (z : Walk ℕ). Holds (z scope before).parts) walked h)))

  -- a block whose parts pass the tests
  pub blocks_met : (b : BlockNode ℕ) → IsMetBlock b
  blocks_met =
      ind-BlockNode ℕ IsMet IsMetBlock IsMetNode
      (λ x y is. subst (λ (z : Layer). IsMet (roll-Statement ℕ z)) is (statement_met y))
      (λ x y is. subst (λ (z : s.BlockNode-F ℕ (Statement ℕ) (BlockNode ℕ) (StatementNode ℕ)). IsMetBlock
      (roll-BlockNode ℕ z)) is (block_met y))
      (λ x y is. subst (λ (z : s.StatementNode-F ℕ (Statement ℕ) (BlockNode ℕ) (StatementNode ℕ)).
      IsMetNode (roll-StatementNode ℕ z)) is (node_met y))

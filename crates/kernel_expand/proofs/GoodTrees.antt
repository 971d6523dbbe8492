-- Each block of a linked text is good where its parts pass the tests and the modules that it runs are good.
use Rattle.std.proofs.Common.{◌≡◌, ℕ, suc, ◌+◌, List, [], ◌∷◌, ◌++◌, length, map, Some, None}
use Rattle.std.proofs.Common.{refl, sym, ap, subst, ◌∙◌, arith, append_assoc, length-append}
use Rattle.std.specs.Prelude.{slice_get}
use Rattle.std.specs.List.{AllByRecursion, flat_map}
use Rattle.hh_base.specs.declared.value.Pos.{Pos}
use Rattle.hh_base.specs.declared.value.Kind.{Kind}
use Rattle.module_tree.specs.declared.source.SignalNode.{SignalNode}
use Rattle.module_tree.specs.declared.source.BlockNode.{BlockNode, roll-BlockNode}
use Rattle.module_tree.specs.declared.source.StatementNode.{StatementNode, roll-StatementNode}
use Rattle.module_tree.specs.declared.source.Statement.{Statement, roll-Statement}
use Rattle.module_tree.specs.declared.source.Statement.TheOpen as s
use Rattle.module_tree.specs.declared.source.Statement.TheFolds.{fold-Statement, fold-StatementNode}
use Rattle.module_tree.specs.declared.source.Statement.TheFolds.{fold-roll-Statement, fold-roll-StatementNode}
use Rattle.module_tree.specs.declared.source.Statement.TheFolds.{fold-roll-BlockNode, ind-BlockNode}
use Rattle.module_tree.specs.declared.source.Statement.TheFolds.{map-Statement, map-StatementNode}
use Rattle.module_tree.specs.declared.source.Statement.TheFolds.{map-BlockNode}
use Rattle.module_tree.specs.declared.source.Later.{Later}
use Rattle.module_tree.specs.declared.source.Later.TheVariants as later
use Rattle.module_tree.specs.declared.source.Delay.{Delay}
use Rattle.module_tree.specs.declared.source.Delay.TheVariants as delay
use Rattle.module_tree.specs.Scopes.{InScope, Declared}
use Rattle.module_tree.specs.LinkedFacts.{Known, locals_of}
use Rattle.module_tree.specs.Parts as parts
use Rattle.module_tree.specs.Parts.{Walk, Walked, Placed, block_walk, Test, Locals}
use Rattle.hh_term.specs.Kernel.{Body}
use Rattle.kernel_expand.specs.Interpretation as tree
use Rattle.kernel_expand.specs.Interpretation.{Kernel, of_statement, of_node, of_block, test_of, value_of}
use Rattle.kernel_expand.specs.Numbering.{Piece, numbering}
use Rattle.kernel_expand.proofs.Replaced.{both_all}
use Rattle.kernel_expand.proofs.Good.{Plain, Good, good_nothing, good_pause, good_choice, good_loop}
use Rattle.kernel_expand.proofs.Good.{still}
use Rattle.kernel_expand.proofs.GoodNames.{good_leave, good_named_trap, good_emit, good_locals}
use Rattle.kernel_expand.proofs.GoodSites.{good_async}
use Rattle.kernel_expand.proofs.GoodRows as row
use Rattle.kernel_expand.proofs.GoodRows.{Chain, IsLater, IsDelay}
use Rattle.kernel_expand.proofs.GoodParts.{PartStands, BodiesAre, test_stands, emission_stands, start_stands}
use Rattle.kernel_expand.proofs.GoodParts.{refers_there, locals_fit}
use Rattle.kernel_expand.proofs.GoodRuns.{GoodModules, good_run}

-- the local signals that parts declare
abbrev pub locals_in : List (Placed ℕ) → List SignalNode
locals_in = flat_map (λ (p : Placed ℕ). locals_of p.part)

pub locals_joined : (ps qs : List (Placed ℕ)) → locals_in (ps ++ qs) ≡ locals_in ps ++ locals_in qs
locals_joined [] qs = refl
locals_joined (p ∷ ps) qs = ap (λ z. locals_of p.part ++ z) (locals_joined ps qs)
    ∙ sym (append_assoc (locals_of p.part) (locals_in ps) (locals_in qs))

pub behind : {A : Type 0} (xs ys : List A) (i : ℕ) (x : A) → slice_get ys i ≡ Some x
    → slice_get (xs ++ ys) (length xs + i) ≡ Some x
behind [] ys i x e =
    let here : 0 + i ≡ i = omega arith in
    ap (slice_get ys) here ∙ e
behind (z ∷ xs) ys i x e =
    let there : suc (length xs) + i ≡ suc (length xs + i) = omega arith in
    ap (slice_get (z ∷ (xs ++ ys))) there ∙ behind xs ys i x e

-- the module has these local signals from this place on
abbrev pub Aligned : List Kind → ℕ → List SignalNode → Type 0
Aligned kinds b ds = (i : ℕ) (d : SignalNode) → slice_get ds i ≡ Some d → slice_get kinds (b + i) ≡ Some d.kind

aligned_front : (kinds : List Kind) (b : ℕ) (xs ys : List SignalNode) → Aligned kinds b (xs ++ ys)
    → Aligned kinds b xs
aligned_front kinds b xs ys h i d e = h i d (still xs ys i d e)

aligned_back : (kinds : List Kind) (b : ℕ) (xs ys : List SignalNode) → Aligned kinds b (xs ++ ys)
    → Aligned kinds (b + length xs) ys
aligned_back kinds b xs ys h i d e =
    let at : b + (length xs + i) ≡ (b + length xs) + i = omega arith in
    subst (λ z. slice_get kinds z ≡ Some d.kind) at (h (length xs + i) d (behind xs ys i d e))

module _ (bodies : List Body) (interface : ℕ) (known : Known) (are : BodiesAre bodies interface known)
    (f : ℕ → Piece) (runs : GoodModules bodies interface f known.interfaces) where
  abbrev k : Kernel Piece
  k = numbering f

  abbrev G : InScope → Declared → Declared → Piece → Type 0
  G = Good bodies interface known.kinds Plain

  pub record Holds (b : ℕ) (ps : List (Placed ℕ)) : Type 0 where
    pub stand : AllByRecursion (PartStands known) ps
    pub aligned : Aligned known.kinds b (locals_in ps)

  pub record Met (p : Piece) (scope : InScope) (before : Declared) (w : Walked ℕ) : Type 0 where
    pub good : G scope before w.after p
    pub counted : w.after.signals ≡ before.signals + length (locals_in w.parts)

  split : (b : ℕ) (ps qs : List (Placed ℕ)) → Holds b (ps ++ qs) → Holds b ps
      × Holds (b + length (locals_in ps)) qs
  split b ps qs h =
      let q = both_all (PartStands known) ps qs h.stand in
      let al = subst (Aligned known.kinds b) (locals_joined ps qs) h.aligned in (
        record { stand = q.0; aligned = aligned_front known.kinds b (locals_in ps) (locals_in qs) al },
        record { stand = q.1; aligned = aligned_back known.kinds b (locals_in ps) (locals_in qs) al },
      )

  -- one piece of the text behind another
  split_walk : (before : Declared) (w : Walked ℕ) (qs : List (Placed ℕ)) → Holds before.signals (w.parts ++ qs)
      → (w.after.signals ≡ before.signals + length (locals_in w.parts) → Holds w.after.signals qs)
  split_walk before w qs h e = subst (λ z. Holds z qs) (sym e) (split before.signals w.parts qs h).1

  no_more : (b : ℕ) → b ≡ b + 0
  no_more b = omega arith

  counted_both : (a b c : ℕ) (ps qs : List (Placed ℕ)) → b ≡ a + length (locals_in ps)
      → c ≡ b + length (locals_in qs) → c ≡ a + length (locals_in (ps ++ qs))
  counted_both a b c ps qs e g =
      let both : length (locals_in (ps ++ qs)) ≡ length (locals_in ps) + length (locals_in qs) =
      ap length (locals_joined ps qs) ∙ length-append (locals_in ps) (locals_in qs) in
      omega (arith, both, e, g)

  abbrev statement_walk : Statement ℕ → Walk ℕ
  statement_walk = fold-Statement ℕ (Walk ℕ) (Walk ℕ) (Walk ℕ) parts.statement_step parts.block_step
      (λ n. n.what)

  abbrev node_walk : StatementNode ℕ → Walk ℕ
  node_walk = fold-StatementNode ℕ (Walk ℕ) (Walk ℕ) (Walk ℕ) parts.statement_step parts.block_step
      (λ n. n.what)

  abbrev Layer : Type 0
  Layer = s.Statement-F ℕ (Statement ℕ) (BlockNode ℕ) (StatementNode ℕ)

  abbrev IsMet : Statement ℕ → Type 0
  IsMet x = (pos : Pos) (scope : InScope) (before : Declared)
      → Holds before.signals (statement_walk x scope before).parts
      → Met (of_statement k x pos) scope before (statement_walk x scope before)

  abbrev IsMetNode : StatementNode ℕ → Type 0
  IsMetNode x = (scope : InScope) (before : Declared) → Holds before.signals (node_walk x scope before).parts
      → Met (of_node k x) scope before (node_walk x scope before)

  abbrev pub IsMetBlock : BlockNode ℕ → Type 0
  IsMetBlock x = (scope : InScope) (before : Declared) → Holds before.signals (block_walk x scope before).parts
      → Met (of_block k x) scope before (block_walk x scope before)

  abbrev What : Type 0
  What = (x : Statement ℕ) × IsMet x

  abbrev Node : Type 0
  Node = (x : StatementNode ℕ) × IsMetNode x

  abbrev Block : Type 0
  Block = (x : BlockNode ℕ) × IsMetBlock x

  walks_in : Layer → s.Statement-F ℕ (Walk ℕ) (Walk ℕ) (Walk ℕ)
  walks_in = map-Statement ℕ (Statement ℕ) (BlockNode ℕ) (StatementNode ℕ) (Walk ℕ) (Walk ℕ)
      (Walk ℕ) statement_walk block_walk node_walk

  k_in : Layer → s.Statement-F ℕ (Pos → Piece) Piece Piece
  k_in = map-Statement ℕ (Statement ℕ) (BlockNode ℕ) (StatementNode ℕ) (Pos → Piece) Piece Piece
      (of_statement k) (of_block k) (of_node k)

  by_layer : (y : Layer) → ((pos : Pos) (scope : InScope) (before : Declared)
      → Holds before.signals (parts.statement_step (walks_in y) scope before).parts
      → Met (tree.statement_means (k pos) (k_in y)) scope before
      (parts.statement_step (walks_in y) scope before)) → IsMet (roll-Statement ℕ y)
  unfolding walks_in k_in
  by_layer y g pos scope before h =
      let walked = fold-roll-Statement ℕ (Walk ℕ) (Walk ℕ) (Walk ℕ) parts.statement_step parts.block_step
      (λ n. n.what) y in
      let meant = fold-roll-Statement ℕ (Pos → Piece) Piece Piece (tree.statement_step k) (tree.block_step k)
      tree.node_step y in
      subst (λ (z : Pos → Piece). Met (z pos) scope before (statement_walk (roll-Statement ℕ y) scope before))
      (sym meant)
      (subst (λ (z : Walk ℕ). Met (tree.statement_means (k pos) (k_in y)) scope before (z scope before))
      (sym walked)
      (g pos scope before (subst (λ (z : Walk ℕ). Holds before.signals (z scope before).parts) walked h)))

  branches : (bs : List Block) (scope : InScope) (before : Declared)
      → Holds before.signals (parts.in_order (map block_walk (map (λ b. b.0) bs)) scope before).parts
      → Chain bodies interface known.kinds scope Plain before (map (of_block k) (map (λ b. b.0) bs))
      (parts.in_order (map block_walk (map (λ b. b.0) bs)) scope before).after
      × ((parts.in_order (map block_walk (map (λ b. b.0) bs)) scope before).after.signals ≡ before.signals
      + length (locals_in (parts.in_order (map block_walk (map (λ b. b.0) bs)) scope before).parts))
  branches [] scope before h = (refl, no_more before.signals)
  branches (b ∷ bs) scope before h =
      let first = block_walk b.0 scope before in
      let others = parts.in_order (map block_walk (map (λ b. b.0) bs)) scope first.after in
      let m = b.1 scope before (split before.signals first.parts others.parts h).0 in
      let q = branches bs scope first.after (split_walk before first others.parts h m.counted) in (
        (first.after, m.good, q.0),
        counted_both before.signals first.after.signals others.after.signals
            first.parts others.parts m.counted q.1,
      )

  statements : (ns : List Node) (scope : InScope) (before : Declared)
      → Holds before.signals (parts.in_order (map node_walk (map (λ n. n.0) ns)) scope before).parts
      → Chain bodies interface known.kinds scope Plain before (map (of_node k) (map (λ n. n.0) ns))
      (parts.in_order (map node_walk (map (λ n. n.0) ns)) scope before).after
      × ((parts.in_order (map node_walk (map (λ n. n.0) ns)) scope before).after.signals ≡ before.signals
      + length (locals_in (parts.in_order (map node_walk (map (λ n. n.0) ns)) scope before).parts))
  statements [] scope before h = (refl, no_more before.signals)
  statements (n ∷ ns) scope before h =
      let first = node_walk n.0 scope before in
      let others = parts.in_order (map node_walk (map (λ n. n.0) ns)) scope first.after in
      let m = n.1 scope before (split before.signals first.parts others.parts h).0 in
      let q = statements ns scope first.after (split_walk before first others.parts h m.counted) in (
        (first.after, m.good, q.0),
        counted_both before.signals first.after.signals others.after.signals
            first.parts others.parts m.counted q.1,
      )

  -- behind a test, which declares nothing
  tail : (b : ℕ) (p : Placed ℕ) (ps : List (Placed ℕ)) → locals_of p.part ≡ [] → Holds b (p ∷ ps) → Holds b ps
  tail b p ps e h = record {
    stand = h.stand.1;
    aligned = subst (λ z. Aligned known.kinds b (z ++ locals_in ps)) e h.aligned;
  }

  -- a delay before a block, or behind one
  behind_delay : (pos : Pos) (d : Delay ℕ) (b : Block) (scope : InScope) (before : Declared)
      → Holds before.signals (parts.then (parts.delay_walk d) (block_walk b.0) scope before).parts
      → IsDelay bodies interface known.kinds scope f pos d
      × Met (of_block k b.0) scope before (parts.then (parts.delay_walk d) (block_walk b.0) scope before)
  behind_delay pos (delay.Later (later.Once x)) b scope before h =
      let m = b.1 scope before (tail before.signals _ _ refl h) in
      (test_stands bodies interface known scope x h.stand.0, record { good = m.good; counted = m.counted })
  behind_delay pos (delay.Later (later.Count n x)) b scope before h =
      let m = b.1 scope before (tail before.signals _ _ refl (tail before.signals _ _ refl h)) in
      (test_stands bodies interface known scope x h.stand.1.0, record { good = m.good; counted = m.counted })
  behind_delay pos (delay.Immediate x) b scope before h =
      let m = b.1 scope before (tail before.signals _ _ refl h) in
      (test_stands bodies interface known scope x h.stand.0, record { good = m.good; counted = m.counted })

  of_later : (pos : Pos) (d : Later ℕ) (scope : InScope) (b : ℕ) (before : Declared)
      → Holds b (parts.plain_walk d scope before).parts → IsLater bodies interface known.kinds scope f pos d
  of_later pos (later.Once x) scope b before h = test_stands bodies interface known scope x h.stand.0
  of_later pos (later.Count n x) scope b before h = test_stands bodies interface known scope x h.stand.1.0

  of_delay : (pos : Pos) (d : Delay ℕ) (scope : InScope) (b : ℕ) (before : Declared)
      → Holds b (parts.delay_walk d scope before).parts → IsDelay bodies interface known.kinds scope f pos d
  of_delay pos (delay.Later d) scope b before h = of_later pos d scope b before h
  of_delay pos (delay.Immediate x) scope b before h = test_stands bodies interface known scope x h.stand.0

  later_declares_none : (d : Later ℕ) (scope : InScope) (before : Declared)
      → (locals_in (parts.plain_walk d scope before).parts ≡ [])
      × ((parts.plain_walk d scope before).after ≡ before)
  later_declares_none (later.Once x) scope before = (refl, refl)
  later_declares_none (later.Count n x) scope before = (refl, refl)

  delay_declares_none : (d : Delay ℕ) (scope : InScope) (before : Declared)
      → (locals_in (parts.delay_walk d scope before).parts ≡ [])
      × ((parts.delay_walk d scope before).after ≡ before)
  delay_declares_none (delay.Later d) scope before = later_declares_none d scope before
  delay_declares_none (delay.Immediate x) scope before = (refl, refl)

  none_counted : (b : ℕ) (ds : List SignalNode) → ds ≡ [] → b ≡ b + length ds
  none_counted b ds e = no_more b ∙ ap (λ z. b + length z) (sym e)

  abbrev in_kinds : List Kind
  in_kinds = known.kinds

  statement_met : (y : s.Statement-F ℕ What Block Node)
      → IsMet (roll-Statement ℕ (map-Statement ℕ What Block Node (Statement ℕ) (BlockNode ℕ)
      (StatementNode ℕ) (λ n. n.0) (λ n. n.0) (λ n. n.0) y))
  unfolding walks_in k_in
  statement_met s.Nothing = by_layer s.Nothing (λ pos scope before h. record {
    good = good_nothing bodies interface in_kinds f pos Plain scope before;
    counted = no_more before.signals;
  })
  statement_met s.Pause = by_layer s.Pause (λ pos scope before h. record {
    good = good_pause bodies interface in_kinds f pos Plain scope before;
    counted = no_more before.signals;
  })
  statement_met s.Halt = by_layer s.Halt (λ pos scope before h. record {
    good = row.good_halt bodies interface in_kinds scope f pos Plain before;
    counted = no_more before.signals;
  })
  statement_met (s.Emit n x) = by_layer (s.Emit n x) (λ pos scope before h. record {
    good = good_emit bodies interface in_kinds f pos Plain scope before n.name (value_of x)
        (emission_stands bodies interface known f pos scope n x h.stand.0);
    counted = no_more before.signals;
  })
  statement_met (s.Sustain n x) = by_layer (s.Sustain n x) (λ pos scope before h. record {
    good = row.good_sustain bodies interface in_kinds scope f pos Plain before n.name (value_of x)
        (emission_stands bodies interface known f pos scope n x h.stand.0);
    counted = no_more before.signals;
  })
  statement_met (s.If x p None) =
      by_layer (s.If x p.0 None)
      (λ pos scope before h.
      let w = block_walk p.0 scope before in
      let rest = tail before.signals _ _ refl h in
      let m = p.1 scope before (split before.signals w.parts [] rest).0 in
      record {
        good = good_choice bodies interface in_kinds f pos Plain scope before w.after w.after (test_of x) _ _
            (test_stands bodies interface known scope x h.stand.0) m.good
            (good_nothing bodies interface in_kinds f pos Plain scope w.after);
        counted = counted_both before.signals w.after.signals w.after.signals w.parts [] m.counted
            (no_more w.after.signals);
      })
  statement_met (s.If x p (Some o)) =
      by_layer (s.If x p.0 (Some o.0))
      (λ pos scope before h.
      let w = block_walk p.0 scope before in
      let v = block_walk o.0 scope w.after in
      let rest = tail before.signals _ _ refl h in
      let m = p.1 scope before (split before.signals w.parts v.parts rest).0 in
      let l = o.1 scope w.after (split_walk before w v.parts rest m.counted) in
      record {
        good = good_choice bodies interface in_kinds f pos Plain scope before w.after v.after (test_of x) _ _
            (test_stands bodies interface known scope x h.stand.0) m.good l.good;
        counted = counted_both before.signals w.after.signals v.after.signals w.parts v.parts m.counted l.counted;
      })
  statement_met (s.Loop p) =
      by_layer (s.Loop p.0)
      (λ pos scope before h.
      let m = p.1 scope before h in
      record {
        good = good_loop bodies interface in_kinds f pos Plain scope before _ _ m.good;
        counted = m.counted;
      })
  statement_met (s.Fork ps) =
      by_layer (s.Fork (map (λ b. b.0) ps))
      (λ pos scope before h.
      let q = branches ps scope before h in
      record {
        good = row.good_forked bodies interface in_kinds scope f pos Plain before _ _ q.0;
        counted = q.1;
      })
  statement_met (s.Block p) = by_layer (s.Block p.0) (λ pos scope before h. p.1 scope before h)
  statement_met (s.Await d) =
      by_layer (s.Await d)
      (λ pos scope before h.
      let none = delay_declares_none d scope before in
      record {
        good = subst (λ z. G scope before z (tree.await (k pos) d)) (sym none.1)
            (row.good_await bodies interface in_kinds scope f pos d before (of_delay pos d scope before.signals
            before h));
        counted = ap (λ (z : Declared). z.signals) none.1 ∙ none_counted before.signals _ none.0;
      })
  statement_met (s.Every d p) =
      by_layer (s.Every d p.0)
      (λ pos scope before h.
      let q = behind_delay pos d p scope before h in
      record {
        good = row.good_every bodies interface in_kinds scope f pos d before _ _ q.0 q.1.good;
        counted = q.1.counted;
      })
  statement_met (s.DoEvery p d) =
      by_layer (s.DoEvery p.0 d)
      (λ pos scope before h.
      let w = block_walk p.0 scope before in
      let v = parts.plain_walk d scope w.after in
      let m = p.1 scope before (split before.signals w.parts v.parts h).0 in
      let none = later_declares_none d scope w.after in
      let test = of_later pos d scope w.after.signals w.after (split_walk before w v.parts h m.counted) in
      record {
        good = subst (λ z. G scope before z (tree.do_every (k pos) d (of_block k p.0))) (sym none.1)
            (row.good_do_every bodies interface in_kinds scope f pos d before w.after _ test m.good);
        counted = counted_both before.signals w.after.signals v.after.signals w.parts v.parts m.counted
            (ap (λ (z : Declared). z.signals) none.1 ∙ none_counted w.after.signals _ none.0);
      })
  statement_met (s.Abort d p) =
      by_layer (s.Abort d p.0)
      (λ pos scope before h.
      let q = behind_delay pos d p scope before h in
      record {
        good = row.good_abort bodies interface in_kinds scope f pos d before _ _ q.0 q.1.good;
        counted = q.1.counted;
      })
  statement_met (s.WeakAbort d p) =
      by_layer (s.WeakAbort d p.0)
      (λ pos scope before h.
      let q = behind_delay pos d p scope before h in
      record {
        good = row.good_weak_abort bodies interface in_kinds scope f pos d before _ _ q.0 q.1.good;
        counted = q.1.counted;
      })
  statement_met (s.Suspend i x p) =
      by_layer (s.Suspend i x p.0)
      (λ pos scope before h.
      let m = p.1 scope before (tail before.signals _ _ refl h) in
      record {
        good = row.good_suspended bodies interface in_kinds scope f pos (test_of x)
            (test_stands bodies interface known scope x h.stand.0) before _ _ m.good i;
        counted = m.counted;
      })
  statement_met (s.Signal sigs p) =
      by_layer (s.Signal sigs p.0)
      (λ pos scope before h.
      let inner : Declared = record { signals = before.signals + length sigs; traps = before.traps } in
      let w = parts.locals_walk sigs (block_walk p.0) scope before in
      let rest : Holds (before.signals + length sigs) w.parts = record {
        stand = h.stand.1;
        aligned = aligned_back in_kinds before.signals sigs (locals_in w.parts) h.aligned;
      } in
      let m = p.1 _ inner rest in
      record {
        good = good_locals bodies interface in_kinds f pos scope before w.after sigs (of_block k p.0)
            (aligned_front in_kinds before.signals sigs (locals_in w.parts) h.aligned)
            (locals_fit sigs h.stand.0.kinds) m.good;
        counted = (let both = length-append sigs (locals_in w.parts) in let c = m.counted in
            let all : w.after.signals ≡ before.signals + length (sigs ++ locals_in w.parts) =
            omega (arith, both, c) in all);
      })
  statement_met (s.Trap n p) =
      by_layer (s.Trap n p.0)
      (λ pos scope before h.
      let inner : Declared = record { signals = before.signals; traps = before.traps + 1 } in
      let m = p.1 _ inner h in
      record {
        good = good_named_trap bodies interface in_kinds f pos scope before _ n (of_block k p.0) m.good;
        counted = m.counted;
      })
  statement_met (s.Break n) = by_layer (s.Break n) (λ pos scope before h. record {
    good = good_leave bodies interface in_kinds f pos Plain scope before n.name
        (refers_there known (record { scope = scope; part = parts.Exit n }) h.stand.0);
    counted = no_more before.signals;
  })
  statement_met (s.Run n bindings) = by_layer (s.Run n bindings) (λ pos scope before h. record {
    good = good_run bodies interface known f pos runs scope before n bindings Plain h.stand.0;
    counted = no_more before.signals;
  })
  statement_met (s.Async a) = by_layer (s.Async a) (λ pos scope before h. record {
    good = good_async bodies interface in_kinds f pos Plain scope before a
        (start_stands bodies interface known are scope a h.stand.0);
    counted = no_more before.signals;
  })

  block_met : (y : s.BlockNode-F ℕ What Block Node)
      → IsMetBlock (roll-BlockNode ℕ (map-BlockNode ℕ What Block Node (Statement ℕ) (BlockNode ℕ)
      (StatementNode ℕ) (λ n. n.0) (λ n. n.0) (λ n. n.0) y))
  block_met y scope before h =
      let x : s.BlockNode-F ℕ (Statement ℕ) (BlockNode ℕ) (StatementNode ℕ) =
      record { pos = y.pos; statements = map (λ n. n.0) y.statements } in
      let walked = fold-roll-BlockNode ℕ (Walk ℕ) (Walk ℕ) (Walk ℕ) parts.statement_step parts.block_step
      (λ n. n.what) x in
      let meant = fold-roll-BlockNode ℕ (Pos → Piece) Piece Piece (tree.statement_step k) (tree.block_step k)
      tree.node_step x in
      let q = statements y.statements scope before
      (subst (λ (z : Walk ℕ). Holds before.signals (z scope before).parts) walked h) in
      let inner : Met (tree.block_step k (record {
        pos = y.pos;
        statements = map (of_node k)
            (map (λ n. n.0) y.statements);
      })) scope before
      (parts.in_order (map node_walk (map (λ n. n.0) y.statements)) scope before) = record {
        good = row.good_listed bodies interface in_kinds scope f y.pos Plain before _ _ q.0;
        counted = q.1;
      } in
      subst (λ z. Met z scope before (block_walk (roll-BlockNode ℕ x) scope before)) (sym meant)
      (subst (λ (z : Walk ℕ). Met (tree.block_step k (record {
        pos = y.pos;
        statements = map (of_node k)
            (map (λ n. n.0) y.statements);
      })) scope before (z scope before)) (sym walked) inner)

  node_met : (y : s.StatementNode-F ℕ What Block Node)
      → IsMetNode (roll-StatementNode ℕ (map-StatementNode ℕ What Block Node (Statement ℕ) (BlockNode ℕ)
      (StatementNode ℕ) (λ n. n.0) (λ n. n.0) (λ n. n.0) y))
  node_met y scope before h =
      let x : s.StatementNode-F ℕ (Statement ℕ) (BlockNode ℕ) (StatementNode ℕ) =
      record { pos = y.pos; what = y.what.0 } in
      let walked = fold-roll-StatementNode ℕ (Walk ℕ) (Walk ℕ) (Walk ℕ) parts.statement_step
      parts.block_step (λ n. n.what) x in
      let meant = fold-roll-StatementNode ℕ (Pos → Piece) Piece Piece (tree.statement_step k)
      (tree.block_step k) tree.node_step x in
      subst (λ z. Met z scope before (node_walk (roll-StatementNode ℕ x) scope before)) (sym meant)
      (subst (λ (z : Walk ℕ). Met (of_statement k y.what.0 y.pos) scope before (z scope before)) (sym walked)
      (y.what.1 y.pos scope before (subst (λ (z : Walk ℕ). Holds before.signals (z scope before).parts)
      walked h)))

  -- a block whose parts pass the tests is good
  pub blocks_met : (b : BlockNode ℕ) → IsMetBlock b
  blocks_met =
      ind-BlockNode ℕ IsMet IsMetBlock IsMetNode
      (λ x y is. subst (λ (z : Layer). IsMet (roll-Statement ℕ z)) is (statement_met y))
      (λ x y is. subst (λ (z : s.BlockNode-F ℕ (Statement ℕ) (BlockNode ℕ) (StatementNode ℕ)). IsMetBlock
      (roll-BlockNode ℕ z)) is (block_met y))
      (λ x y is. subst (λ (z : s.StatementNode-F ℕ (Statement ℕ) (BlockNode ℕ) (StatementNode ℕ)).
      IsMetNode (roll-StatementNode ℕ z)) is (node_met y))

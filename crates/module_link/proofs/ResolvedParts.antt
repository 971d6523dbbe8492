-- The parts of a module whose names are resolved: those of the module as it is written, each resolved in its
-- scope.
use Rattle.std.proofs.Common.{◌≡◌, ℕ, List, [], ◌∷◌, ◌+◌, map, length, Some, None, option_map, refl, sym, ap}
use Rattle.std.proofs.Common.{subst, ◌∙◌}
use Rattle.std.proofs.lemmas.List.{map-append}
use Rattle.module_tree.specs.declared.source.SignalNode.{SignalNode}
use Rattle.module_tree.specs.declared.source.ModuleNode.{ModuleNode}
use Rattle.module_tree.specs.declared.source.BlockNode.{BlockNode, roll-BlockNode}
use Rattle.module_tree.specs.declared.source.StatementNode.{StatementNode, roll-StatementNode}
use Rattle.module_tree.specs.declared.source.Statement.{Statement, roll-Statement}
use Rattle.module_tree.specs.declared.source.Statement.TheOpen as s
use Rattle.module_tree.specs.declared.source.Statement.TheVariants as variant
use Rattle.module_tree.specs.declared.source.Statement.TheFolds.{fold-Statement, fold-StatementNode}
use Rattle.module_tree.specs.declared.source.Statement.TheFolds.{fold-roll-Statement, fold-roll-StatementNode}
use Rattle.module_tree.specs.declared.source.Statement.TheFolds.{fold-roll-BlockNode, ind-BlockNode}
use Rattle.module_tree.specs.declared.source.Statement.TheFolds.{map-Statement, map-StatementNode}
use Rattle.module_tree.specs.declared.source.Statement.TheFolds.{map-BlockNode}
use Rattle.module_tree.specs.declared.source.Later.{Later}
use Rattle.module_tree.specs.declared.source.Later.TheVariants as later
use Rattle.module_tree.specs.declared.source.Delay.{Delay}
use Rattle.module_tree.specs.declared.source.Delay.TheVariants as delay
use Rattle.module_tree.specs.Scopes.{InScope, Declared, with_signals, with_trap, interface_signals}
use Rattle.module_tree.specs.Parts as parts
use Rattle.module_tree.specs.Parts.{StatementPart, Test, Times, Emission, Locals, Exit, Call, Start}
use Rattle.module_tree.specs.Parts.{Placed, Walked, Walk, block_walk, joined, here, in_order, parts_of}
use Rattle.link_faults.specs.Named.{Name, module_named}
use Rattle.link_faults.specs.Rows.{Program, module_place}
use Rattle.module_link.specs.Resolved as tree
use Rattle.module_link.specs.Resolved.{Ended, Resolve, resolved_block, resolved, resolved_name, signal_place}
use Rattle.module_link.specs.Resolved.{trap_place, or_first, resolved_bindings, resolved_async}
use Rattle.module_link.specs.Resolved.{resolved_later, resolved_delay, resolved_module}

-- ---- one part

abbrev pub resolved_in : Program → InScope → StatementPart Name → StatementPart ℕ
resolved_in program scope (Test x) = Test (resolved scope x)
resolved_in program scope (Times n) = Times n
resolved_in program scope (Emission n value) = Emission (resolved_name (signal_place scope) n)
    (option_map (resolved scope) value)
resolved_in program scope (Locals signals) = Locals signals
resolved_in program scope (Exit t) = Exit (resolved_name (trap_place scope) t)
resolved_in program scope (Call callee bindings) =
    Call (resolved_name (λ m. or_first (module_place program m)) callee)
    (resolved_bindings scope callee.pos bindings (module_named program callee.name))
resolved_in program scope (Start a) = Start (resolved_async program scope a)

abbrev pub resolved_placed : Program → Placed Name → Placed ℕ
resolved_placed program p = record { scope = p.scope; part = resolved_in program p.scope p.part }

abbrev pub as_resolved : Program → Walked Name → Walked ℕ
as_resolved program w = record { parts = map (resolved_placed program) w.parts; after = w.after }

-- ---- a piece of the text: where it is resolved, its parts are, and as much is declared behind it

pub record Agree (program : Program) (A : Type 0) (r : Resolve A) (walk : A → Walk ℕ) (w : Walk Name)
    : Type 0 where
  pub after : (scope : InScope) (before : Declared) → (r scope before).after ≡ (w scope before).after
  pub parts : (scope : InScope) (before : Declared)
      → walk (r scope before).tree scope before ≡ as_resolved program (w scope before)

abbrev statement_walk : (R : Type 0) → Statement R → Walk R
statement_walk R = fold-Statement R (Walk R) (Walk R) (Walk R) parts.statement_step parts.block_step
    (λ n. n.what)

abbrev node_walk : (R : Type 0) → StatementNode R → Walk R
node_walk R = fold-StatementNode R (Walk R) (Walk R) (Walk R) parts.statement_step parts.block_step
    (λ n. n.what)

module _ (program : Program) where
  -- one piece and then another, in both trees
  both : (scope : InScope) (before : Declared) (a : Walk Name) (b : Walk Name) (a' : Walk ℕ) (b' : Walk ℕ)
      → a' scope before ≡ as_resolved program (a scope before)
      → b' scope (a scope before).after ≡ as_resolved program (b scope (a scope before).after)
      → parts.then a' b' scope before ≡ as_resolved program (parts.then a b scope before)
  both scope before a b a' b' e f =
      ap (λ (v : Walked ℕ). joined v.parts (b' scope v.after)) e
      ∙ ap (λ (v : Walked ℕ). joined (map (resolved_placed program) (a scope before).parts) v) f
      ∙ ap (λ (ps : List (Placed ℕ)). record {
        parts = ps;
        after = (b scope (a scope before).after).after;
      }) (sym (map-append (resolved_placed program) (a scope before).parts
      (b scope (a scope before).after).parts))

  -- behind a piece, from where it ends
  after_piece : {A : Type 0} (r : Resolve A) (walk : A → Walk ℕ) (w : Walk Name) → Agree program A r walk w
      → (scope : InScope) (d d' : Declared) → d ≡ d' → (r scope d).after ≡ (w scope d').after
  after_piece r walk w a scope d d' e = a.after scope d ∙ ap (λ (z : Declared). (w scope z).after) e

  parts_of_piece : {A : Type 0} (r : Resolve A) (walk : A → Walk ℕ) (w : Walk Name)
      → Agree program A r walk w → (scope : InScope) (d d' : Declared) → d ≡ d'
      → walk (r scope d).tree scope d' ≡ as_resolved program (w scope d')
  parts_of_piece r walk w a scope d d' e =
      subst (λ (z : Declared). walk (r scope d).tree scope z ≡ as_resolved program (w scope z)) e
      (a.parts scope d)

  -- one piece behind another
  module _ {S T : Type 0} (r : S → Resolve T) (walk : T → Walk ℕ) (w : S → Walk Name) where
    abbrev Piece : Type 0
    Piece = (x : S) × Agree program T (r x) walk (w x)

    abbrev pieces_resolved : List Piece → Resolve (List T)
    pieces_resolved ps = tree.each (map r (map (λ p. p.0) ps))

    abbrev pieces_walk : List Piece → Walk Name
    pieces_walk ps = in_order (map w (map (λ p. p.0) ps))

    pieces : (ps : List Piece) (scope : InScope) (d d' : Declared) → d ≡ d'
        → ((pieces_resolved ps scope d).after ≡ (pieces_walk ps scope d').after)
        × (in_order (map walk (pieces_resolved ps scope d).tree) scope d' ≡ as_resolved program
        (pieces_walk ps scope d'))
    pieces [] scope d d' e = (e, refl)
    pieces (p ∷ ps) scope d d' e =
        let first = r p.0 scope d in
        let rest = pieces ps scope first.after (w p.0 scope d').after
        (after_piece (r p.0) walk (w p.0) p.1 scope d d' e) in (
          rest.0,
          both scope d' (w p.0) (pieces_walk ps) (walk first.tree)
              (in_order (map walk (pieces_resolved ps scope first.after).tree))
              (parts_of_piece (r p.0) walk (w p.0) p.1 scope d d' e) rest.1,
        )

  -- ---- statements and blocks

  abbrev resolve_statement : Statement Name → Resolve (Statement ℕ)
  resolve_statement = fold-Statement Name (Resolve (Statement ℕ)) (Resolve (BlockNode ℕ))
      (Resolve (StatementNode ℕ)) (tree.statement_step program) tree.block_step tree.node_step

  abbrev resolve_node : StatementNode Name → Resolve (StatementNode ℕ)
  resolve_node = fold-StatementNode Name (Resolve (Statement ℕ)) (Resolve (BlockNode ℕ))
      (Resolve (StatementNode ℕ)) (tree.statement_step program) tree.block_step tree.node_step

  abbrev IsResolved : Statement Name → Type 0
  IsResolved x = Agree program (Statement ℕ) (resolve_statement x) (statement_walk ℕ) (statement_walk Name x)

  abbrev IsResolvedNode : StatementNode Name → Type 0
  IsResolvedNode x = Agree program (StatementNode ℕ) (resolve_node x) (node_walk ℕ) (node_walk Name x)

  abbrev IsResolvedBlock : BlockNode Name → Type 0
  IsResolvedBlock b = Agree program (BlockNode ℕ) (resolved_block program b) block_walk (block_walk b)

  abbrev What : Type 0
  What = (x : Statement Name) × IsResolved x

  abbrev Node : Type 0
  Node = (x : StatementNode Name) × IsResolvedNode x

  abbrev Block : Type 0
  Block = (x : BlockNode Name) × IsResolvedBlock x

  abbrev Layer : Type 0 → Type 0
  Layer R = s.Statement-F R (Statement R) (BlockNode R) (StatementNode R)

  walks_in : (R : Type 0) → Layer R → s.Statement-F R (Walk R) (Walk R) (Walk R)
  walks_in R = map-Statement R (Statement R) (BlockNode R) (StatementNode R) (Walk R) (Walk R)
      (Walk R) (statement_walk R) block_walk (node_walk R)

  resolves_in : Layer Name → s.Statement-F Name (Resolve (Statement ℕ)) (Resolve (BlockNode ℕ))
      (Resolve (StatementNode ℕ))
  resolves_in = map-Statement Name (Statement Name) (BlockNode Name) (StatementNode Name)
      (Resolve (Statement ℕ)) (Resolve (BlockNode ℕ)) (Resolve (StatementNode ℕ)) resolve_statement
      (resolved_block program) resolve_node

  -- a layer, and the layer that it becomes
  by_layer : (y : Layer Name) (z : InScope → Declared → Layer ℕ)
      → ((scope : InScope) (before : Declared)
      → ((tree.statement_step program (resolves_in y) scope before).tree ≡ roll-Statement ℕ (z scope before))
      × ((tree.statement_step program (resolves_in y) scope before).after ≡ (parts.statement_step
      (walks_in Name y) scope before).after)
      × (parts.statement_step (walks_in ℕ (z scope before)) scope before ≡ as_resolved program
      (parts.statement_step (walks_in Name y) scope before))) → IsResolved (roll-Statement Name y)
  unfolding walks_in resolves_in
  by_layer y z f =
      let resolves = fold-roll-Statement Name (Resolve (Statement ℕ)) (Resolve (BlockNode ℕ))
      (Resolve (StatementNode ℕ)) (tree.statement_step program) tree.block_step tree.node_step y in
      let walks = fold-roll-Statement Name (Walk Name) (Walk Name) (Walk Name) parts.statement_step
      parts.block_step (λ n. n.what) y in
      record {
        after = λ scope before.
            ap (λ (r : Resolve (Statement ℕ)). (r scope before).after) resolves ∙ (f scope before).1
            ∙ sym (ap (λ (w : Walk Name). (w scope before).after) walks);
        parts = λ scope before.
            ap (λ (r : Resolve (Statement ℕ)). statement_walk ℕ (r scope before).tree scope before) resolves
            ∙ ap (λ (t : Statement ℕ). statement_walk ℕ t scope before) (f scope before).0
            ∙ ap (λ (w : Walk ℕ). w scope before) (fold-roll-Statement ℕ (Walk ℕ) (Walk ℕ) (Walk ℕ)
            parts.statement_step parts.block_step (λ n. n.what) (z scope before))
            ∙ (f scope before).2
            ∙ sym (ap (λ (w : Walk Name). as_resolved program (w scope before)) walks);
      }

  abbrev behind_signals : List SignalNode → Declared → Declared
  behind_signals signals b = record { signals = b.signals + length signals; traps = b.traps }

  abbrev behind_trap : Declared → Declared
  behind_trap b = record { signals = b.signals; traps = b.traps + 1 }

  -- ---- delays, which declare nothing

  later_same : (d : Later Name) (scope : InScope) (before : Declared)
      → parts.plain_walk (resolved_later scope d) scope before ≡ as_resolved program
      (parts.plain_walk d scope before)
  later_same (later.Once x) scope before = refl
  later_same (later.Count n x) scope before = refl

  later_after : (d : Later Name) (scope : InScope) (before : Declared)
      → (parts.plain_walk d scope before).after ≡ before
  later_after (later.Once x) scope before = refl
  later_after (later.Count n x) scope before = refl

  delay_same : (d : Delay Name) (scope : InScope) (before : Declared)
      → parts.delay_walk (resolved_delay scope d) scope before ≡ as_resolved program
      (parts.delay_walk d scope before)
  delay_same (delay.Later p) scope before = later_same p scope before
  delay_same (delay.Immediate x) scope before = refl

  delay_after : (d : Delay Name) (scope : InScope) (before : Declared)
      → (parts.delay_walk d scope before).after ≡ before
  delay_after (delay.Later p) scope before = later_after p scope before
  delay_after (delay.Immediate x) scope before = refl

  -- a block behind a delay
  behind_delay : (d : Delay Name) (p : Block) (scope : InScope) (before : Declared)
      → ((resolved_block program p.0 scope before).after ≡ (parts.then (parts.delay_walk d)
      (block_walk p.0) scope before).after)
      × (parts.then (parts.delay_walk (resolved_delay scope d))
      (block_walk (resolved_block program p.0 scope before).tree) scope before ≡ as_resolved program
      (parts.then (parts.delay_walk d) (block_walk p.0) scope before))
  behind_delay d p scope before =
      let e = sym (delay_after d scope before) in
      let behind = (parts.delay_walk d scope before).after in (
        after_piece (resolved_block program p.0) block_walk (block_walk p.0) p.1 scope before behind e,
        both scope before (parts.delay_walk d) (block_walk p.0) (parts.delay_walk (resolved_delay scope d))
            (block_walk (resolved_block program p.0 scope before).tree) (delay_same d scope before)
            (parts_of_piece (resolved_block program p.0) block_walk (block_walk p.0) p.1 scope before behind e),
      )

  statement_resolved : (y : s.Statement-F Name What Block Node)
      → IsResolved (roll-Statement Name (map-Statement Name What Block Node (Statement Name)
      (BlockNode Name) (StatementNode Name) (λ n. n.0) (λ n. n.0) (λ n. n.0) y))
  unfolding walks_in resolves_in
  statement_resolved s.Nothing = by_layer s.Nothing (λ c b. s.Nothing)
      (λ c b. (sym (variant.rolls-Nothing), refl, refl))
  statement_resolved s.Pause = by_layer s.Pause (λ c b. s.Pause)
      (λ c b. (sym (variant.rolls-Pause), refl, refl))
  statement_resolved s.Halt = by_layer s.Halt (λ c b. s.Halt)
      (λ c b. (sym (variant.rolls-Halt), refl, refl))
  statement_resolved (s.Emit n x) = by_layer (s.Emit n x)
      (λ c b. s.Emit (resolved_name (signal_place c) n) (option_map (resolved c) x))
      (λ c b. (sym (variant.rolls-Emit _ _), refl, refl))
  statement_resolved (s.Sustain n x) = by_layer (s.Sustain n x)
      (λ c b. s.Sustain (resolved_name (signal_place c) n) (option_map (resolved c) x))
      (λ c b. (sym (variant.rolls-Sustain _ _), refl, refl))
  statement_resolved (s.If x p None) =
      by_layer (s.If x p.0 None)
      (λ c b. s.If (resolved c x) (resolved_block program p.0 c b).tree None)
      (λ c b. (
        sym (variant.rolls-If _ _ _),
        p.1.after c b,
        both c b (here (Test x)) (parts.then (block_walk p.0) parts.empty) (here (Test (resolved c x)))
            (parts.then (block_walk (resolved_block program p.0 c b).tree) parts.empty) refl
            (both c b (block_walk p.0) parts.empty (block_walk (resolved_block program p.0 c b).tree) parts.empty
            (p.1.parts c b) refl),
      ))
  statement_resolved (s.If x p (Some o)) =
      by_layer (s.If x p.0 (Some o.0))
      (λ c b. let first = resolved_block program p.0 c b in s.If (resolved c x) first.tree
      (Some (resolved_block program o.0 c first.after).tree))
      (λ c b.
      let first = resolved_block program p.0 c b in
      let second = resolved_block program o.0 c first.after in
      let behind = (block_walk p.0 c b).after in (
        sym (variant.rolls-If _ _ _),
        after_piece (resolved_block program o.0) block_walk (block_walk o.0) o.1 c first.after behind
            (p.1.after c b),
        both c b (here (Test x)) (parts.then (block_walk p.0) (block_walk o.0)) (here (Test (resolved c x)))
            (parts.then (block_walk first.tree) (block_walk second.tree)) refl
            (both c b (block_walk p.0) (block_walk o.0) (block_walk first.tree) (block_walk second.tree)
            (p.1.parts c b) (parts_of_piece (resolved_block program o.0) block_walk (block_walk o.0) o.1 c
            first.after behind (p.1.after c b))),
      ))
  statement_resolved (s.Loop p) = by_layer (s.Loop p.0)
      (λ c b. s.Loop (resolved_block program p.0 c b).tree)
      (λ c b. (sym (variant.rolls-Loop _), p.1.after c b, p.1.parts c b))
  statement_resolved (s.Fork ps) =
      by_layer (s.Fork (map (λ p. p.0) ps))
      (λ c b. s.Fork (tree.each (map (resolved_block program) (map (λ p. p.0) ps)) c b).tree)
      (λ c b. let whole = pieces (resolved_block program) block_walk block_walk ps c b b refl in
      (sym (variant.rolls-Fork _), whole.0, whole.1))
  statement_resolved (s.Block p) = by_layer (s.Block p.0)
      (λ c b. s.Block (resolved_block program p.0 c b).tree)
      (λ c b. (sym (variant.rolls-Block _), p.1.after c b, p.1.parts c b))
  statement_resolved (s.Await d) = by_layer (s.Await d) (λ c b. s.Await (resolved_delay c d))
      (λ c b. (sym (variant.rolls-Await _), sym (delay_after d c b), delay_same d c b))
  statement_resolved (s.Every d p) = by_layer (s.Every d p.0)
      (λ c b. s.Every (resolved_delay c d) (resolved_block program p.0 c b).tree)
      (λ c b. let whole = behind_delay d p c b in (sym (variant.rolls-Every _ _), whole.0, whole.1))
  statement_resolved (s.DoEvery p d) =
      by_layer (s.DoEvery p.0 d)
      (λ c b. s.DoEvery (resolved_block program p.0 c b).tree (resolved_later c d))
      (λ c b.
      let behind = (block_walk p.0 c b).after in (
        sym (variant.rolls-DoEvery _ _),
        p.1.after c b ∙ sym (later_after d c behind),
        both c b (block_walk p.0) (parts.plain_walk d) (block_walk (resolved_block program p.0 c b).tree)
            (parts.plain_walk (resolved_later c d)) (p.1.parts c b) (later_same d c behind),
      ))
  statement_resolved (s.Abort d p) = by_layer (s.Abort d p.0)
      (λ c b. s.Abort (resolved_delay c d) (resolved_block program p.0 c b).tree)
      (λ c b. let whole = behind_delay d p c b in (sym (variant.rolls-Abort _ _), whole.0, whole.1))
  statement_resolved (s.WeakAbort d p) = by_layer (s.WeakAbort d p.0)
      (λ c b. s.WeakAbort (resolved_delay c d) (resolved_block program p.0 c b).tree)
      (λ c b. let whole = behind_delay d p c b in (sym (variant.rolls-WeakAbort _ _), whole.0, whole.1))
  statement_resolved (s.Suspend i x p) =
      by_layer (s.Suspend i x p.0)
      (λ c b. s.Suspend i (resolved c x) (resolved_block program p.0 c b).tree)
      (λ c b. (
        sym (variant.rolls-Suspend _ _ _),
        p.1.after c b,
        both c b (here (Test x)) (block_walk p.0) (here (Test (resolved c x)))
            (block_walk (resolved_block program p.0 c b).tree) refl (p.1.parts c b),
      ))
  statement_resolved (s.Signal signals p) =
      by_layer (s.Signal signals p.0)
      (λ c b. s.Signal signals (resolved_block program p.0 (with_signals b.signals signals c)
      (behind_signals signals b)).tree)
      (λ c b.
      let inner = with_signals b.signals signals c in
      let behind = behind_signals signals b in (
        sym (variant.rolls-Signal _ _),
        p.1.after inner behind,
        both c b (here (Locals signals)) (parts.locals_walk signals (block_walk p.0))
            (here (Locals signals))
            (parts.locals_walk signals (block_walk (resolved_block program p.0 inner behind).tree)) refl
            (p.1.parts inner behind),
      ))
  statement_resolved (s.Trap n p) =
      by_layer (s.Trap n p.0)
      (λ c b. s.Trap n (resolved_block program p.0 (with_trap b.traps n c) (behind_trap b)).tree)
      (λ c b. (
        sym (variant.rolls-Trap _ _),
        p.1.after (with_trap b.traps n c) (behind_trap b),
        p.1.parts (with_trap b.traps n c) (behind_trap b),
      ))
  statement_resolved (s.Break n) = by_layer (s.Break n) (λ c b. s.Break (resolved_name (trap_place c) n))
      (λ c b. (sym (variant.rolls-Break _), refl, refl))
  statement_resolved (s.Run n bindings) = by_layer (s.Run n bindings)
      (λ c b. s.Run (resolved_name (λ m. or_first (module_place program m)) n)
      (resolved_bindings c n.pos bindings (module_named program n.name)))
      (λ c b. (sym (variant.rolls-Run _ _), refl, refl))
  statement_resolved (s.Async a) = by_layer (s.Async a) (λ c b. s.Async (resolved_async program c a))
      (λ c b. (sym (variant.rolls-Async _), refl, refl))

  block_resolved : (y : s.BlockNode-F Name What Block Node)
      → IsResolvedBlock (roll-BlockNode Name (map-BlockNode Name What Block Node (Statement Name)
      (BlockNode Name) (StatementNode Name) (λ n. n.0) (λ n. n.0) (λ n. n.0) y))
  block_resolved y =
      let x : s.BlockNode-F Name (Statement Name) (BlockNode Name) (StatementNode Name) =
      record { pos = y.pos; statements = map (λ n. n.0) y.statements } in
      let resolves = fold-roll-BlockNode Name (Resolve (Statement ℕ)) (Resolve (BlockNode ℕ))
      (Resolve (StatementNode ℕ)) (tree.statement_step program) tree.block_step tree.node_step x in
      let walks = fold-roll-BlockNode Name (Walk Name) (Walk Name) (Walk Name) parts.statement_step
      parts.block_step (λ n. n.what) x in
      let within = λ (c : InScope) (b : Declared). pieces resolve_node (node_walk ℕ) (node_walk Name)
      y.statements c b b refl in
      record {
        after = λ c b.
            ap (λ (r : Resolve (BlockNode ℕ)). (r c b).after) resolves ∙ (within c b).0
            ∙ sym (ap (λ (w : Walk Name). (w c b).after) walks);
        parts = λ c b.
            ap (λ (r : Resolve (BlockNode ℕ)). block_walk (r c b).tree c b) resolves
            ∙ ap (λ (w : Walk ℕ). w c b) (fold-roll-BlockNode ℕ (Walk ℕ) (Walk ℕ) (Walk ℕ)
            parts.statement_step parts.block_step (λ n. n.what)
            (record {
              pos = y.pos;
              statements = (tree.each (map resolve_node (map (λ n. n.0) y.statements)) c b).tree;
            }))
            ∙ (within c b).1
            ∙ sym (ap (λ (w : Walk Name). as_resolved program (w c b)) walks);
      }

  node_resolved : (y : s.StatementNode-F Name What Block Node)
      → IsResolvedNode (roll-StatementNode Name (map-StatementNode Name What Block Node (Statement Name)
      (BlockNode Name) (StatementNode Name) (λ n. n.0) (λ n. n.0) (λ n. n.0) y))
  node_resolved y =
      let x : s.StatementNode-F Name (Statement Name) (BlockNode Name) (StatementNode Name) =
      record { pos = y.pos; what = y.what.0 } in
      let resolves = fold-roll-StatementNode Name (Resolve (Statement ℕ)) (Resolve (BlockNode ℕ))
      (Resolve (StatementNode ℕ)) (tree.statement_step program) tree.block_step tree.node_step x in
      let walks = fold-roll-StatementNode Name (Walk Name) (Walk Name) (Walk Name) parts.statement_step
      parts.block_step (λ n. n.what) x in
      record {
        after = λ c b.
            ap (λ (r : Resolve (StatementNode ℕ)). (r c b).after) resolves ∙ y.what.1.after c b
            ∙ sym (ap (λ (w : Walk Name). (w c b).after) walks);
        parts = λ c b.
            ap (λ (r : Resolve (StatementNode ℕ)). node_walk ℕ (r c b).tree c b) resolves
            ∙ ap (λ (w : Walk ℕ). w c b) (fold-roll-StatementNode ℕ (Walk ℕ) (Walk ℕ) (Walk ℕ)
            parts.statement_step parts.block_step (λ n. n.what)
            (record { pos = y.pos; what = (resolve_statement y.what.0 c b).tree }))
            ∙ y.what.1.parts c b
            ∙ sym (ap (λ (w : Walk Name). as_resolved program (w c b)) walks);
      }

  -- what a block becomes has the block's parts, each resolved, and declares as much
  pub blocks_resolved : (b : BlockNode Name) → Agree program (BlockNode ℕ) (resolved_block program b)
      block_walk (block_walk b)
  blocks_resolved =
      ind-BlockNode Name IsResolved IsResolvedBlock IsResolvedNode
      (λ x y is. subst (λ (z : Layer Name). IsResolved (roll-Statement Name z)) is (statement_resolved y))
      (λ x y is. subst (λ (z : s.BlockNode-F Name (Statement Name) (BlockNode Name) (StatementNode Name)).
      IsResolvedBlock (roll-BlockNode Name z)) is (block_resolved y))
      (λ x y is. subst (λ (z : s.StatementNode-F Name (Statement Name) (BlockNode Name)
      (StatementNode Name)). IsResolvedNode (roll-StatementNode Name z)) is (node_resolved y))

  pub parts_resolved : (m : ModuleNode Name) → parts_of (resolved_module program m) ≡ map
      (resolved_placed program) (parts_of m)
  parts_resolved m = ap (λ (w : Walked ℕ). w.parts) ((blocks_resolved m.block).parts
      (record { signals = interface_signals m.interface; traps = [] })
      (record { signals = length m.interface; traps = 0 }))

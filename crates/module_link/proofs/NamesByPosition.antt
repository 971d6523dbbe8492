-- A text with its names resolved declares signals and counters where it did, with the same names.
use Rattle.std.proofs.Common.{◌≡◌, ℕ, List, [], ◌∷◌, ◌+◌, ◌++◌, map, length, Some, None, option_map, refl}
use Rattle.std.proofs.Common.{sym, ap, ap₂, subst, ◌∙◌}
use Rattle.std.specs.List.{flat_map, AllByRecursion}
use Rattle.hh_base.specs.declared.value.Pos.{Pos}
use Rattle.module_tree.specs.declared.source.SignalNode.{SignalNode}
use Rattle.module_tree.specs.declared.source.InterfaceNode.{InterfaceNode}
use Rattle.module_tree.specs.declared.source.ModuleNode.{ModuleNode}
use Rattle.module_tree.specs.declared.source.BlockNode.{BlockNode, roll-BlockNode}
use Rattle.module_tree.specs.declared.source.StatementNode.{StatementNode, roll-StatementNode}
use Rattle.module_tree.specs.declared.source.Statement.{Statement, roll-Statement}
use Rattle.module_tree.specs.declared.source.Statement.TheOpen as s
use Rattle.module_tree.specs.declared.source.Statement.TheVariants as variant
use Rattle.module_tree.specs.declared.source.Statement.TheFolds.{fold-Statement, fold-StatementNode}
use Rattle.module_tree.specs.declared.source.Statement.TheFolds.{fold-roll-Statement, fold-roll-StatementNode}
use Rattle.module_tree.specs.declared.source.Statement.TheFolds.{fold-roll-BlockNode, ind-BlockNode}
use Rattle.module_tree.specs.declared.source.Statement.TheFolds.{map-Statement, map-StatementNode}
use Rattle.module_tree.specs.declared.source.Statement.TheFolds.{map-BlockNode}
use Rattle.module_tree.specs.declared.source.Later.{Later}
use Rattle.module_tree.specs.declared.source.Later.TheVariants as later
use Rattle.module_tree.specs.declared.source.Delay.{Delay}
use Rattle.module_tree.specs.declared.source.Delay.TheVariants as delay
use Rattle.module_tree.specs.Scopes.{InScope, Declared, with_signals, with_trap, interface_signals}
use Rattle.module_tree.specs.DeclaredAt as at
use Rattle.module_tree.specs.DeclaredAt.{DeclaredAt, declared_signal, later_counter, delay_counter}
use Rattle.module_tree.specs.DeclaredAt.{declared_in_block, declared_in_module, declared_in}
use Rattle.module_tree.specs.DeclaredAt.{NamesGoByPosition}
use Rattle.module_tree.specs.Callables.{modules_of}
use Rattle.link_faults.specs.Named.{Name, module_named}
use Rattle.link_faults.specs.Rows.{Program, module_place}
use Rattle.module_link.specs.Resolved as tree
use Rattle.module_link.specs.Resolved.{Resolve, resolved_block, resolved, resolved_name, signal_place}
use Rattle.module_link.specs.Resolved.{trap_place, or_first, resolved_bindings, resolved_async}
use Rattle.module_link.specs.Resolved.{resolved_later, resolved_delay, resolved_module, resolved_parts}
use Rattle.module_link.proofs.SameDeclarations.{modules_resolved}

abbrev Declarations : Type 0
Declarations = List DeclaredAt

abbrev in_statement : (R : Type 0) → Statement R → Pos → Declarations
in_statement R = fold-Statement R (Pos → Declarations) Declarations Declarations at.statement_step
    at.block_step at.node_step

abbrev in_node : (R : Type 0) → StatementNode R → Declarations
in_node R = fold-StatementNode R (Pos → Declarations) Declarations Declarations at.statement_step
    at.block_step at.node_step

-- ---- delays

same_later : (d : Later Name) (scope : InScope) (p : Pos)
    → later_counter (resolved_later scope d) p ≡ later_counter d p
same_later (later.Once x) scope p = refl
same_later (later.Count n x) scope p = refl

same_delay : (d : Delay Name) (scope : InScope) (p : Pos)
    → delay_counter (resolved_delay scope d) p ≡ delay_counter d p
same_delay (delay.Later l) scope p = same_later l scope p
same_delay (delay.Immediate x) scope p = refl

both : {a a' b b' : Declarations} → a' ≡ a → b' ≡ b → a' ++ b' ≡ a ++ b
both e f = ap₂ (λ (x y : Declarations). x ++ y) e f

-- a piece becomes one that declares the same
abbrev Same : {A B : Type 0} → (A → Declarations) → (B → Declarations) → (A → Resolve B) → A → Type 0
Same declares declares' r x = (scope : InScope) (before : Declared)
    → declares' (r x scope before).tree ≡ declares x

module _ {A B : Type 0} (declares : A → Declarations) (declares' : B → Declarations) (r : A → Resolve B) where
  -- pieces one behind the other
  pieces : (ps : List ((x : A) × Same declares declares' r x)) (scope : InScope) (before : Declared)
      → flat_map (λ ds. ds) (map declares' (tree.each (map r (map (λ p. p.0) ps)) scope before).tree)
      ≡ flat_map (λ ds. ds) (map declares (map (λ p. p.0) ps))
  pieces [] scope before = refl
  pieces (p ∷ ps) scope before = both (p.1 scope before) (pieces ps scope (r p.0 scope before).after)

module _ (program : Program) where
  abbrev resolve_statement : Statement Name → Resolve (Statement ℕ)
  resolve_statement = fold-Statement Name (Resolve (Statement ℕ)) (Resolve (BlockNode ℕ))
      (Resolve (StatementNode ℕ)) (tree.statement_step program) tree.block_step tree.node_step

  abbrev resolve_node : StatementNode Name → Resolve (StatementNode ℕ)
  resolve_node = fold-StatementNode Name (Resolve (Statement ℕ)) (Resolve (BlockNode ℕ))
      (Resolve (StatementNode ℕ)) (tree.statement_step program) tree.block_step tree.node_step

  abbrev IsSame : Statement Name → Type 0
  IsSame x = (scope : InScope) (before : Declared) (p : Pos)
      → in_statement ℕ (resolve_statement x scope before).tree p ≡ in_statement Name x p

  abbrev IsSameNode : StatementNode Name → Type 0
  IsSameNode = Same (in_node Name) (in_node ℕ) resolve_node

  abbrev IsSameBlock : BlockNode Name → Type 0
  IsSameBlock = Same declared_in_block declared_in_block (resolved_block program)

  abbrev What : Type 0
  What = (x : Statement Name) × IsSame x

  abbrev Node : Type 0
  Node = (x : StatementNode Name) × IsSameNode x

  abbrev Block : Type 0
  Block = (x : BlockNode Name) × IsSameBlock x

  abbrev Layer : Type 0 → Type 0
  Layer R = s.Statement-F R (Statement R) (BlockNode R) (StatementNode R)

  declares_in : (R : Type 0) → Layer R → s.Statement-F R (Pos → Declarations) Declarations Declarations
  declares_in R = map-Statement R (Statement R) (BlockNode R) (StatementNode R) (Pos → Declarations)
      Declarations Declarations (in_statement R) declared_in_block (in_node R)

  resolves_in : Layer Name → s.Statement-F Name (Resolve (Statement ℕ)) (Resolve (BlockNode ℕ))
      (Resolve (StatementNode ℕ))
  resolves_in = map-Statement Name (Statement Name) (BlockNode Name) (StatementNode Name)
      (Resolve (Statement ℕ)) (Resolve (BlockNode ℕ)) (Resolve (StatementNode ℕ)) resolve_statement
      (resolved_block program) resolve_node

  -- a layer, and the layer that it becomes
  by_layer : (y : Layer Name) (z : InScope → Declared → Layer ℕ)
      → ((scope : InScope) (before : Declared) (p : Pos)
      → ((tree.statement_step program (resolves_in y) scope before).tree ≡ roll-Statement ℕ (z scope before))
      × (at.statement_step (declares_in ℕ (z scope before)) p ≡ at.statement_step (declares_in Name y) p))
      → IsSame (roll-Statement Name y)
  unfolding declares_in resolves_in
  by_layer y z f scope before p =
      ap (λ (r : Resolve (Statement ℕ)). in_statement ℕ (r scope before).tree p)
      (fold-roll-Statement Name (Resolve (Statement ℕ)) (Resolve (BlockNode ℕ)) (Resolve (StatementNode ℕ))
      (tree.statement_step program) tree.block_step tree.node_step y)
      ∙ ap (λ (t : Statement ℕ). in_statement ℕ t p) (f scope before p).0
      ∙ ap (λ (d : Pos → Declarations). d p) (fold-roll-Statement ℕ (Pos → Declarations) Declarations
      Declarations at.statement_step at.block_step at.node_step (z scope before))
      ∙ (f scope before p).1
      ∙ sym (ap (λ (d : Pos → Declarations). d p) (fold-roll-Statement Name (Pos → Declarations) Declarations
      Declarations at.statement_step at.block_step at.node_step y))

  abbrev behind_signals : List SignalNode → Declared → Declared
  behind_signals signals b = record { signals = b.signals + length signals; traps = b.traps }

  abbrev behind_trap : Declared → Declared
  behind_trap b = record { signals = b.signals; traps = b.traps + 1 }

  statement_same : (y : s.Statement-F Name What Block Node)
      → IsSame (roll-Statement Name (map-Statement Name What Block Node (Statement Name)
      (BlockNode Name) (StatementNode Name) (λ n. n.0) (λ n. n.0) (λ n. n.0) y))
  unfolding declares_in resolves_in
  statement_same s.Nothing = by_layer s.Nothing (λ c b. s.Nothing)
      (λ c b o. (sym variant.rolls-Nothing, refl))
  statement_same s.Pause = by_layer s.Pause (λ c b. s.Pause) (λ c b o. (sym variant.rolls-Pause, refl))
  statement_same s.Halt = by_layer s.Halt (λ c b. s.Halt) (λ c b o. (sym variant.rolls-Halt, refl))
  statement_same (s.Emit n x) = by_layer (s.Emit n x)
      (λ c b. s.Emit (resolved_name (signal_place c) n) (option_map (resolved c) x))
      (λ c b o. (sym (variant.rolls-Emit _ _), refl))
  statement_same (s.Sustain n x) = by_layer (s.Sustain n x)
      (λ c b. s.Sustain (resolved_name (signal_place c) n) (option_map (resolved c) x))
      (λ c b o. (sym (variant.rolls-Sustain _ _), refl))
  statement_same (s.If x p None) = by_layer (s.If x p.0 None)
      (λ c b. s.If (resolved c x) (resolved_block program p.0 c b).tree None)
      (λ c b o. (sym (variant.rolls-If _ _ _), both (p.1 c b) refl))
  statement_same (s.If x p (Some q)) =
      by_layer (s.If x p.0 (Some q.0))
      (λ c b. let first = resolved_block program p.0 c b in s.If (resolved c x) first.tree
      (Some (resolved_block program q.0 c first.after).tree))
      (λ c b o. (
        sym (variant.rolls-If _ _ _),
        both (p.1 c b) (q.1 c (resolved_block program p.0 c b).after),
      ))
  statement_same (s.Loop p) = by_layer (s.Loop p.0) (λ c b. s.Loop (resolved_block program p.0 c b).tree)
      (λ c b o. (sym (variant.rolls-Loop _), p.1 c b))
  statement_same (s.Fork ps) = by_layer (s.Fork (map (λ p. p.0) ps))
      (λ c b. s.Fork (tree.each (map (resolved_block program) (map (λ p. p.0) ps)) c b).tree)
      (λ c b o. (
        sym (variant.rolls-Fork _),
        pieces declared_in_block declared_in_block (resolved_block program) ps c b,
      ))
  statement_same (s.Block p) = by_layer (s.Block p.0) (λ c b. s.Block (resolved_block program p.0 c b).tree)
      (λ c b o. (sym (variant.rolls-Block _), p.1 c b))
  statement_same (s.Await d) = by_layer (s.Await d) (λ c b. s.Await (resolved_delay c d))
      (λ c b o. (sym (variant.rolls-Await _), refl))
  statement_same (s.Every d p) = by_layer (s.Every d p.0)
      (λ c b. s.Every (resolved_delay c d) (resolved_block program p.0 c b).tree)
      (λ c b o. (sym (variant.rolls-Every _ _), both (same_delay d c o) (p.1 c b)))
  statement_same (s.DoEvery p d) = by_layer (s.DoEvery p.0 d)
      (λ c b. s.DoEvery (resolved_block program p.0 c b).tree (resolved_later c d))
      (λ c b o. (sym (variant.rolls-DoEvery _ _), both (same_later d c o) (p.1 c b)))
  statement_same (s.Abort d p) = by_layer (s.Abort d p.0)
      (λ c b. s.Abort (resolved_delay c d) (resolved_block program p.0 c b).tree)
      (λ c b o. (sym (variant.rolls-Abort _ _), both (same_delay d c o) (p.1 c b)))
  statement_same (s.WeakAbort d p) = by_layer (s.WeakAbort d p.0)
      (λ c b. s.WeakAbort (resolved_delay c d) (resolved_block program p.0 c b).tree)
      (λ c b o. (sym (variant.rolls-WeakAbort _ _), p.1 c b))
  statement_same (s.Suspend i x p) = by_layer (s.Suspend i x p.0)
      (λ c b. s.Suspend i (resolved c x) (resolved_block program p.0 c b).tree)
      (λ c b o. (sym (variant.rolls-Suspend _ _ _), p.1 c b))
  statement_same (s.Signal signals p) =
      by_layer (s.Signal signals p.0)
      (λ c b. s.Signal signals (resolved_block program p.0 (with_signals b.signals signals c)
      (behind_signals signals b)).tree)
      (λ c b o. (
        sym (variant.rolls-Signal _ _),
        both {a = map declared_signal signals} refl
            (p.1 (with_signals b.signals signals c) (behind_signals signals b)),
      ))
  statement_same (s.Trap n p) = by_layer (s.Trap n p.0)
      (λ c b. s.Trap n (resolved_block program p.0 (with_trap b.traps n c) (behind_trap b)).tree)
      (λ c b o. (sym (variant.rolls-Trap _ _), p.1 (with_trap b.traps n c) (behind_trap b)))
  statement_same (s.Break n) = by_layer (s.Break n) (λ c b. s.Break (resolved_name (trap_place c) n))
      (λ c b o. (sym (variant.rolls-Break _), refl))
  statement_same (s.Run n bindings) = by_layer (s.Run n bindings)
      (λ c b. s.Run (resolved_name (λ m. or_first (module_place program m)) n)
      (resolved_bindings c n.pos bindings (module_named program n.name)))
      (λ c b o. (sym (variant.rolls-Run _ _), refl))
  statement_same (s.Async a) = by_layer (s.Async a) (λ c b. s.Async (resolved_async program c a))
      (λ c b o. (sym (variant.rolls-Async _), refl))

  block_same : (y : s.BlockNode-F Name What Block Node)
      → IsSameBlock (roll-BlockNode Name (map-BlockNode Name What Block Node (Statement Name)
      (BlockNode Name) (StatementNode Name) (λ n. n.0) (λ n. n.0) (λ n. n.0) y))
  block_same y c b =
      let x : s.BlockNode-F Name (Statement Name) (BlockNode Name) (StatementNode Name) =
      record { pos = y.pos; statements = map (λ n. n.0) y.statements } in
      ap (λ (r : Resolve (BlockNode ℕ)). declared_in_block (r c b).tree)
      (fold-roll-BlockNode Name (Resolve (Statement ℕ)) (Resolve (BlockNode ℕ)) (Resolve (StatementNode ℕ))
      (tree.statement_step program) tree.block_step tree.node_step x)
      ∙ fold-roll-BlockNode ℕ (Pos → Declarations) Declarations Declarations at.statement_step at.block_step
      at.node_step (record {
        pos = y.pos;
        statements = (tree.each (map resolve_node (map (λ n. n.0) y.statements)) c b).tree;
      })
      ∙ pieces (in_node Name) (in_node ℕ) resolve_node y.statements c b
      ∙ sym (fold-roll-BlockNode Name (Pos → Declarations) Declarations Declarations at.statement_step
      at.block_step at.node_step x)

  node_same : (y : s.StatementNode-F Name What Block Node)
      → IsSameNode (roll-StatementNode Name (map-StatementNode Name What Block Node (Statement Name)
      (BlockNode Name) (StatementNode Name) (λ n. n.0) (λ n. n.0) (λ n. n.0) y))
  node_same y c b =
      let x : s.StatementNode-F Name (Statement Name) (BlockNode Name) (StatementNode Name) =
      record { pos = y.pos; what = y.what.0 } in
      ap (λ (r : Resolve (StatementNode ℕ)). in_node ℕ (r c b).tree)
      (fold-roll-StatementNode Name (Resolve (Statement ℕ)) (Resolve (BlockNode ℕ))
      (Resolve (StatementNode ℕ)) (tree.statement_step program) tree.block_step tree.node_step x)
      ∙ fold-roll-StatementNode ℕ (Pos → Declarations) Declarations Declarations at.statement_step
      at.block_step at.node_step (record { pos = y.pos; what = (resolve_statement y.what.0 c b).tree })
      ∙ y.what.1 c b y.pos
      ∙ sym (fold-roll-StatementNode Name (Pos → Declarations) Declarations Declarations at.statement_step
      at.block_step at.node_step x)

  blocks_same : (b : BlockNode Name) → IsSameBlock b
  blocks_same =
      ind-BlockNode Name IsSame IsSameBlock IsSameNode
      (λ x y is. subst (λ (z : Layer Name). IsSame (roll-Statement Name z)) is (statement_same y))
      (λ x y is. subst (λ (z : s.BlockNode-F Name (Statement Name) (BlockNode Name) (StatementNode Name)).
      IsSameBlock (roll-BlockNode Name z)) is (block_same y))
      (λ x y is. subst (λ (z : s.StatementNode-F Name (Statement Name) (BlockNode Name)
      (StatementNode Name)). IsSameNode (roll-StatementNode Name z)) is (node_same y))

  same_in_module : (m : ModuleNode Name) → declared_in_module (resolved_module program m)
      ≡ declared_in_module m
  same_in_module m = both {a = map (λ (d : InterfaceNode). declared_signal d.signal) m.interface} refl
      (blocks_same m.block (record { signals = interface_signals m.interface; traps = [] })
      (record { signals = length m.interface; traps = 0 }))

  same_in_modules : (ms : List (ModuleNode Name)) → flat_map declared_in_module
      (map (resolved_module program) ms) ≡ flat_map declared_in_module ms
  same_in_modules [] = refl
  same_in_modules (m ∷ ms) = both (same_in_module m) (same_in_modules ms)

-- the text declares the same
pub same_declared : (program : Program) → declared_in (resolved_parts program) ≡ declared_in program
same_declared program =
    ap (λ (ms : List (ModuleNode ℕ)). flat_map declared_in_module ms) (modules_resolved program program)
    ∙ same_in_modules program (modules_of program)

-- so names go by position as before
pub names_by_position : (program : Program) → NamesGoByPosition program
    → NamesGoByPosition (resolved_parts program)
names_by_position program h = record {
  name_at = h.name_at;
  each = subst (AllByRecursion (λ (d : DeclaredAt). d.name ≡ h.name_at d.pos))
      (sym (same_declared program)) h.each;
}

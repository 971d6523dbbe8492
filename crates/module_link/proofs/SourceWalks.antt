-- What is closed under the ways in which the pieces of a text are put together holds of each block of a source
-- tree.
use Rattle.std.proofs.Common.{◌≡◌, ℕ, ◌+◌, Bool, true, List, [], ◌∷◌, map, length, Option, Some, None, refl, sym}
use Rattle.std.proofs.Common.{subst, ◌∙◌}
use Rattle.std.specs.Prelude.{◌&&◌, nat_le}
use Rattle.std.specs.List.{list_all}
use Rattle.std.proofs.lemmas.Bool.{and_parts, and_from}
use Rattle.module_tree.specs.declared.limits.TheConstants.{COUNT_LIMIT}
use Rattle.module_tree.specs.declared.source.ExprAt.{ExprAt}
use Rattle.module_tree.specs.declared.source.SignalNode.{SignalNode}
use Rattle.module_tree.specs.declared.source.AsyncNode.{AsyncNode}
use Rattle.module_tree.specs.declared.source.BlockNode.{BlockNode, roll-BlockNode}
use Rattle.module_tree.specs.declared.source.StatementNode.{StatementNode, roll-StatementNode}
use Rattle.module_tree.specs.declared.source.Statement.{Statement, roll-Statement}
use Rattle.module_tree.specs.declared.source.Statement.TheOpen as s
use Rattle.module_tree.specs.declared.source.Statement.TheFolds.{fold-Statement, fold-StatementNode}
use Rattle.module_tree.specs.declared.source.Statement.TheFolds.{fold-roll-Statement, fold-roll-StatementNode}
use Rattle.module_tree.specs.declared.source.Statement.TheFolds.{fold-roll-BlockNode, ind-BlockNode}
use Rattle.module_tree.specs.declared.source.Statement.TheFolds.{map-Statement, map-StatementNode}
use Rattle.module_tree.specs.declared.source.Statement.TheFolds.{map-BlockNode}
use Rattle.module_tree.specs.declared.source.Later.{Later}
use Rattle.module_tree.specs.declared.source.Later.TheVariants as later
use Rattle.module_tree.specs.declared.source.Delay.{Delay}
use Rattle.module_tree.specs.declared.source.Delay.TheVariants as delay
use Rattle.module_tree.specs.Scopes.{InScope, Declared, with_signals, with_trap}
use Rattle.module_tree.specs.Parts as parts
use Rattle.module_tree.specs.Parts.{StatementPart, Test, Times, Emission, Locals, Exit, Call, Start, Walked}
use Rattle.module_tree.specs.Parts.{Walk, block_walk, joined, here, in_order, expressions_of, empty, if_any}
use Rattle.module_tree.specs.SourceForms as form
use Rattle.module_tree.specs.SourceWords.{is_written_name, is_written_text}
use Rattle.module_tree.specs.SourceForms.{fits_block, fits_expression, fits_later, fits_delay}
use Rattle.module_tree.specs.LinkedFacts.{locals_of}
use Rattle.link_faults.specs.Named.{Name}

-- ---- what a source tree keeps of each part: its numbers and its expressions are within the limits of a text

abbrev pub counts_within : StatementPart Name → Bool
counts_within (Times n) = nat_le 1 n && nat_le n COUNT_LIMIT
counts_within _ = true

abbrev pub is_written : StatementPart Name → Bool
is_written part = counts_within part && list_all fits_expression (expressions_of part)

-- ---- what a predicate on walks is to be closed under

abbrev pub behind_signals : List SignalNode → Declared → Declared
behind_signals signals b = record { signals = b.signals + length signals; traps = b.traps }

abbrev pub behind_trap : Declared → Declared
behind_trap b = record { signals = b.signals; traps = b.traps + 1 }

pub record Closed (Q : InScope → Declared → Walked Name → Type 0) : Type 0 where
  pub none : (c : InScope) (b : Declared) → Q c b (empty c b)
  -- a part other than a `signal` list
  pub one : (part : StatementPart Name) → is_written part ≡ true → locals_of part ≡ [] → (c : InScope)
      (b : Declared) → Q c b (here part c b)
  pub both : (c : InScope) (b : Declared) (w v : Walked Name) → Q c b w → Q c w.after v
      → Q c b (joined w.parts v)
  pub locals : (signals : List SignalNode) (c : InScope) (b : Declared) (w : Walked Name)
      → Q (with_signals b.signals signals c) (behind_signals signals b) w
      → Q c b (joined (here (Locals signals) c b).parts w)
  pub trap : (n : Name) (c : InScope) (b : Declared) (w : Walked Name)
      → Q (with_trap b.traps n c) (behind_trap b) w → Q c b w

abbrev statement_walk : Statement Name → Walk Name
statement_walk = fold-Statement Name (Walk Name) (Walk Name) (Walk Name) parts.statement_step parts.block_step
    (λ n. n.what)

abbrev node_walk : StatementNode Name → Walk Name
node_walk = fold-StatementNode Name (Walk Name) (Walk Name) (Walk Name) parts.statement_step parts.block_step
    (λ n. n.what)

abbrev fits_statement : Statement Name → Bool
fits_statement = fold-Statement Name Bool Bool Bool form.statement_step form.block_step (λ n. n.what)

abbrev fits_node : StatementNode Name → Bool
fits_node = fold-StatementNode Name Bool Bool Bool form.statement_step form.block_step (λ n. n.what)

abbrev Layer : Type 0
Layer = s.Statement-F Name (Statement Name) (BlockNode Name) (StatementNode Name)

module _ (Q : InScope → Declared → Walked Name → Type 0) (closed : Closed Q) where
  abbrev Keeps : Walk Name → Type 0
  Keeps w = (c : InScope) (b : Declared) → Q c b (w c b)

  abbrev IsKept : Statement Name → Type 0
  IsKept x = fits_statement x ≡ true → Keeps (statement_walk x)

  abbrev IsKeptNode : StatementNode Name → Type 0
  IsKeptNode x = fits_node x ≡ true → Keeps (node_walk x)

  abbrev pub IsKeptBlock : BlockNode Name → Type 0
  IsKeptBlock x = fits_block x ≡ true → Keeps (block_walk x)

  abbrev What : Type 0
  What = (x : Statement Name) × IsKept x

  abbrev Node : Type 0
  Node = (x : StatementNode Name) × IsKeptNode x

  abbrev Block : Type 0
  Block = (x : BlockNode Name) × IsKeptBlock x

  walks_in : Layer → s.Statement-F Name (Walk Name) (Walk Name) (Walk Name)
  walks_in = map-Statement Name (Statement Name) (BlockNode Name) (StatementNode Name) (Walk Name)
      (Walk Name) (Walk Name) statement_walk block_walk node_walk

  fits_in : Layer → s.Statement-F Name Bool Bool Bool
  fits_in = map-Statement Name (Statement Name) (BlockNode Name) (StatementNode Name) Bool Bool Bool
      fits_statement fits_block fits_node

  by_layer : (y : Layer) → (form.statement_step (fits_in y) ≡ true
      → Keeps (parts.statement_step (walks_in y))) → IsKept (roll-Statement Name y)
  unfolding walks_in fits_in
  by_layer y f fits =
      subst Keeps (sym (fold-roll-Statement Name (Walk Name) (Walk Name) (Walk Name) parts.statement_step
      parts.block_step (λ n. n.what) y))
      (f (sym (fold-roll-Statement Name Bool Bool Bool form.statement_step form.block_step (λ n. n.what) y)
      ∙ fits))

  one_then : (a w : Walk Name) → Keeps a → Keeps w → Keeps (parts.then a w)
  one_then a w f g c b = closed.both c b (a c b) (w c (a c b).after) (f c b) (g c (a c b).after)

  tested : (x : ExprAt Name) → fits_expression x ≡ true → Keeps (here (Test x))
  tested x fits = closed.one (Test x) (and_from (fits_expression x) true fits refl) refl

  counted : (n : ℕ) (x : ExprAt Name)
      → (nat_le 1 n && nat_le n COUNT_LIMIT && fits_expression x) ≡ true
      → Keeps (parts.then (here (Times n)) (here (Test x)))
  counted n x fits =
      let q = and_parts (nat_le 1 n && nat_le n COUNT_LIMIT) (fits_expression x) fits in
      one_then (here (Times n)) (here (Test x))
      (closed.one (Times n) (and_from (nat_le 1 n && nat_le n COUNT_LIMIT) true q.0 refl) refl) (tested x q.1)

  later_keeps : (d : Later Name) → fits_later d ≡ true → Keeps (parts.plain_walk d)
  later_keeps (later.Once x) fits = tested x fits
  later_keeps (later.Count n x) fits = counted n x fits

  delay_keeps : (d : Delay Name) → fits_delay d ≡ true → Keeps (parts.delay_walk d)
  delay_keeps (delay.Later p) fits = later_keeps p fits
  delay_keeps (delay.Immediate x) fits = tested x fits

  value_written : (x : Option (ExprAt Name)) → form.if_there fits_expression x ≡ true
      → list_all fits_expression (if_any x) ≡ true
  value_written None fits = refl
  value_written (Some x) fits = and_from (fits_expression x) true fits refl

  branches : (bs : List Block) → list_all (λ b. b) (map fits_block (map (λ b. b.0) bs)) ≡ true
      → Keeps (in_order (map block_walk (map (λ b. b.0) bs)))
  branches [] fits = closed.none
  branches (p ∷ ps) fits =
      let q = and_parts (fits_block p.0) (list_all (λ b. b) (map fits_block (map (λ b. b.0) ps))) fits in
      one_then (block_walk p.0) (in_order (map block_walk (map (λ b. b.0) ps))) (p.1 q.0) (branches ps q.1)

  nodes : (ns : List Node) → list_all (λ b. b) (map fits_node (map (λ n. n.0) ns)) ≡ true
      → Keeps (in_order (map node_walk (map (λ n. n.0) ns)))
  nodes [] fits = closed.none
  nodes (p ∷ ps) fits =
      let q = and_parts (fits_node p.0) (list_all (λ b. b) (map fits_node (map (λ n. n.0) ps))) fits in
      one_then (node_walk p.0) (in_order (map node_walk (map (λ n. n.0) ps))) (p.1 q.0) (nodes ps q.1)

  behind : (d : Delay Name) (p : Block) → (fits_delay d && fits_block p.0) ≡ true
      → Keeps (parts.then (parts.delay_walk d) (block_walk p.0))
  behind d p fits =
      let q = and_parts (fits_delay d) (fits_block p.0) fits in
      one_then (parts.delay_walk d) (block_walk p.0) (delay_keeps d q.0) (p.1 q.1)

  arguments : (a : AsyncNode Name) → form.fits_async a ≡ true → list_all fits_expression a.args ≡ true
  arguments a fits =
      let names = form.if_there form.fits_name a.signal && form.fits_name a.body in
      let args = names && list_all fits_expression a.args in
      let killed = args && form.if_there is_written_text a.kill in
      let suspended = killed && form.if_there is_written_text a.suspend in
      let q = and_parts suspended (form.if_there is_written_text a.resume) fits in
      let r = and_parts killed (form.if_there is_written_text a.suspend) q.0 in
      let u = and_parts args (form.if_there is_written_text a.kill) r.0 in
      (and_parts names (list_all fits_expression a.args) u.0).1

  statement_keeps : (y : s.Statement-F Name What Block Node)
      → IsKept (roll-Statement Name (map-Statement Name What Block Node (Statement Name)
      (BlockNode Name) (StatementNode Name) (λ n. n.0) (λ n. n.0) (λ n. n.0) y))
  unfolding walks_in fits_in
  statement_keeps s.Nothing = by_layer s.Nothing (λ fits. closed.none)
  statement_keeps s.Pause = by_layer s.Pause (λ fits. closed.none)
  statement_keeps s.Halt = by_layer s.Halt (λ fits. closed.none)
  statement_keeps (s.Emit n x) = by_layer (s.Emit n x) (λ fits. closed.one (Emission n x)
      (value_written x (and_parts (form.fits_name n) (form.if_there fits_expression x) fits).1) refl)
  statement_keeps (s.Sustain n x) = by_layer (s.Sustain n x) (λ fits. closed.one (Emission n x)
      (value_written x (and_parts (form.fits_name n) (form.if_there fits_expression x) fits).1) refl)
  statement_keeps (s.If x p None) =
      by_layer (s.If x p.0 None)
      (λ fits.
      let q = and_parts (fits_expression x && fits_block p.0) true fits in
      let r = and_parts (fits_expression x) (fits_block p.0) q.0 in
      one_then (here (Test x)) (parts.then (block_walk p.0) empty) (tested x r.0)
      (one_then (block_walk p.0) empty (p.1 r.1) closed.none))
  statement_keeps (s.If x p (Some o)) =
      by_layer (s.If x p.0 (Some o.0))
      (λ fits.
      let q = and_parts (fits_expression x && fits_block p.0) (fits_block o.0) fits in
      let r = and_parts (fits_expression x) (fits_block p.0) q.0 in
      one_then (here (Test x)) (parts.then (block_walk p.0) (block_walk o.0)) (tested x r.0)
      (one_then (block_walk p.0) (block_walk o.0) (p.1 r.1) (o.1 q.1)))
  statement_keeps (s.Loop p) = by_layer (s.Loop p.0) p.1
  statement_keeps (s.Fork ps) =
      by_layer (s.Fork (map (λ p. p.0) ps))
      (λ fits. branches ps (and_parts (form.is_filled (map fits_block (map (λ p. p.0) ps)))
      (list_all (λ b. b) (map fits_block (map (λ p. p.0) ps))) fits).1)
  statement_keeps (s.Block p) = by_layer (s.Block p.0) p.1
  statement_keeps (s.Await d) = by_layer (s.Await d) (delay_keeps d)
  statement_keeps (s.Every d p) = by_layer (s.Every d p.0) (behind d p)
  statement_keeps (s.DoEvery p d) =
      by_layer (s.DoEvery p.0 d)
      (λ fits. let q = and_parts (fits_block p.0) (fits_later d) fits in
      one_then (block_walk p.0) (parts.plain_walk d) (p.1 q.0) (later_keeps d q.1))
  statement_keeps (s.Abort d p) = by_layer (s.Abort d p.0) (behind d p)
  statement_keeps (s.WeakAbort d p) = by_layer (s.WeakAbort d p.0) (behind d p)
  statement_keeps (s.Suspend i x p) =
      by_layer (s.Suspend i x p.0)
      (λ fits. let q = and_parts (fits_expression x) (fits_block p.0) fits in
      one_then (here (Test x)) (block_walk p.0) (tested x q.0) (p.1 q.1))
  statement_keeps (s.Signal signals p) =
      by_layer (s.Signal signals p.0)
      (λ fits c b.
      let q = and_parts (form.is_filled signals && list_all form.fits_signal signals) (fits_block p.0) fits in
      closed.locals signals c b _ (p.1 q.1 (with_signals b.signals signals c) (behind_signals signals b)))
  statement_keeps (s.Trap n p) =
      by_layer (s.Trap n p.0)
      (λ fits c b. closed.trap n c b _ (p.1 (and_parts (is_written_name n) (fits_block p.0) fits).1
      (with_trap b.traps n c) (behind_trap b)))
  statement_keeps (s.Break n) = by_layer (s.Break n) (λ fits. closed.one (Exit n) refl refl)
  statement_keeps (s.Run n bindings) = by_layer (s.Run n bindings)
      (λ fits. closed.one (Call n bindings) refl refl)
  statement_keeps (s.Async a) = by_layer (s.Async a) (λ fits. closed.one (Start a) (arguments a fits) refl)

  block_keeps : (y : s.BlockNode-F Name What Block Node)
      → IsKeptBlock (roll-BlockNode Name (map-BlockNode Name What Block Node (Statement Name)
      (BlockNode Name) (StatementNode Name) (λ n. n.0) (λ n. n.0) (λ n. n.0) y))
  block_keeps y fits =
      let x : s.BlockNode-F Name (Statement Name) (BlockNode Name) (StatementNode Name) =
      record { pos = y.pos; statements = map (λ n. n.0) y.statements } in
      subst Keeps (sym (fold-roll-BlockNode Name (Walk Name) (Walk Name) (Walk Name) parts.statement_step
      parts.block_step (λ n. n.what) x))
      (nodes y.statements (sym (fold-roll-BlockNode Name Bool Bool Bool form.statement_step
      form.block_step (λ n. n.what) x) ∙ fits))

  node_keeps : (y : s.StatementNode-F Name What Block Node)
      → IsKeptNode (roll-StatementNode Name (map-StatementNode Name What Block Node (Statement Name)
      (BlockNode Name) (StatementNode Name) (λ n. n.0) (λ n. n.0) (λ n. n.0) y))
  node_keeps y fits =
      let x : s.StatementNode-F Name (Statement Name) (BlockNode Name) (StatementNode Name) =
      record { pos = y.pos; what = y.what.0 } in
      subst Keeps (sym (fold-roll-StatementNode Name (Walk Name) (Walk Name) (Walk Name)
      parts.statement_step parts.block_step (λ n. n.what) x))
      (y.what.1 (sym (fold-roll-StatementNode Name Bool Bool Bool form.statement_step form.block_step
      (λ n. n.what) x) ∙ fits))

  pub blocks_keep : (b : BlockNode Name) → IsKeptBlock b
  blocks_keep =
      ind-BlockNode Name IsKept IsKeptBlock IsKeptNode
      (λ x y is. subst (λ (z : Layer). IsKept (roll-Statement Name z)) is (statement_keeps y))
      (λ x y is. subst (λ (z : s.BlockNode-F Name (Statement Name) (BlockNode Name) (StatementNode Name)).
      IsKeptBlock (roll-BlockNode Name z)) is (block_keeps y))
      (λ x y is. subst (λ (z : s.StatementNode-F Name (Statement Name) (BlockNode Name)
      (StatementNode Name)). IsKeptNode (roll-StatementNode Name z)) is (node_keeps y))

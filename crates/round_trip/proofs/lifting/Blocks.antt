-- The words of every block are a text of the rule of blocks, with the same tree but for places.
use Rattle.std.proofs.Common.{◌≡◌, ℕ, zero, suc, ◌≤◌, Bool, true, List, [], ◌∷◌, map, Some, None, refl, sym, ap, subst, ◌∙◌, arith}
use Rattle.std.specs.List.{AllByRecursion, list_all}
use Rattle.hh_base.specs.declared.value.Pos.{Pos}
use Rattle.module_tree.specs.declared.source.BlockNode.{BlockNode, roll-BlockNode}
use Rattle.module_tree.specs.declared.source.StatementNode.{StatementNode, roll-StatementNode}
use Rattle.module_tree.specs.declared.source.Statement.{Statement, roll-Statement}
use Rattle.module_tree.specs.declared.source.Statement.TheOpen as layer
use Rattle.module_tree.specs.declared.source.Statement.TheFolds.{fold-roll-BlockNode, ind-BlockNode, map-Statement, map-StatementNode}
use Rattle.module_tree.specs.SourceForms as tests
use Rattle.module_tree.specs.SourceForms.{fits_block}
use Rattle.module_tree.specs.SourceNesting as nests
use Rattle.module_tree.specs.SourceNesting.{largest, nesting_of_block}
use Rattle.grammar.proofs.KindSets.{both as parts}
use Rattle.module_token.specs.declared.punct.Punct.TheVariants as punct
use Rattle.expression_reader.specs.Trees.{Name, pos_at}
use Rattle.module_reader.specs.Trees.{block_at}
use Rattle.module_printer.specs.SourceTokens as tokens
use Rattle.module_printer.specs.SourceTokens.{tokens_of_node}
use Rattle.module_reader.specs.Rules as g
use Rattle.round_trip.specs.Places.{placeless_block, statement_step, block_step, node_step}
use Rattle.module_reader.proofs.written.Layers.{of_statement_node, of_statement_parts, statement_layer, block_layer}
use Rattle.round_trip.proofs.lifting.Lifting.{Lifts, Same, lifts_then, lifts_made, lifts_left, lifts_right, lifts_many}
use Rattle.round_trip.proofs.lifting.OneToken.{lifts_punct}
use Rattle.round_trip.proofs.lifting.Statements.{Layer, placeless_node, whole, first_of, second_of, nothing_lifts, pause_lifts, halt_lifts, emit_lifts, sustain_lifts, await_lifts, break_lifts, run_lifts, async_lifts}
use Rattle.round_trip.proofs.lifting.Compounds.{BlockLifts, loop_lifts, nested_lifts, trap_lifts, local_lifts, fork_lifts, every_lifts, abort_lifts, weak_abort_lifts, do_every_lifts, choice_lifts, suspend_lifts}

-- ---- what is to be told of statements and blocks

abbrev fits_node : StatementNode Name → Bool
fits_node = of_statement_node tests.statement_step tests.block_step

abbrev nesting_of_node : StatementNode Name → ℕ
nesting_of_node = of_statement_node nests.statement_step nests.block_step

abbrev NodeLifts : ℕ → StatementNode Name → Type 0
NodeLifts room n = Lifts (Same placeless_node n) (g.statement (g.block room) room) (tokens_of_node n)

abbrev IsPrintedNode : StatementNode Name → Type 0
IsPrintedNode n = (room : ℕ) → fits_node n ≡ true → nesting_of_node n ≤ room → NodeLifts room n

abbrev pub IsPrintedBlock : BlockNode Name → Type 0
IsPrintedBlock b = (room : ℕ) → fits_block b ≡ true → nesting_of_block b ≤ room → BlockLifts (g.block room) b

abbrev IsPrintedStatement : Statement Name → Type 0
IsPrintedStatement x = (p : Pos) → IsPrintedNode (roll-StatementNode Name (record { pos = p; what = x }))

abbrev Node : Type 0
Node = (n : StatementNode Name) × IsPrintedNode n

abbrev Block : Type 0
Block = (b : BlockNode Name) × IsPrintedBlock b

abbrev What : Type 0
What = (x : Statement Name) × IsPrintedStatement x

-- ---- lists of parts

each_block : (bs : List Block) (room : ℕ) → list_all (λ b. b) (map fits_block (map (λ z. z.0) bs)) ≡ true
    → largest (map nesting_of_block (map (λ z. z.0) bs)) ≤ room
    → AllByRecursion (BlockLifts (g.block room)) (map (λ z. z.0) bs)
each_block [] room h le = tt
each_block (b ∷ bs) room h le = let q = parts (fits_block b.0) _ h in
    (b.1 room q.0 (first_of _ _ le), each_block bs room q.1 (second_of _ _ le))

each_node : (ns : List Node) (room : ℕ) → list_all (λ b. b) (map fits_node (map (λ z. z.0) ns)) ≡ true
    → largest (map nesting_of_node (map (λ z. z.0) ns)) ≤ room
    → AllByRecursion (NodeLifts room) (map (λ z. z.0) ns)
each_node [] room h le = tt
each_node (n ∷ ns) room h le = let q = parts (fits_node n.0) _ h in
    (n.1 room q.0 (first_of _ _ le), each_node ns room q.1 (second_of _ _ le))

-- ---- by the parts of a statement

module _ (p : Pos) (all : Layer) where
  by_layer : ((room : ℕ) → tests.statement_step (of_statement_parts tests.statement_step tests.block_step all)
      ≡ true → nests.statement_step (of_statement_parts nests.statement_step nests.block_step all) ≤ room
      → Lifts (Same placeless_node (whole p all)) (g.statement (g.block room) room)
      (tokens.statement_step (of_statement_parts tokens.statement_step tokens.block_step all)))
      → IsPrintedNode (whole p all)
  by_layer f room fits le =
      subst (λ ws. Lifts (Same placeless_node (whole p all)) (g.statement (g.block room) room) ws)
      (sym (statement_layer tokens.statement_step tokens.block_step p all refl))
      (f room (sym (statement_layer tests.statement_step tests.block_step p all refl) ∙ fits)
      (subst (λ n. n ≤ room) (statement_layer nests.statement_step nests.block_step p all refl) le))

some_same : {A : Type 0} {a b : A} → Some a ≡ Some b → a ≡ b
some_same e = cc

statement_printed : (y : layer.Statement-F Name What Block Node)
    → IsPrintedStatement (roll-Statement Name (map-Statement Name What Block Node (Statement Name)
    (BlockNode Name) (StatementNode Name) (λ z. z.0) (λ z. z.0) (λ z. z.0) y))
statement_printed layer.Nothing p =
    by_layer p layer.Nothing
    (λ room h le. lifts_left (nothing_lifts p))
statement_printed layer.Pause p =
    by_layer p layer.Pause
    (λ room h le. lifts_right (lifts_left (pause_lifts p)))
statement_printed layer.Halt p =
    by_layer p layer.Halt
    (λ room h le. lifts_right (lifts_right (lifts_left (halt_lifts p))))
statement_printed (layer.Emit n v) p =
    by_layer p (layer.Emit n v)
    (λ room h le. lifts_right (lifts_right (lifts_right (lifts_left (emit_lifts p room n v h le)))))
statement_printed (layer.Sustain n v) p =
    by_layer p (layer.Sustain n v)
    (λ room h le. lifts_right
    (lifts_right (lifts_right (lifts_right (lifts_left (sustain_lifts p room n v h le))))))
statement_printed (layer.If x b None) p =
    by_layer p (layer.If x b.0 None)
    (λ room h le. let q = parts _ _ h in let r = parts _ _ q.0 in
    lifts_right (lifts_right
    (lifts_right (lifts_right
    (lifts_right (lifts_left (choice_lifts p room (g.block room) x b.0 None r.0 (first_of _ _ le)
    (b.1 room r.1 (first_of _ _ (second_of _ _ le))) (λ c e. absurd (let no : ⊥ = cc in no)))))))))
statement_printed (layer.If x b (Some d)) p =
    by_layer p (layer.If x b.0 (Some d.0))
    (λ room h le. let q = parts _ _ h in let r = parts _ _ q.0 in
    lifts_right (lifts_right
    (lifts_right (lifts_right
    (lifts_right (lifts_left (choice_lifts p room (g.block room) x b.0 (Some d.0) r.0 (first_of _ _ le)
    (b.1 room r.1 (first_of _ _ (second_of _ _ le))) (λ c e. subst (BlockLifts (g.block room))
    (some_same e) (d.1 room q.1 (second_of _ _ (second_of _ _ le)))))))))))
statement_printed (layer.Loop b) p =
    by_layer p (layer.Loop b.0)
    (λ room h le. lifts_right
    (lifts_right (lifts_right
    (lifts_right (lifts_right
    (lifts_right (lifts_left (loop_lifts p (g.block room) b.0 (b.1 room h le)))))))))
statement_printed (layer.Fork []) p = by_layer p (layer.Fork []) (λ room h le. absurd (let no : ⊥ = cc in no))
statement_printed (layer.Fork (b ∷ bs)) p =
    by_layer p (layer.Fork (b.0 ∷ map (λ z. z.0) bs))
    (λ room h le. lifts_right
    (lifts_right (lifts_right
    (lifts_right (lifts_right
    (lifts_right (lifts_right
    (lifts_left (fork_lifts p (g.block room) b.0 (map (λ z. z.0) bs)
    (each_block (b ∷ bs) room h le))))))))))
statement_printed (layer.Block b) p =
    by_layer p (layer.Block b.0)
    (λ room h le. lifts_right
    (lifts_right (lifts_right
    (lifts_right (lifts_right
    (lifts_right (lifts_right
    (lifts_right (lifts_right
    (lifts_right (lifts_right
    (lifts_right (lifts_right
    (lifts_right (lifts_right
    (lifts_right (lifts_right
    (lifts_right (lifts_right (nested_lifts p (g.block room) b.0 (b.1 room h le)))))))))))))))))))))
statement_printed (layer.Await d) p =
    by_layer p (layer.Await d)
    (λ room h le. lifts_right
    (lifts_right (lifts_right
    (lifts_right (lifts_right
    (lifts_right (lifts_right (lifts_right (lifts_left (await_lifts p room d h le))))))))))
statement_printed (layer.Every d b) p =
    by_layer p (layer.Every d b.0)
    (λ room h le. let q = parts _ _ h in
    lifts_right (lifts_right
    (lifts_right (lifts_right
    (lifts_right (lifts_right
    (lifts_right (lifts_right
    (lifts_right (lifts_left (every_lifts p room (g.block room) d b.0 q.0 (first_of _ _ le)
    (b.1 room q.1 (second_of _ _ le)))))))))))))
statement_printed (layer.DoEvery b d) p =
    by_layer p (layer.DoEvery b.0 d)
    (λ room h le. let q = parts _ _ h in
    lifts_right (lifts_right
    (lifts_right (lifts_right
    (lifts_right (lifts_right
    (lifts_right (lifts_right
    (lifts_right (lifts_right
    (lifts_left (do_every_lifts p room (g.block room) b.0 d q.1 (second_of _ _ le)
    (b.1 room q.0 (first_of _ _ le))))))))))))))
statement_printed (layer.Abort d b) p =
    by_layer p (layer.Abort d b.0)
    (λ room h le. let q = parts _ _ h in
    lifts_right (lifts_right
    (lifts_right (lifts_right
    (lifts_right (lifts_right
    (lifts_right (lifts_right
    (lifts_right (lifts_right
    (lifts_right (lifts_left (abort_lifts p room (g.block room) d b.0 q.0 (first_of _ _ le)
    (b.1 room q.1 (second_of _ _ le)))))))))))))))
statement_printed (layer.WeakAbort d b) p =
    by_layer p (layer.WeakAbort d b.0)
    (λ room h le. let q = parts _ _ h in
    lifts_right (lifts_right
    (lifts_right (lifts_right
    (lifts_right (lifts_right
    (lifts_right (lifts_right
    (lifts_right (lifts_right
    (lifts_right (lifts_right
    (lifts_left (weak_abort_lifts p room (g.block room) d b.0 q.0 (first_of _ _ le)
    (b.1 room q.1 (second_of _ _ le))))))))))))))))
statement_printed (layer.Suspend immediate x b) p =
    by_layer p (layer.Suspend immediate x b.0)
    (λ room h le. let q = parts _ _ h in
    lifts_right (lifts_right
    (lifts_right (lifts_right
    (lifts_right (lifts_right
    (lifts_right (lifts_right
    (lifts_right (lifts_right
    (lifts_right (lifts_right
    (lifts_right (lifts_left (suspend_lifts p room (g.block room) immediate x b.0 q.0 (first_of _ _ le)
    (b.1 room q.1 (second_of _ _ le)))))))))))))))))
statement_printed (layer.Signal [] b) p = by_layer p (layer.Signal [] b.0)
    (λ room h le. absurd (let no : ⊥ = cc in no))
statement_printed (layer.Signal (signal ∷ signals) b) p =
    by_layer p (layer.Signal (signal ∷ signals) b.0)
    (λ room h le. let q = parts _ _ h in
    lifts_right (lifts_right
    (lifts_right (lifts_right
    (lifts_right (lifts_right
    (lifts_right (lifts_right
    (lifts_right (lifts_right
    (lifts_right (lifts_right
    (lifts_right (lifts_right
    (lifts_left (local_lifts p (g.block room) signal signals b.0 q.0 (b.1 room q.1 le)))))))))))))))))
statement_printed (layer.Trap n b) p =
    by_layer p (layer.Trap n b.0)
    (λ room h le. let q = parts _ _ h in
    lifts_right (lifts_right
    (lifts_right (lifts_right
    (lifts_right (lifts_right
    (lifts_right (lifts_right
    (lifts_right (lifts_right
    (lifts_right (lifts_right
    (lifts_right (lifts_right
    (lifts_right (lifts_left (trap_lifts p (g.block room) n b.0 q.0 (b.1 room q.1 le))))))))))))))))))
statement_printed (layer.Break n) p =
    by_layer p (layer.Break n)
    (λ room h le. lifts_right
    (lifts_right (lifts_right
    (lifts_right (lifts_right
    (lifts_right (lifts_right
    (lifts_right (lifts_right
    (lifts_right (lifts_right
    (lifts_right (lifts_right
    (lifts_right (lifts_right (lifts_right (lifts_left (break_lifts p n h))))))))))))))))))
statement_printed (layer.Run n bs) p =
    by_layer p (layer.Run n bs)
    (λ room h le. lifts_right
    (lifts_right (lifts_right
    (lifts_right (lifts_right
    (lifts_right (lifts_right
    (lifts_right (lifts_right
    (lifts_right (lifts_right
    (lifts_right (lifts_right
    (lifts_right (lifts_right
    (lifts_right (lifts_right (lifts_left (run_lifts p room n bs h le)))))))))))))))))))
statement_printed (layer.Async a) p =
    by_layer p (layer.Async a)
    (λ room h le. lifts_right
    (lifts_right (lifts_right
    (lifts_right (lifts_right
    (lifts_right (lifts_right
    (lifts_right (lifts_right
    (lifts_right (lifts_right
    (lifts_right (lifts_right
    (lifts_right (lifts_right
    (lifts_right (lifts_right (lifts_right (lifts_left (async_lifts p room a h le))))))))))))))))))))

-- ---- blocks

module _ (p : Pos) (ns : List Node) where
  abbrev block_of : BlockNode Name
  block_of = roll-BlockNode Name (record { pos = p; statements = map (λ z. z.0) ns })

  same_block : (n : ℕ) (xs : List (StatementNode Name)) → Same (map placeless_node) (map (λ z. z.0) ns) xs
      → Same placeless_block block_of (block_at n xs)
  same_block n xs e =
      fold-roll-BlockNode Name (Statement Name) (BlockNode Name)
      (StatementNode Name) statement_step block_step node_step
      (record { pos = pos_at n; statements = xs })
      ∙ ap (λ z. block_at 0 z) e ∙ sym (fold-roll-BlockNode Name (Statement Name) (BlockNode Name)
      (StatementNode Name) statement_step block_step node_step
      (record { pos = p; statements = map (λ z. z.0) ns }))

  by_statements : (room : ℕ) → AllByRecursion (NodeLifts room) (map (λ z. z.0) ns)
      → Lifts (Same placeless_block block_of) (g.block (suc room))
      (tokens.block_step (record { pos = p; statements = map tokens_of_node (map (λ z. z.0) ns) }))
  by_statements room h =
      lifts_then (lifts_punct punct.LeftBrace)
      (λ place u. lifts_then (lifts_many tokens_of_node (λ ts. ts) (map (λ z. z.0) ns) h)
      (λ xs e. lifts_made (lifts_punct punct.RightBrace) (λ z v. same_block place xs e)))

  block_printed : IsPrintedBlock block_of
  block_printed room fits le =
      subst (λ ws. Lifts (Same placeless_block block_of) (g.block room) ws)
      (sym (block_layer tokens.statement_step tokens.block_step p.0 (map (λ z. z.0) ns)))
      (by_room room (sym (block_layer tests.statement_step tests.block_step p.0 (map (λ z. z.0) ns)) ∙ fits)
      (subst (λ n. n ≤ room) (block_layer nests.statement_step nests.block_step p.0 (map (λ z. z.0) ns))
      le))
    where
      by_room : (room : ℕ) → list_all (λ b. b) (map fits_node (map (λ z. z.0) ns)) ≡ true
          → suc (largest (map nesting_of_node (map (λ z. z.0) ns))) ≤ room
          → Lifts (Same placeless_block block_of) (g.block room)
          (tokens.block_step (record { pos = p; statements = map tokens_of_node (map (λ z. z.0) ns) }))
      by_room zero h le = absurd (let no : ⊥ = omega (arith, le) in no)
      by_room (suc room) h le = by_statements room (each_node ns room h (omega (arith, le)))

abbrev Whole : layer.StatementNode-F Name What Block Node → Type 0
Whole y = IsPrintedNode
    (roll-StatementNode Name (map-StatementNode Name What Block Node (Statement Name) (BlockNode Name)
    (StatementNode Name) (λ z. z.0) (λ z. z.0) (λ z. z.0) y))

node_printed : (y : layer.StatementNode-F Name What Block Node) → Whole y
node_printed y = y.what.1 y.pos

pub is_printed_block : (b : BlockNode Name) → IsPrintedBlock b
is_printed_block =
    ind-BlockNode Name IsPrintedStatement IsPrintedBlock IsPrintedNode
    (λ x y is. subst (λ (z : Layer). IsPrintedStatement (roll-Statement Name z)) is (statement_printed y))
    (λ x y is. subst (λ (z : layer.BlockNode-F Name (Statement Name) (BlockNode Name) (StatementNode Name)).
    IsPrintedBlock (roll-BlockNode Name z)) is (block_printed y.pos y.statements))
    (λ x y is. subst (λ (z : layer.StatementNode-F Name (Statement Name) (BlockNode Name)
    (StatementNode Name)). IsPrintedNode (roll-StatementNode Name z)) is (node_printed y))

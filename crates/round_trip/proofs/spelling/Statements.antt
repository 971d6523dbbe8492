-- The words of statements and blocks.
use Rattle.std.proofs.Common.{◌≡◌, ℕ, Bool, true, false, List, [], ◌∷◌, map, Some, None, sym, subst, ◌∙◌}
use Rattle.std.specs.Prelude.{codes}
use Rattle.std.specs.List.{list_all}
use Rattle.module_tree.specs.declared.source.BlockNode.{BlockNode, roll-BlockNode}
use Rattle.module_tree.specs.declared.source.StatementNode.{StatementNode, roll-StatementNode}
use Rattle.module_tree.specs.declared.source.Statement.{Statement, roll-Statement}
use Rattle.module_tree.specs.declared.source.Statement.TheOpen as s
use Rattle.module_tree.specs.declared.source.Statement.TheFolds.{fold-Statement, fold-StatementNode, fold-roll-Statement, fold-roll-StatementNode, fold-roll-BlockNode, ind-BlockNode, map-Statement, map-StatementNode, map-BlockNode}
use Rattle.module_tree.specs.SourceForms as tests
use Rattle.module_tree.specs.SourceForms.{fits_signal, fits_block}
use Rattle.hh_base.specs.declared.keyword.Keyword.TheVariants as k
use Rattle.module_token.specs.declared.punct.Punct.TheVariants as p
use Rattle.module_printer.specs.ExpressionTokens.{Lexemes}
use Rattle.module_printer.specs.SourceTokens as tokens
use Rattle.module_printer.specs.SourceTokens.{one_after_another, separated, immediate_word, tokens_of_signal, tokens_of_statement, tokens_of_node, tokens_of_block}
use Rattle.round_trip.proofs.spelling.Blanks.{and_true}
use Rattle.round_trip.proofs.spelling.Words.{Spelt, name, keyword, mark, none, more, single, both, closed, commas, all_passed}
use Rattle.round_trip.proofs.spelling.Declarations.{signal, test, plain_delay, any_delay, emission, run, async}

abbrev Name : Type 0
Name = List ℕ

abbrev Layer : Type 0
Layer = s.Statement-F Name (Statement Name) (BlockNode Name) (StatementNode Name)

abbrev BlockLayer : Type 0
BlockLayer = s.BlockNode-F Name (Statement Name) (BlockNode Name) (StatementNode Name)

abbrev NodeLayer : Type 0
NodeLayer = s.StatementNode-F Name (Statement Name) (BlockNode Name) (StatementNode Name)

fits_statement : Statement Name → Bool
fits_statement = fold-Statement Name Bool Bool Bool tests.statement_step tests.block_step (λ n. n.what)

fits_node : StatementNode Name → Bool
fits_node = fold-StatementNode Name Bool Bool Bool tests.statement_step tests.block_step (λ n. n.what)

-- where it passes the tests of source trees, its words are spelt
abbrev IsRight : Statement Name → Type 0
IsRight x = fits_statement x ≡ true → Spelt (tokens_of_statement x)

abbrev IsRightNode : StatementNode Name → Type 0
IsRightNode x = fits_node x ≡ true → Spelt (tokens_of_node x)

abbrev pub IsRightBlock : BlockNode Name → Type 0
IsRightBlock x = fits_block x ≡ true → Spelt (tokens_of_block x)

abbrev Part : Type 0
Part = (x : Statement Name) × IsRight x

abbrev Node : Type 0
Node = (x : StatementNode Name) × IsRightNode x

abbrev Block : Type 0
Block = (x : BlockNode Name) × IsRightBlock x

-- ---- what the recursions make of a layer

fits_in : Layer → s.Statement-F Name Bool Bool Bool
fits_in = map-Statement Name (Statement Name) (BlockNode Name)
    (StatementNode Name) Bool Bool Bool fits_statement fits_block fits_node

tokens_in : Layer → s.Statement-F Name Lexemes Lexemes Lexemes
tokens_in = map-Statement Name (Statement Name) (BlockNode Name)
    (StatementNode Name) Lexemes Lexemes Lexemes tokens_of_statement tokens_of_block tokens_of_node

by_layer : (y : Layer) → (tests.statement_step (fits_in y) ≡ true
    → Spelt (tokens.statement_step (tokens_in y))) → IsRight (roll-Statement Name y)
unfolding fits_statement fits_node fits_in tokens_in
by_layer y f h =
    subst Spelt (sym (fold-roll-Statement Name Lexemes Lexemes Lexemes tokens.statement_step tokens.block_step
    (λ n. n.what) y))
    (f (sym (fold-roll-Statement Name Bool Bool Bool tests.statement_step tests.block_step (λ n. n.what) y)
    ∙ h))

-- ---- statements

immediate : (i : Bool) → Spelt (immediate_word i)
immediate true = single (keyword k.Immediate)
immediate false = none

-- one behind another, with `par` between them
branches : (bs : List Block) → list_all (λ b. b) (map fits_block (map (λ b. b.0) bs)) ≡ true
    → Spelt (tokens.behind (codes "par") (map tokens_of_block (map (λ b. b.0) bs)))
branches [] h = none
branches (b ∷ bs) h = let q = and_true _ _ h in more (keyword k.Par) (both (b.1 q.0) (branches bs q.1))

fork : (bs : List Block) → list_all (λ b. b) (map fits_block (map (λ b. b.0) bs)) ≡ true
    → Spelt (separated (codes "par") (map tokens_of_block (map (λ b. b.0) bs)))
fork [] h = none
fork (b ∷ bs) h = let q = and_true _ _ h in both (b.1 q.0) (branches bs q.1)

right_statement : (y : s.Statement-F Name Part Block Node) → IsRight
    (roll-Statement Name (map-Statement Name Part Block Node (Statement Name) (BlockNode Name)
    (StatementNode Name) (λ n. n.0) (λ n. n.0) (λ n. n.0) y))
unfolding fits_in tokens_in
right_statement s.Nothing = by_layer s.Nothing (λ h. more (keyword k.Nothing) (single (mark p.Semicolon)))
right_statement s.Pause = by_layer s.Pause (λ h. more (keyword k.Pause) (single (mark p.Semicolon)))
right_statement s.Halt = by_layer s.Halt (λ h. more (keyword k.Halt) (single (mark p.Semicolon)))
right_statement (s.Emit n x) = by_layer (s.Emit n x) (λ h. let q = and_true _ _ h in
    emission k.Emit n x q.0 q.1)
right_statement (s.Sustain n x) = by_layer (s.Sustain n x) (λ h. let q = and_true _ _ h in
    emission k.Sustain n x q.0 q.1)
right_statement (s.If x b None) =
    by_layer (s.If x b.0 None) (λ h. let q = and_true _ _ h in let r = and_true _ _ q.0 in
    both (more (keyword k.If) (both (test x r.0) (b.1 r.1))) none)
right_statement (s.If x b (Some c)) =
    by_layer (s.If x b.0 (Some c.0)) (λ h. let q = and_true _ _ h in let r = and_true _ _ q.0 in
    both (more (keyword k.If) (both (test x r.0) (b.1 r.1))) (more (keyword k.Else) (c.1 q.1)))
right_statement (s.Loop b) = by_layer (s.Loop b.0) (λ h. more (keyword k.Loop) (b.1 h))
right_statement (s.Fork bs) = by_layer (s.Fork (map (λ b. b.0) bs))
    (λ h. more (keyword k.Fork) (fork bs (and_true _ _ h).1))
right_statement (s.Block b) = by_layer (s.Block b.0) b.1
right_statement (s.Await d) = by_layer (s.Await d) (λ h. more (keyword k.Await)
    (closed (any_delay d h) p.Semicolon))
right_statement (s.Every d b) = by_layer (s.Every d b.0) (λ h. let q = and_true _ _ h in
    more (keyword k.Every) (both (any_delay d q.0) (b.1 q.1)))
right_statement (s.DoEvery b d) =
    by_layer (s.DoEvery b.0 d) (λ h. let q = and_true _ _ h in
    closed (both (more (keyword k.Do) (b.1 q.0)) (more (keyword k.Every) (plain_delay d q.1)))
    p.Semicolon)
right_statement (s.Abort d b) = by_layer (s.Abort d b.0) (λ h. let q = and_true _ _ h in
    more (keyword k.Abort) (both (any_delay d q.0) (b.1 q.1)))
right_statement (s.WeakAbort d b) = by_layer (s.WeakAbort d b.0) (λ h. let q = and_true _ _ h in
    more (keyword k.WeakAbort) (both (any_delay d q.0) (b.1 q.1)))
right_statement (s.Suspend i x b) =
    by_layer (s.Suspend i x b.0) (λ h. let q = and_true _ _ h in
    more (keyword k.Suspend) (both (both (immediate i) (test x q.0)) (b.1 q.1)))
right_statement (s.Signal signals b) =
    by_layer (s.Signal signals b.0)
    (λ h. let q = and_true _ _ h in
    more (keyword k.Signal)
    (both (commas tokens_of_signal signals (all_passed (λ x. Spelt (tokens_of_signal x)) fits_signal
    signal signals (and_true _ _ q.0).1)) (b.1 q.1)))
right_statement (s.Trap n b) = by_layer (s.Trap n b.0) (λ h. let q = and_true _ _ h in
    more (keyword k.Trap) (more (name n q.0) (b.1 q.1)))
right_statement (s.Break n) = by_layer (s.Break n) (λ h. more (keyword k.Break)
    (more (name n.name h) (single (mark p.Semicolon))))
right_statement (s.Run n bindings) = by_layer (s.Run n bindings) (λ h. let q = and_true _ _ h in
    run n bindings q.0 q.1)
right_statement (s.Async a) = by_layer (s.Async a) (async a)

-- ---- blocks

statements : (xs : List Node) → list_all (λ b. b) (map fits_node (map (λ n. n.0) xs)) ≡ true
    → Spelt (one_after_another (map tokens_of_node (map (λ n. n.0) xs)))
statements [] h = none
statements (x ∷ xs) h = let q = and_true _ _ h in both (x.1 q.0) (statements xs q.1)

right_block : (y : s.BlockNode-F Name Part Block Node) → IsRightBlock
    (roll-BlockNode Name (map-BlockNode Name Part Block Node (Statement Name) (BlockNode Name)
    (StatementNode Name) (λ n. n.0) (λ n. n.0) (λ n. n.0) y))
unfolding fits_node
right_block y h =
    let x : BlockLayer = record { pos = y.pos; statements = map (λ n. n.0) y.statements } in
    let passed = sym (fold-roll-BlockNode Name Bool Bool Bool tests.statement_step tests.block_step
    (λ n. n.what) x) ∙ h in
    subst Spelt (sym (fold-roll-BlockNode Name Lexemes Lexemes Lexemes tokens.statement_step tokens.block_step
    (λ n. n.what) x))
    (more (mark p.LeftBrace) (closed (statements y.statements passed) p.RightBrace))

right_node : (y : s.StatementNode-F Name Part Block Node) → IsRightNode
    (roll-StatementNode Name (map-StatementNode Name Part Block Node (Statement Name) (BlockNode Name)
    (StatementNode Name) (λ n. n.0) (λ n. n.0) (λ n. n.0) y))
unfolding fits_node fits_statement
right_node y h =
    let x : NodeLayer = record { pos = y.pos; what = y.what.0 } in
    subst Spelt (sym (fold-roll-StatementNode Name Lexemes Lexemes Lexemes tokens.statement_step
    tokens.block_step (λ n. n.what) x))
    (y.what.1 (sym (fold-roll-StatementNode Name Bool Bool Bool tests.statement_step tests.block_step
    (λ n. n.what) x) ∙ h))

pub block : (b : BlockNode Name) → IsRightBlock b
block =
    ind-BlockNode Name IsRight IsRightBlock IsRightNode
    (λ x y is. subst (λ (z : Layer). IsRight (roll-Statement Name z)) is (right_statement y))
    (λ x y is. subst (λ (z : BlockLayer). IsRightBlock (roll-BlockNode Name z)) is (right_block y))
    (λ x y is. subst (λ (z : NodeLayer). IsRightNode (roll-StatementNode Name z)) is (right_node y))

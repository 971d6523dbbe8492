-- What statements and blocks declare has the names of its positions: each signal stands at its name, and each
-- counter at the keyword of its statement.
use Rattle.std.proofs.Common.{◌≡◌, ℕ, zero, suc, List, ◌++◌, Option, Some, None, sym, subst}
use Rattle.std.specs.Prelude.{IfSome}
use Rattle.std.specs.List.{AllByRecursion}
use Rattle.hh_base.specs.declared.value.Pos.{Pos}
use Rattle.hh_base.specs.declared.keyword.Keyword.{Keyword}
use Rattle.hh_base.specs.declared.keyword.Keyword.TheVariants as w
use Rattle.module_tree.specs.declared.source.ExprAt.{ExprAt}
use Rattle.module_tree.specs.declared.source.BlockNode.{BlockNode, out-BlockNode}
use Rattle.module_tree.specs.declared.source.StatementNode.{StatementNode, roll-StatementNode}
use Rattle.module_tree.specs.declared.source.Statement.{Statement, roll-Statement}
use Rattle.module_tree.specs.declared.source.Statement.TheVariants as s
use Rattle.module_tree.specs.declared.source.Statement.TheOpen as layer
use Rattle.module_tree.specs.declared.source.Later.{Later}
use Rattle.module_tree.specs.declared.source.Later.TheVariants as later
use Rattle.module_tree.specs.declared.source.Delay.{Delay}
use Rattle.module_tree.specs.declared.source.Delay.TheVariants as delay
use Rattle.module_tree.specs.DeclaredAt.{DeclaredAt, declared_signal, later_counter, delay_counter}
use Rattle.module_tree.specs.DeclaredAt.{statement_step, declared_in_block}
use Rattle.expression_reader.specs.Trees.{Name, pos_at}
use Rattle.module_reader.specs.Trees.{statement_at, block_at}
use Rattle.expression_reader.specs.Rules.{Lang}
use Rattle.module_reader.specs.Rules as g
use Rattle.module_reader.proofs.named.Naming.{Tells, tells_then, tells_past, tells_pure, tells_or, tells_many}
use Rattle.module_reader.proofs.named.Naming.{tells_listed, tells_if_some, keyword}
use Rattle.module_reader.proofs.named.Layers.{Layer, declared_in_node, declared_by_parts, statement_layer}
use Rattle.module_reader.proofs.named.Layers.{block_layer}
use Rattle.module_reader.proofs.named.Declarations.{HasName, all_joined, all_mapped, all_flat, signal}

module _ (name_at : Pos → Option (List ℕ)) where
  abbrev pub HaveNames : List DeclaredAt → Type 0
  HaveNames = AllByRecursion (HasName name_at)

  abbrev IsStatement : StatementNode Name → Type 0
  IsStatement x = HaveNames (declared_in_node x)

  abbrev pub IsBlock : BlockNode Name → Type 0
  IsBlock b = HaveNames (declared_in_block b)

  -- by what is told of its parts
  statement : (p : Pos) (parts : Layer) {x : Statement Name} → roll-Statement Name parts ≡ x
      → HaveNames (statement_step (declared_by_parts parts) p)
      → IsStatement (roll-StatementNode Name (record { pos = p; what = x }))
  statement p parts rolls h = subst HaveNames (sym (statement_layer p parts rolls)) h

  both : (xs ys : List DeclaredAt) → HaveNames xs → HaveNames ys → HaveNames (xs ++ ys)
  both = all_joined (HasName name_at)

  -- a counter has no name
  later_named : (l : Later Name) (p : Pos) → None ≡ name_at p → HaveNames (later_counter l p)
  later_named (later.Once x) p h = tt
  later_named (later.Count n x) p h = (h, tt)

  delay_named : (d : Delay Name) (p : Pos) → None ≡ name_at p → HaveNames (delay_counter d p)
  delay_named (delay.Later l) p h = later_named l p h
  delay_named (delay.Immediate x) p h = tt

  counted : (d : Delay Name) (b : BlockNode Name) (n : ℕ) → None ≡ name_at (pos_at n) → IsBlock b
      → HaveNames (delay_counter d (pos_at n) ++ declared_in_block b)
  counted d b n h e = both (delay_counter d (pos_at n)) (declared_in_block b) (delay_named d (pos_at n) h) e

  choice : (n : ℕ) (a : ExprAt Name) (b : BlockNode Name) (c : Option (BlockNode Name)) → IsBlock b
      → IfSome c IsBlock → IsStatement (statement_at n (s.If a b c))
  choice n a b None h f = statement (pos_at n) (layer.If a b None) (s.rolls-If a b None)
      (both (declared_in_block b) _ h tt)
  choice n a b (Some c) h f = statement (pos_at n) (layer.If a b (Some c)) (s.rolls-If a b (Some c))
      (both (declared_in_block b) (declared_in_block c) h f)

  module _ (block : Lang (BlockNode Name)) (block_named : Tells name_at IsBlock block) where
    simple : (word : Keyword) (what : Statement Name) → ((n : ℕ) → IsStatement (statement_at n what))
        → Tells name_at IsStatement (g.simple word what)
    simple word what h = tells_past (λ n. tells_past (λ q. tells_pure (h n)))

    nothing : Tells name_at IsStatement (g.simple w.Nothing s.Nothing)
    nothing = simple w.Nothing s.Nothing (λ n. statement (pos_at n) layer.Nothing s.rolls-Nothing tt)

    pause : Tells name_at IsStatement (g.simple w.Pause s.Pause)
    pause = simple w.Pause s.Pause (λ n. statement (pos_at n) layer.Pause s.rolls-Pause tt)

    halt : Tells name_at IsStatement (g.simple w.Halt s.Halt)
    halt = simple w.Halt s.Halt (λ n. statement (pos_at n) layer.Halt s.rolls-Halt tt)

    emit : (room : ℕ) → Tells name_at IsStatement (g.emit room)
    emit room = tells_past (λ n. tells_past (λ e. tells_pure
        (statement (pos_at n) (layer.Emit e.0 e.1) (s.rolls-Emit e.0 e.1) tt)))

    sustain : (room : ℕ) → Tells name_at IsStatement (g.sustain room)
    sustain room = tells_past (λ n. tells_past (λ e. tells_pure
        (statement (pos_at n) (layer.Sustain e.0 e.1) (s.rolls-Sustain e.0 e.1) tt)))

    if_else : (room : ℕ) → Tells name_at IsStatement (g.if_else block room)
    if_else room = tells_past (λ n. tells_past (λ a. tells_then block_named (λ b h. tells_then
        (tells_if_some (tells_past (λ q. block_named))) (λ c f. tells_pure (choice n a b c h f)))))

    loop : Tells name_at IsStatement (g.loop block)
    loop = tells_past (λ n. tells_then block_named (λ b h. tells_pure
        (statement (pos_at n) (layer.Loop b) (s.rolls-Loop b) h)))

    par_blocks : Tells name_at (AllByRecursion IsBlock) (g.par_blocks block)
    par_blocks = tells_then block_named (λ b h. tells_then (tells_many (tells_past (λ q. block_named)))
        (λ bs hs. tells_pure (h, hs)))

    fork : Tells name_at IsStatement (g.fork block)
    fork = tells_past (λ n. tells_then par_blocks (λ bs h. tells_pure
        (statement (pos_at n) (layer.Fork bs) (s.rolls-Fork bs)
        (all_flat (HasName name_at) declared_in_block bs h))))

    nested_block : Tells name_at IsStatement (g.nested_block block)
    nested_block = tells_then block_named (λ b h. tells_pure
        (statement (out-BlockNode Name b).pos (layer.Block b) (s.rolls-Block b) h))

    await : (room : ℕ) → Tells name_at IsStatement (g.await room)
    await room = tells_past (λ n. tells_past (λ d. tells_past (λ q. tells_pure
        (statement (pos_at n) (layer.Await d) (s.rolls-Await d) tt))))

    every : (room : ℕ) → Tells name_at IsStatement (g.every block room)
    every room = tells_then (keyword w.Every) (λ n e. tells_past (λ d. tells_then block_named (λ b h.
        tells_pure
        (statement (pos_at n) (layer.Every d b) (s.rolls-Every d b) (counted d b n e h)))))

    do_every : (room : ℕ) → Tells name_at IsStatement (g.do_every block room)
    do_every room = tells_then (keyword w.Do) (λ n e. tells_then block_named (λ b h. tells_past
        (λ q. tells_past (λ l. tells_past (λ z. tells_pure
        (statement (pos_at n) (layer.DoEvery b l) (s.rolls-DoEvery b l)
        (counted (delay.Later l) b n e h)))))))

    abort : (room : ℕ) → Tells name_at IsStatement (g.abort block room)
    abort room = tells_then (keyword w.Abort) (λ n e. tells_past (λ d. tells_then block_named (λ b h.
        tells_pure
        (statement (pos_at n) (layer.Abort d b) (s.rolls-Abort d b) (counted d b n e h)))))

    weak_abort : (room : ℕ) → Tells name_at IsStatement (g.weak_abort block room)
    weak_abort room = tells_past (λ n. tells_past (λ d. tells_then block_named (λ b h. tells_pure
        (statement (pos_at n) (layer.WeakAbort d b) (s.rolls-WeakAbort d b) h))))

    suspend : (room : ℕ) → Tells name_at IsStatement (g.suspend block room)
    suspend room = tells_past (λ n. tells_past (λ i. tells_past (λ a. tells_then block_named
        (λ b h. tells_pure (statement (pos_at n) (layer.Suspend i a b) (s.rolls-Suspend i a b) h)))))

    local : Tells name_at IsStatement (g.local block)
    local = tells_past (λ n. tells_then (tells_listed (signal name_at)) (λ ds e. tells_then block_named
        (λ b h. tells_pure (statement (pos_at n) (layer.Signal ds b) (s.rolls-Signal ds b)
        (both _ (declared_in_block b) (all_mapped (HasName name_at) declared_signal ds e) h)))))

    trap : Tells name_at IsStatement (g.trap block)
    trap = tells_past (λ n. tells_past (λ m. tells_then block_named (λ b h. tells_pure
        (statement (pos_at n) (layer.Trap m.1 b) (s.rolls-Trap m.1 b) h))))

    break_out : Tells name_at IsStatement g.break_out
    break_out = tells_past (λ n. tells_past (λ m. tells_past (λ q. tells_pure
        (statement (pos_at n) (layer.Break m) (s.rolls-Break m) tt))))

    run : (room : ℕ) → Tells name_at IsStatement (g.run room)
    run room = tells_past (λ n. tells_past (λ m. tells_past (λ bs. tells_past (λ q. tells_pure
        (statement (pos_at n) (layer.Run m bs) (s.rolls-Run m bs) tt)))))

    async : (room : ℕ) → Tells name_at IsStatement (g.async room)
    async room = tells_past (λ n. tells_past (λ r. tells_past (λ c. tells_past (λ f. tells_past
        (λ xs. tells_past (λ k. tells_past (λ u. tells_past (λ e. tells_past (λ q. tells_pure
        (statement (pos_at n) (layer.Async _) (s.rolls-Async _) tt))))))))))

    any_statement : (room : ℕ) → Tells name_at IsStatement (g.statement block room)
    any_statement room =
        tells_or nothing (tells_or pause (tells_or halt (tells_or (emit room) (tells_or (sustain room)
        (tells_or (if_else room) (tells_or loop (tells_or fork (tells_or (await room) (tells_or (every room)
        (tells_or (do_every room) (tells_or (abort room) (tells_or (weak_abort room)
        (tells_or (suspend room) (tells_or local (tells_or trap (tells_or break_out (tells_or (run room)
        (tells_or (async room) nested_block))))))))))))))))))

  block_of : (n : ℕ) (xs : List (StatementNode Name)) → AllByRecursion IsStatement xs
      → IsBlock (block_at n xs)
  block_of n xs h = subst HaveNames (sym (block_layer n xs))
      (all_flat (HasName name_at) declared_in_node xs h)

  pub block : (room : ℕ) → Tells name_at IsBlock (g.block room)
  block zero = record { of = λ a text ks named h. absurd h }
  block (suc room) = tells_past (λ place. tells_then
      (tells_many (any_statement (g.block room) (block room) room))
      (λ xs h. tells_past (λ n. tells_pure (block_of place xs h))))

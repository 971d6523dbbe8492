-- What a text has as statements and blocks passes the tests of source trees, in which no more brackets are
-- open at once than may be.
use Rattle.std.proofs.Common.{◌≡◌, ℕ, zero, suc, ◌≤◌, true, Bool, List, [], ◌∷◌, map, Option, Some, None}
use Rattle.std.proofs.Common.{refl, sym, subst, ◌∙◌, arith}
use Rattle.std.specs.Prelude.{IfSome}
use Rattle.std.specs.List.{AllByRecursion, list_all}
use Rattle.std.proofs.Math.Nat.{max-le}
use Rattle.std.proofs.lemmas.List.Folds.{list_all-map}
use Rattle.hh_base.specs.declared.value.Pos.{Pos}
use Rattle.module_tree.specs.declared.source.NameAt.{NameAt}
use Rattle.module_tree.specs.declared.source.ExprAt.{ExprAt}
use Rattle.module_tree.specs.declared.source.AsyncNode.{AsyncNode}
use Rattle.module_tree.specs.declared.source.BlockNode.{BlockNode, out-BlockNode}
use Rattle.module_tree.specs.declared.source.StatementNode.{StatementNode, roll-StatementNode}
use Rattle.module_tree.specs.declared.source.Statement.{Statement, roll-Statement}
use Rattle.module_tree.specs.declared.source.Statement.TheVariants as s
use Rattle.module_tree.specs.declared.source.Statement.TheOpen as layer
use Rattle.module_tree.specs.SourceForms as tests
use Rattle.module_tree.specs.SourceForms.{is_filled, if_there, fits_name, fits_expression, fits_signal}
use Rattle.module_tree.specs.SourceForms.{fits_binding, fits_block}
use Rattle.module_tree.specs.SourceNesting as nests
use Rattle.module_tree.specs.SourceNesting.{in_parentheses, largest, nesting_of_value, nesting_of_block}
use Rattle.hh_base.specs.declared.keyword.Keyword.{Keyword}
use Rattle.hh_base.specs.declared.keyword.Keyword.TheVariants as w
use Rattle.expression_reader.specs.Trees.{Name, pos_at}
use Rattle.module_reader.specs.Trees.{statement_at, block_at}
use Rattle.expression_reader.specs.Rules as eg
use Rattle.module_reader.specs.Rules as g
use Rattle.expression_reader.specs.Rules.{Lang}
use Rattle.expression_reader.proofs.written.Keeping.{Keeps, keeps_then, keeps_after, keeps_pure, keeps_or}
use Rattle.expression_reader.proofs.written.Keeping.{keeps_many, keeps_more}
use Rattle.module_reader.proofs.written.Layers.{of_statement_node, of_statement_parts, statement_layer}
use Rattle.module_reader.proofs.written.Layers.{block_layer}
use Rattle.expression_reader.proofs.written.Nodes.{both}
use Rattle.module_reader.proofs.written.Declarations.{all_pass, keeps_if_some, keeps_listed}
use Rattle.module_reader.proofs.written.Declarations.{keeps_listed_or_none, keeps_optional, name, named}
use Rattle.module_reader.proofs.written.Declarations.{signal, binding, handler}
use Rattle.expression_reader.proofs.written.Brackets.{Fits, keeps_round, all_fit, nesting_at, outermost}
use Rattle.expression_reader.proofs.written.Brackets.{tested, value}
use Rattle.module_reader.proofs.written.Delays.{plain_delay, any_delay}

abbrev fits_statement : StatementNode Name → Bool
fits_statement = of_statement_node tests.statement_step tests.block_step

abbrev nesting_of_statement : StatementNode Name → ℕ
nesting_of_statement = of_statement_node nests.statement_step nests.block_step

abbrev IsStatement : ℕ → StatementNode Name → Type 0
IsStatement = Fits fits_statement nesting_of_statement

abbrev pub IsBlock : ℕ → BlockNode Name → Type 0
IsBlock = Fits fits_block nesting_of_block

-- by what is told of its parts
statement_fits : {room : ℕ} (p : Pos) (parts : layer.Statement-F Name (Statement Name) (BlockNode Name)
    (StatementNode Name)) {x : Statement Name} → roll-Statement Name parts ≡ x
    → tests.statement_step (of_statement_parts tests.statement_step tests.block_step parts) ≡ true
    → nests.statement_step (of_statement_parts nests.statement_step nests.block_step parts) ≤ room
    → IsStatement room (roll-StatementNode Name (record { pos = p; what = x }))
statement_fits {room} p parts rolls passes within = record {
  passes = statement_layer tests.statement_step tests.block_step p parts rolls ∙ passes;
  within = subst (λ n. n ≤ room) (sym (statement_layer nests.statement_step nests.block_step p parts rolls))
      within;
}

-- what is told of each of a list's parts
all_parts : {A : Type 0} (test : A → Bool) (nesting : A → ℕ) (room : ℕ) (xs : List A)
    → AllByRecursion (Fits test nesting room) xs → (list_all (λ b. b) (map test xs) ≡ true)
    × (largest (map nesting xs) ≤ room)
all_parts test nesting room xs h = let all = all_fit test nesting room xs h in
    (list_all-map (λ b. b) test xs ∙ all.passes, all.within)

choice_fits : {room : ℕ} (n : ℕ) (a : ExprAt Name) (b : BlockNode Name) (c : Option (BlockNode Name))
    → Fits fits_expression in_parentheses room a → IsBlock room b → IfSome c (IsBlock room)
    → IsStatement room (statement_at n (s.If a b c))
choice_fits n a b None e h f = statement_fits (pos_at n) (layer.If a b None) (s.rolls-If a b None)
    (both (both e.passes h.passes) refl) (max-le e.within (max-le h.within (omega arith)))
choice_fits n a b (Some c) e h f = statement_fits (pos_at n) (layer.If a b (Some c)) (s.rolls-If a b (Some c))
    (both (both e.passes h.passes) f.passes) (max-le e.within (max-le h.within f.within))

fork_fits : {room : ℕ} (n : ℕ) (bs : List (BlockNode Name)) → is_filled bs ≡ true
    → AllByRecursion (IsBlock room) bs → IsStatement room (statement_at n (s.Fork bs))
fork_fits n [] e h = absurd (let no : ⊥ = cc in no)
fork_fits {room} n (b ∷ bs) e h =
    let all = all_parts fits_block nesting_of_block room (b ∷ bs) h in
    statement_fits (pos_at n) (layer.Fork (b ∷ bs)) (s.rolls-Fork (b ∷ bs)) all.0 all.1

module _ (room : ℕ) (block : Lang (BlockNode Name)) (block_fits : Keeps (IsBlock room) block) where
  simple : (word : Keyword) (what : Statement Name) → ((n : ℕ) → IsStatement room (statement_at n what))
      → Keeps (IsStatement room) (g.simple word what)
  simple word what h = keeps_after (λ n. keeps_after (λ q. keeps_pure (h n)))

  nothing : Keeps (IsStatement room) (g.simple w.Nothing s.Nothing)
  nothing = simple w.Nothing s.Nothing (λ n. statement_fits (pos_at n) layer.Nothing s.rolls-Nothing refl
      (omega arith))

  pause : Keeps (IsStatement room) (g.simple w.Pause s.Pause)
  pause = simple w.Pause s.Pause (λ n. statement_fits (pos_at n) layer.Pause s.rolls-Pause refl (omega arith))

  halt : Keeps (IsStatement room) (g.simple w.Halt s.Halt)
  halt = simple w.Halt s.Halt (λ n. statement_fits (pos_at n) layer.Halt s.rolls-Halt refl (omega arith))

  record IsEmission (e : NameAt Name × Option (ExprAt Name)) : Type 0 where
    signal : fits_name e.0 ≡ true
    value : Fits (if_there fits_expression) nesting_of_value room e.1

  emission : Keeps IsEmission (g.emission room)
  emission = keeps_then named (λ n h. keeps_then (value room)
      (λ v e. keeps_after (λ q. keeps_pure (record { signal = h; value = e }))))

  emit : Keeps (IsStatement room) (g.emit room)
  emit = keeps_after (λ n. keeps_then emission (λ e h. keeps_pure
      (statement_fits (pos_at n) (layer.Emit e.0 e.1) (s.rolls-Emit e.0 e.1)
      (both h.signal h.value.passes) h.value.within)))

  sustain : Keeps (IsStatement room) (g.sustain room)
  sustain = keeps_after
      (λ n. keeps_then emission
      (λ e h. keeps_pure (statement_fits (pos_at n) (layer.Sustain e.0 e.1) (s.rolls-Sustain e.0 e.1)
      (both h.signal h.value.passes) h.value.within)))

  choice : Keeps (IsStatement room) (g.if_else block room)
  choice =
      keeps_after (λ n. keeps_then (tested room) (λ a e. keeps_then block_fits
      (λ b h. keeps_then (keeps_if_some (keeps_after (λ q. block_fits)))
      (λ c f. keeps_pure (choice_fits n a b c e h f)))))

  loop : Keeps (IsStatement room) (g.loop block)
  loop = keeps_after (λ n. keeps_then block_fits (λ b h. keeps_pure
      (statement_fits (pos_at n) (layer.Loop b) (s.rolls-Loop b) h.passes h.within)))

  branches_of : Keeps (λ bs. (is_filled bs ≡ true) × AllByRecursion (IsBlock room) bs) (g.par_blocks block)
  branches_of = keeps_then block_fits (λ b h. keeps_then (keeps_many (keeps_after (λ q. block_fits)))
      (λ bs hs. keeps_pure (refl, (h, hs))))

  fork : Keeps (IsStatement room) (g.fork block)
  fork = keeps_after (λ n. keeps_then branches_of (λ bs h. keeps_pure (fork_fits n bs h.0 h.1)))

  nested_block : Keeps (IsStatement room) (g.nested_block block)
  nested_block = keeps_then block_fits
      (λ b h. keeps_pure (statement_fits (out-BlockNode Name b).pos (layer.Block b)
      (s.rolls-Block b) h.passes h.within))

  await : Keeps (IsStatement room) (g.await room)
  await = keeps_after (λ n. keeps_then (any_delay room) (λ d e. keeps_after
      (λ q. keeps_pure (statement_fits (pos_at n) (layer.Await d) (s.rolls-Await d) e.passes e.within))))

  every : Keeps (IsStatement room) (g.every block room)
  every =
      keeps_after (λ n. keeps_then (any_delay room) (λ d e. keeps_then block_fits
      (λ b h. keeps_pure (statement_fits (pos_at n) (layer.Every d b) (s.rolls-Every d b)
      (both e.passes h.passes) (max-le e.within h.within)))))

  do_every : Keeps (IsStatement room) (g.do_every block room)
  do_every =
      keeps_after (λ n. keeps_then block_fits (λ b h. keeps_after
      (λ q. keeps_then (plain_delay room) (λ d e. keeps_after
      (λ z. keeps_pure (statement_fits (pos_at n) (layer.DoEvery b d) (s.rolls-DoEvery b d)
      (both h.passes e.passes) (max-le h.within e.within)))))))

  abort : Keeps (IsStatement room) (g.abort block room)
  abort =
      keeps_after (λ n. keeps_then (any_delay room) (λ d e. keeps_then block_fits
      (λ b h. keeps_pure (statement_fits (pos_at n) (layer.Abort d b) (s.rolls-Abort d b)
      (both e.passes h.passes) (max-le e.within h.within)))))

  weak_abort : Keeps (IsStatement room) (g.weak_abort block room)
  weak_abort =
      keeps_after (λ n. keeps_then (any_delay room) (λ d e. keeps_then block_fits
      (λ b h. keeps_pure (statement_fits (pos_at n) (layer.WeakAbort d b) (s.rolls-WeakAbort d b)
      (both e.passes h.passes) (max-le e.within h.within)))))

  has_immediate : Keeps (λ (i : Bool). Unit {0}) g.has_immediate
  has_immediate = record { of = λ a text ks lawful few h. tt }

  suspend : Keeps (IsStatement room) (g.suspend block room)
  suspend =
      keeps_after (λ n. keeps_then has_immediate (λ i (u : Unit {0}). keeps_then (tested room)
      (λ a e. keeps_then block_fits
      (λ b h. keeps_pure (statement_fits (pos_at n) (layer.Suspend i a b) (s.rolls-Suspend i a b)
      (both e.passes h.passes) (max-le e.within h.within))))))

  local : Keeps (IsStatement room) (g.local block)
  local =
      keeps_after (λ n. keeps_then (keeps_listed signal) (λ ss e. keeps_then block_fits
      (λ b h. keeps_pure (statement_fits (pos_at n) (layer.Signal ss b) (s.rolls-Signal ss b)
      (both (both e.0 (all_pass fits_signal ss e.1)) h.passes) h.within))))

  trap : Keeps (IsStatement room) (g.trap block)
  trap = keeps_after (λ n. keeps_then name (λ m e. keeps_then block_fits
      (λ b h. keeps_pure (statement_fits (pos_at n) (layer.Trap m.1 b) (s.rolls-Trap m.1 b)
      (both e h.passes) h.within))))

  break_out : Keeps (IsStatement room) g.break_out
  break_out = keeps_after
      (λ n. keeps_then named
      (λ m e. keeps_after (λ q. keeps_pure (statement_fits (pos_at n) (layer.Break m) (s.rolls-Break m) e
      (omega arith)))))

  run : Keeps (IsStatement room) (g.run room)
  run =
      keeps_after (λ n. keeps_then named (λ m e. keeps_then (keeps_round bindings room)
      (λ bs h. keeps_after (λ q. keeps_pure (statement_fits (pos_at n) (layer.Run m bs) (s.rolls-Run m bs)
      (both e h.passes) h.within)))))
    where
      bindings : (left : ℕ) → Keeps (Fits (list_all fits_binding) (λ bs. 0) left) (g.bindings left)
      bindings left = keeps_more (λ bs h. record {
        passes = all_pass fits_binding bs h;
        within = omega arith;
      }) (keeps_listed_or_none binding)

  result : (left : ℕ) → Keeps (Fits fits_name (λ m. 0) left) (g.result left)
  result left = keeps_more (λ m h. record { passes = h; within = omega arith }) named

  arguments : (left : ℕ) → Keeps (Fits (list_all fits_expression) (λ xs. largest (map nesting_at xs)) left)
      (eg.arguments left)
  arguments left = keeps_more (λ xs h. all_fit fits_expression nesting_at left xs h)
      (keeps_listed_or_none (outermost left))

  async : Keeps (IsStatement room) (g.async room)
  async =
      keeps_after (λ n. keeps_then (keeps_optional (keeps_more (λ m h. h.passes) (keeps_round result room)))
      (λ r hr. keeps_after (λ q. keeps_then named
      (λ f hf. keeps_then (keeps_round arguments room)
      (λ xs hx. keeps_then (keeps_optional (handler w.Kill))
      (λ k hk. keeps_then (keeps_optional (handler w.Suspend))
      (λ u hu. keeps_then (keeps_optional (handler w.Resume))
      (λ e he. keeps_after
      (λ z. keeps_pure
      (let a : AsyncNode Name = record { signal = r; body = f; args = xs; kill = k; suspend = u; resume = e }
      in
      statement_fits (pos_at n) (layer.Async a) (s.rolls-Async a)
      (both (both (both (both (both hr hf) hx.passes) hk) hu) he) hx.within))))))))))

  statement : Keeps (IsStatement room) (g.statement block room)
  statement =
      keeps_or nothing (keeps_or pause
      (keeps_or halt (keeps_or emit
      (keeps_or sustain (keeps_or choice (keeps_or loop (keeps_or fork (keeps_or await (keeps_or every (
      keeps_or do_every (keeps_or abort (keeps_or weak_abort
      (keeps_or suspend (keeps_or local
      (keeps_or trap (keeps_or break_out (keeps_or run (keeps_or async nested_block))))))))))))))))))

block_fits : {room : ℕ} (n : ℕ) (xs : List (StatementNode Name)) → AllByRecursion (IsStatement room) xs
    → IsBlock (suc room) (block_at n xs)
block_fits {room} n xs h =
    let all = all_parts fits_statement nesting_of_statement room xs h in
    record {
      passes = block_layer tests.statement_step tests.block_step n xs ∙ all.0;
      within = subst (λ k. k ≤ suc room) (sym (block_layer nests.statement_step nests.block_step n xs))
          (omega (arith, all.1));
    }

pub block : (room : ℕ) → Keeps (IsBlock room) (g.block room)
block zero = record { of = λ a text ks lawful few h. absurd h }
block (suc room) = keeps_after (λ place. keeps_then (keeps_many (statement room (g.block room) (block room)))
    (λ xs h. keeps_after (λ n. keeps_pure (block_fits place xs h))))

-- Each rule of statements is read as its language, by how blocks are.
use Rattle.std.proofs.Common.{◌≡◌, ◌<◌, ℕ, zero, suc, Bool, true, false, [], ◌∷◌, Option, Some, refl, sym}
use Rattle.std.proofs.Common.{subst, arith}
use Rattle.std.specs.Prelude.{◌||◌}
use Rattle.hh_base.specs.declared.keyword.Keyword.{Keyword}
use Rattle.hh_base.specs.declared.keyword.Keyword.TheVariants as w
use Rattle.module_token.specs.declared.punct.Punct.TheVariants as k
use Rattle.module_tree.specs.declared.source.BlockNode.{BlockNode}
use Rattle.module_tree.specs.declared.source.StatementNode.{StatementNode}
use Rattle.module_tree.specs.declared.source.Statement.{Statement}
use Rattle.module_tree.specs.declared.source.Statement.TheVariants as s
use Rattle.grammar.specs.Tokens.{never}
use Rattle.grammar.specs.Language as l
use Rattle.grammar.specs.Parser.{Unread, ◌>>=◌, pure, many, kind, if_next, sees, too_deep}
use Rattle.grammar.proofs.Bundle.{Level, Sample}
use Rattle.grammar.proofs.Levels.{outer_level}
use Rattle.grammar.proofs.Sequences.{good_seq, good_then, good_pure, sample_seq, sample_none, sample_pure}
use Rattle.grammar.proofs.Sequences.{sample_token, sample_right}
use Rattle.grammar.proofs.OneToken.{good_open, good_close}
use Rattle.grammar.proofs.Choices.{good_or, good_list, good_by, splits}
use Rattle.grammar.proofs.Combined.{good_made, good_several}
use Rattle.grammar.proofs.Nesting.{deeper, good_nothing, good_closed, taken_first}
use Rattle.expression_reader.specs.declared.terminal.Terminal.{Terminal}
use Rattle.expression_reader.specs.declared.terminal.Terminal.TheVariants as t
use Rattle.expression_reader.specs.Terminals.{symbols, is_name, is_keyword, is_punct, is_in_curly}
use Rattle.expression_reader.specs.Trees.{Name}
use Rattle.module_reader.specs.Trees.{statement_at, block_at, nested}
use Rattle.expression_reader.specs.Rules as eg
use Rattle.module_reader.specs.Rules as g
use Rattle.expression_reader.specs.Rules.{Lang}
use Rattle.expression_reader.specs.Reference as ep
use Rattle.module_reader.specs.Reference as p
use Rattle.expression_reader.specs.Reference.{Parser}
use Rattle.expression_reader.proofs.TokenRules.{Rule, Out, good_keyword, good_punct, good_name, good_named}
use Rattle.expression_reader.proofs.TokenRules.{good_quoted}
use Rattle.expression_reader.proofs.PartRules.{good_optional, good_listed, good_listed_or_none, good_in_round}
use Rattle.expression_reader.proofs.ExpressionRules.{good_outermost, good_test}
use Rattle.module_reader.proofs.DeclarationRules.{behind_signal, good_signal}
use Rattle.module_reader.proofs.DelayRules.{good_later, good_delay}

-- ---- parts of statements

module _ {v : Level} {x n : ℕ} where
  good_simple : (word : Keyword) (what : Statement Name) → Rule v x n (p.simple word what)
      (g.simple word what) false (is_keyword word) never
  unfolding p.simple
  good_simple word what = good_then (good_keyword word) (λ m. good_then (good_punct k.Semicolon refl)
      (λ c. good_pure (statement_at m what) never) refl) refl

  good_break_out : Rule v x n p.break_out g.break_out false (is_keyword w.Break) never
  unfolding p.break_out
  good_break_out = good_then (good_keyword w.Break) (λ m. good_then good_named
      (λ a. good_then (good_punct k.Semicolon refl) (λ c. good_pure (statement_at m (s.Break a)) never) refl)
      refl) refl

  good_has_immediate : Rule v x n p.has_immediate g.has_immediate true
      (λ a. is_keyword w.Immediate a || never a) (is_keyword w.Immediate)
  unfolding p.has_immediate
  good_has_immediate = good_or (is_keyword w.Immediate) (is_keyword w.Immediate)
      (good_made (λ m. true) (good_keyword w.Immediate)) (good_pure false (is_keyword w.Immediate)) refl

  pub good_binding : Rule v x n p.binding g.binding false is_name never
  unfolding p.binding
  good_binding = good_then good_named (λ a. good_then (good_punct k.Equal refl)
      (λ c. good_then good_named (λ b. good_pure (record { left = a; right = b }) never) refl) refl) refl

  good_handled : (word : Keyword) → splits symbols (is_keyword word) true (is_keyword word) never never
      (is_keyword word) (is_keyword word) ≡ true → Rule v x n (p.handled word)
      (eg.optional (g.handler word)) true (λ a. is_keyword word a || never a) (is_keyword word)
  unfolding p.handled
  good_handled word e = good_optional (is_keyword word) (is_keyword word)
      (good_then (good_keyword word) (λ m. good_made (λ q. q.1) good_quoted) refl) e

sample_named : Sample eg.named
sample_named = (good_named {v = outer_level symbols} {x = 1} {n = 0}).sample (omega arith)

module _ (n x : ℕ) where
  good_emitted : Out x n (p.emitted n) (eg.optional (eg.test (deeper n x))) true
      (λ a. is_punct k.LeftParen a || never a) (is_punct k.LeftParen)
  unfolding p.emitted
  good_emitted = good_optional (is_punct k.LeftParen) (is_punct k.LeftParen) (good_test n x) refl

  good_emission : Out x n (p.emission n) (g.emission (deeper n x)) false is_name never
  unfolding p.emission
  good_emission = good_then good_named (λ m. good_seq good_emitted
      (λ y. good_then (good_punct k.Semicolon refl) (λ c. good_pure (m, y) never) refl) refl) refl

  good_emit : Out x n (p.emit n) (g.emit (deeper n x)) false (is_keyword w.Emit) never
  unfolding p.emit
  good_emit = good_then (good_keyword w.Emit) (λ m. good_made
      (λ e. statement_at m (s.Emit e.0 e.1)) good_emission) refl

  good_sustain : Out x n (p.sustain n) (g.sustain (deeper n x)) false (is_keyword w.Sustain) never
  unfolding p.sustain
  good_sustain = good_then (good_keyword w.Sustain) (λ m. good_made
      (λ e. statement_at m (s.Sustain e.0 e.1)) good_emission) refl

  good_await : Out x n (p.await_delay n) (g.await (deeper n x)) false (is_keyword w.Await) never
  unfolding p.await_delay
  good_await = good_then (good_keyword w.Await) (λ m. good_then (good_delay n x)
      (λ d. good_then (good_punct k.Semicolon refl) (λ c. good_pure (statement_at m (s.Await d)) never) refl)
      refl) refl

  good_run : Out x n (p.run n) (g.run (deeper n x)) false (is_keyword w.Run) never
  unfolding p.run
  good_run = good_then (good_keyword w.Run) (λ m. good_then good_named
      (λ a. good_then (good_in_round n x (λ left. sample_right (eg.listed g.binding) (l.pure [])
      (sample_pure [])) (λ left. good_listed_or_none good_binding refl refl refl) refl)
      (λ bs. good_then (good_punct k.Semicolon refl) (λ c. good_pure (statement_at m (s.Run a bs)) never)
      refl) refl) refl) refl

  good_async_signal : Out x n (p.async_signal n) (eg.optional (eg.in_round g.result (deeper n x))) true
      (λ a. is_punct k.LeftParen a || never a) (is_punct k.LeftParen)
  unfolding p.async_signal
  good_async_signal = good_optional (is_punct k.LeftParen) (is_punct k.LeftParen)
      (good_in_round n x (λ left. sample_named) (λ left. good_named) refl) refl

  good_async_arguments : Out x n (ep.in_round ep.arguments n) (eg.in_round eg.arguments (deeper n x)) false
      (is_punct k.LeftParen) never
  good_async_arguments = good_in_round n x (λ left. sample_right (eg.listed (eg.outermost left)) (l.pure [])
      (sample_pure [])) (λ left. good_listed_or_none (good_outermost left x) refl refl refl) refl

  good_async : Out x n (p.async_call n) (g.async (deeper n x)) false (is_keyword w.Async) never
  unfolding p.async_call
  good_async = good_then (good_keyword w.Async) (λ m. good_seq good_async_signal
      (λ r. good_then (good_keyword w.Call) (λ c. good_then good_named
      (λ f. good_then good_async_arguments (λ xs. good_seq (good_handled w.Kill refl)
      (λ y. good_seq (good_handled w.Suspend refl) (λ u. good_seq (good_handled w.Resume refl)
      (λ e. good_then (good_punct k.Semicolon refl)
      (λ c. good_pure (statement_at m
      (s.Async (record { signal = r; body = f; args = xs; kill = y; suspend = u; resume = e }))) never)
      refl) refl) refl) refl) refl) refl) refl) refl) refl

-- ---- statements, by their blocks

abbrev pub Blocks : (x n : ℕ) → Parser (BlockNode Name) → Lang (BlockNode Name) → Type 0
Blocks x n bp bl = Out x n bp bl false (is_punct k.LeftBrace) never

-- another part of the statement may not stand behind it
abbrev behind_statement : Terminal → Bool
behind_statement a = is_keyword w.Else a || is_keyword w.Par a

module _ {x n : ℕ} {bp : Parser (BlockNode Name)} {bl : Lang (BlockNode Name)} (h : Blocks x n bp bl) where
  good_loop : Out x n (p.loop_block bp) (g.loop bl) false (is_keyword w.Loop) never
  unfolding p.loop_block
  good_loop = good_then (good_keyword w.Loop) (λ m. good_made (λ b. statement_at m (s.Loop b)) h) refl

  pub good_behind_par : Out x n (p.behind_par bp) (g.behind_par bl) false (is_keyword w.Par) never
  unfolding p.behind_par
  good_behind_par = good_then (good_keyword w.Par) (λ m. h) refl

  good_par_blocks : Out x n (p.par_blocks bp) (g.par_blocks bl) false (is_punct k.LeftBrace)
      (is_keyword w.Par)
  unfolding p.par_blocks
  good_par_blocks = good_several (λ b bs. b ∷ bs) (is_keyword w.Par)
      (is_keyword w.Par) h good_behind_par refl refl

  good_fork : Out x n (p.fork bp) (g.fork bl) false (is_keyword w.Fork) (is_keyword w.Par)
  unfolding p.fork
  good_fork = good_then (good_keyword w.Fork) (λ m. good_made
      (λ bs. statement_at m (s.Fork bs)) good_par_blocks) refl

  good_nested_block : Out x n (p.nested_block bp) (g.nested_block bl) false (is_punct k.LeftBrace) never
  unfolding p.nested_block
  good_nested_block = good_made nested h

  good_local : Out x n (p.local bp) (g.local bl) false (is_keyword w.Signal) never
  unfolding p.local
  good_local = good_then (good_keyword w.Signal) (λ m. good_then
      (good_listed (λ a. is_punct k.Comma a || behind_signal a) good_signal refl refl)
      (λ ss. good_made (λ b. statement_at m (s.Signal ss b)) h) refl) refl

  good_trap : Out x n (p.trap bp) (g.trap bl) false (is_keyword w.Trap) never
  unfolding p.trap
  good_trap = good_then (good_keyword w.Trap) (λ m. good_then good_name
      (λ a. good_made (λ b. statement_at m (s.Trap a.1 b)) h) refl) refl

  good_otherwise : Out x n (p.otherwise bp) (eg.optional (g.behind_else bl)) true
      (λ a. is_keyword w.Else a || never a) (is_keyword w.Else)
  unfolding p.otherwise
  good_otherwise = good_optional (is_keyword w.Else) (is_keyword w.Else)
      (good_then (good_keyword w.Else) (λ m. h) refl) refl

module _ (n x : ℕ) {bp : Parser (BlockNode Name)} {bl : Lang (BlockNode Name)} (h : Blocks x n bp bl) where
  good_if_else : Out x n (p.if_else bp n) (g.if_else bl (deeper n x)) false (is_keyword w.If)
      (is_keyword w.Else)
  unfolding p.if_else
  good_if_else = good_then (good_keyword w.If) (λ m. good_then (good_test n x)
      (λ a. good_then h (λ b. good_seq (good_otherwise h) (λ c. good_pure (statement_at m (s.If a b c))
      (is_keyword w.Else)) refl) refl) refl) refl

  good_every : Out x n (p.every bp n) (g.every bl (deeper n x)) false (is_keyword w.Every) never
  unfolding p.every
  good_every = good_then (good_keyword w.Every) (λ m. good_then (good_delay n x)
      (λ d. good_made (λ b. statement_at m (s.Every d b)) h) refl) refl

  good_do_every : Out x n (p.do_every bp n) (g.do_every bl (deeper n x)) false (is_keyword w.Do) never
  unfolding p.do_every
  good_do_every = good_then (good_keyword w.Do) (λ m. good_then h
      (λ b. good_then (good_keyword w.Every) (λ e. good_then (good_later n x)
      (λ d. good_then (good_punct k.Semicolon refl)
      (λ c. good_pure (statement_at m (s.DoEvery b d)) never) refl) refl) refl) refl) refl

  good_abort : Out x n (p.abort bp n) (g.abort bl (deeper n x)) false (is_keyword w.Abort) never
  unfolding p.abort
  good_abort = good_then (good_keyword w.Abort) (λ m. good_then (good_delay n x)
      (λ d. good_made (λ b. statement_at m (s.Abort d b)) h) refl) refl

  good_weak_abort : Out x n (p.weak_abort bp n) (g.weak_abort bl (deeper n x)) false
      (is_keyword w.WeakAbort) never
  unfolding p.weak_abort
  good_weak_abort = good_then (good_keyword w.WeakAbort) (λ m. good_then (good_delay n x)
      (λ d. good_made (λ b. statement_at m (s.WeakAbort d b)) h) refl) refl

  good_suspend : Out x n (p.suspend bp n) (g.suspend bl (deeper n x)) false (is_keyword w.Suspend) never
  unfolding p.suspend
  good_suspend = good_then (good_keyword w.Suspend) (λ m. good_seq good_has_immediate
      (λ i. good_then (good_test n x) (λ a. good_made (λ b. statement_at m (s.Suspend i a b)) h) refl) refl)
      refl

-- the choice of a statement by its first word, one after the other
abbrev by_word : Parser (BlockNode Name) → ℕ → Parser (StatementNode Name)
by_word block room =
    if_next (is_keyword w.Nothing) (p.simple w.Nothing s.Nothing) (
    if_next (is_keyword w.Pause) (p.simple w.Pause s.Pause) (
    if_next (is_keyword w.Halt) (p.simple w.Halt s.Halt) (
    if_next (is_keyword w.Emit) (p.emit room) (
    if_next (is_keyword w.Sustain) (p.sustain room) (
    if_next (is_keyword w.If) (p.if_else block room) (
    if_next (is_keyword w.Loop) (p.loop_block block) (
    if_next (is_keyword w.Fork) (p.fork block) (
    if_next (is_keyword w.Await) (p.await_delay room) (
    if_next (is_keyword w.Every) (p.every block room) (
    if_next (is_keyword w.Do) (p.do_every block room) (
    if_next (is_keyword w.Abort) (p.abort block room) (
    if_next (is_keyword w.WeakAbort) (p.weak_abort block room) (
    if_next (is_keyword w.Suspend) (p.suspend block room) (
    if_next (is_keyword w.Signal) (p.local block) (
    if_next (is_keyword w.Trap) (p.trap block) (
    if_next (is_keyword w.Break) p.break_out (
    if_next (is_keyword w.Run) (p.run room) (
    if_next (is_keyword w.Async) (p.async_call room) (
    p.nested_block block)))))))))))))))))))

statement_as : (block : Parser (BlockNode Name)) (room : ℕ) (i : Unread Terminal) (a : Option Terminal)
    → kind i ≡ a → p.statement block room i ≡ by_word block room i
unfolding p.statement sees
statement_as block room i (Some (t.Keyword w.Nothing)) e = rw e refl
statement_as block room i (Some (t.Keyword w.Pause)) e = rw e refl
statement_as block room i (Some (t.Keyword w.Halt)) e = rw e refl
statement_as block room i (Some (t.Keyword w.Emit)) e = rw e refl
statement_as block room i (Some (t.Keyword w.Sustain)) e = rw e refl
statement_as block room i (Some (t.Keyword w.If)) e = rw e refl
statement_as block room i (Some (t.Keyword w.Loop)) e = rw e refl
statement_as block room i (Some (t.Keyword w.Fork)) e = rw e refl
statement_as block room i (Some (t.Keyword w.Await)) e = rw e refl
statement_as block room i (Some (t.Keyword w.Every)) e = rw e refl
statement_as block room i (Some (t.Keyword w.Do)) e = rw e refl
statement_as block room i (Some (t.Keyword w.Abort)) e = rw e refl
statement_as block room i (Some (t.Keyword w.WeakAbort)) e = rw e refl
statement_as block room i (Some (t.Keyword w.Suspend)) e = rw e refl
statement_as block room i (Some (t.Keyword w.Signal)) e = rw e refl
statement_as block room i (Some (t.Keyword w.Trap)) e = rw e refl
statement_as block room i (Some (t.Keyword w.Break)) e = rw e refl
statement_as block room i (Some (t.Keyword w.Run)) e = rw e refl
statement_as block room i (Some (t.Keyword w.Async)) e = rw e refl
statement_as block room i (Some (t.Keyword _)) e = rw e refl
statement_as block room i (Some (t.Punct k.LeftBrace)) e = rw e refl
statement_as block room i (Some (t.Punct _)) e = rw e refl
statement_as block room i _ e = rw e refl

abbrev pub begins_statement : Terminal → Bool
begins_statement a =
    is_keyword w.Nothing a
    || (is_keyword w.Pause a
    || (is_keyword w.Halt a || (is_keyword w.Emit a || (is_keyword w.Sustain a || (
    is_keyword w.If a || (is_keyword w.Loop a || (is_keyword w.Fork a
    || (is_keyword w.Await a || (is_keyword w.Every a || (
    is_keyword w.Do a || (is_keyword w.Abort a || (is_keyword w.WeakAbort a
    || (is_keyword w.Suspend a || (is_keyword w.Signal a || (
    is_keyword w.Trap a || (is_keyword w.Break a || (is_keyword w.Run a
    || (is_keyword w.Async a || (is_punct k.LeftBrace a)))))))))))))))))))

pub good_statement : (n x : ℕ) {bp : Parser (BlockNode Name)} {bl : Lang (BlockNode Name)} → Blocks x n bp bl
    → Out x n (p.statement bp n) (g.statement bl (deeper n x)) false begins_statement behind_statement
good_statement n x {bp} {bl} h = good_by (by_word bp n) (p.statement bp n) (g.statement bl (deeper n x))
    (λ i. statement_as bp n i (kind i) refl)
    (good_or (is_keyword w.Nothing) behind_statement (good_simple w.Nothing s.Nothing)
    (good_or (is_keyword w.Pause) behind_statement (good_simple w.Pause s.Pause)
    (good_or (is_keyword w.Halt) behind_statement (good_simple w.Halt s.Halt)
    (good_or (is_keyword w.Emit) behind_statement (good_emit n x)
    (good_or (is_keyword w.Sustain) behind_statement (good_sustain n x)
    (good_or (is_keyword w.If) behind_statement (good_if_else n x h)
    (good_or (is_keyword w.Loop) behind_statement (good_loop h)
    (good_or (is_keyword w.Fork) behind_statement (good_fork h)
    (good_or (is_keyword w.Await) behind_statement (good_await n x)
    (good_or (is_keyword w.Every) behind_statement (good_every n x h)
    (good_or (is_keyword w.Do) behind_statement (good_do_every n x h)
    (good_or (is_keyword w.Abort) behind_statement (good_abort n x h)
    (good_or (is_keyword w.WeakAbort) behind_statement (good_weak_abort n x h)
    (good_or (is_keyword w.Suspend) behind_statement (good_suspend n x h)
    (good_or (is_keyword w.Signal) behind_statement (good_local h)
    (good_or (is_keyword w.Trap) behind_statement (good_trap h)
    (good_or (is_keyword w.Break) behind_statement good_break_out
    (good_or (is_keyword w.Run) behind_statement (good_run n x)
    (good_or (is_keyword w.Async) behind_statement (good_async n x)
    (good_nested_block h) refl) refl) refl) refl) refl) refl) refl) refl) refl) refl) refl) refl) refl) refl)
    refl) refl) refl) refl) refl)

-- ---- blocks

-- statements, and the bracket that closes
abbrev closed_behind : Parser (StatementNode Name) → ℕ → Parser (BlockNode Name)
closed_behind inner place = ◌>>=◌ (many is_in_curly inner) (λ xs. ◌>>=◌ (ep.punct k.RightBrace)
    (λ w. pure (block_at place xs)))

pub good_block : (n x : ℕ) → Blocks x n (p.block n) (g.block (deeper n x))
unfolding p.block p.block_with
good_block zero zero = good_nothing (p.block 0) (λ i. (too_deep symbols (t.Punct k.LeftBrace) i, refl))
good_block zero (suc x) = good_closed {al = symbols} (t.Punct k.LeftBrace)
    (λ place. l.◌>>=◌ (l.many (g.statement (g.block x) x)) (λ xs. l.◌>>=◌ (eg.punct k.RightBrace)
    (λ w. l.pure (block_at place xs)))) refl (let lt : 0 < suc x = omega arith in lt)
    (λ place. sample_seq (l.many (g.statement (g.block x) x)) (sample_none (g.statement (g.block x) x))
    (λ xs. sample_seq (eg.punct k.RightBrace) (sample_token (t.Punct k.RightBrace))
    (λ w. sample_pure (block_at place xs))))
good_block (suc n) x =
    subst (λ q. Blocks x (suc n) q (g.block (deeper (suc n) x)))
    (sym (taken_first symbols (t.Punct k.LeftBrace) n (λ left place. closed_behind
    (p.statement (p.block n) n) place)))
    (good_then (good_open (t.Punct k.LeftBrace) refl) (λ place. good_seq
    (good_list is_in_curly is_in_curly (good_statement n x (good_block n x)) refl)
    (λ xs. good_then (good_close (t.Punct k.RightBrace) refl) (λ w. good_pure (block_at place xs) never) refl)
    refl) refl)

-- The words of each statement are a text of its rule, given those of its blocks.
use Rattle.std.proofs.Common.{◌≡◌, ℕ, suc, ◌≤◌, max, true, List, [], ◌∷◌, ◌++◌, map, codes, Option, Some, None, refl, sym, ap, ◌∙◌, append_assoc, le_trans, arith}
use Rattle.std.specs.Prelude.{◌&&◌, option_map}
use Rattle.std.specs.List.{list_all}
use Rattle.std.proofs.Math.Nat.{le-max_left, le-max_right}
use Rattle.hh_base.specs.declared.value.Pos.{Pos}
use Rattle.module_tree.specs.declared.source.NameAt.{NameAt}
use Rattle.module_tree.specs.declared.source.ExprAt.{ExprAt}
use Rattle.module_tree.specs.declared.source.Binding.{Binding}
use Rattle.module_tree.specs.declared.source.AsyncNode.{AsyncNode}
use Rattle.module_tree.specs.declared.source.BlockNode.{BlockNode}
use Rattle.module_tree.specs.declared.source.StatementNode.{StatementNode, roll-StatementNode}
use Rattle.module_tree.specs.declared.source.Statement.{Statement, roll-Statement}
use Rattle.module_tree.specs.declared.source.Statement.TheVariants as s
use Rattle.module_tree.specs.declared.source.Statement.TheOpen as layer
use Rattle.module_tree.specs.declared.source.Statement.TheFolds.{fold-Statement, fold-StatementNode, fold-roll-StatementNode, fold-roll-Statement, map-Statement}
use Rattle.module_tree.specs.declared.source.Delay.{Delay}
use Rattle.module_tree.specs.SourceWords.{is_written_text}
use Rattle.module_tree.specs.SourceForms as tests
use Rattle.module_tree.specs.SourceForms.{fits_name, fits_expression, fits_binding, fits_delay, fits_async}
use Rattle.module_tree.specs.SourceExpressions.{nesting_of}
use Rattle.module_tree.specs.SourceNesting.{largest, nesting_of_value, nesting_of_delay}
use Rattle.grammar.proofs.KindSets.{both as parts}
use Rattle.hh_base.specs.declared.keyword.Keyword.{Keyword}
use Rattle.hh_base.specs.declared.keyword.Keyword.TheVariants as w
use Rattle.module_token.specs.declared.punct.Punct.TheVariants as punct
use Rattle.hh_base.specs.Keyword.{keyword_text}
use Rattle.expression_reader.specs.Trees.{Name, pos_at}
use Rattle.module_reader.specs.Trees.{statement_at}
use Rattle.module_printer.specs.ExpressionTokens.{Lexemes}
use Rattle.module_printer.specs.SourceTokens.{if_there, tokens_of_outermost, tokens_of_test, tokens_of_delay, tokens_of_binding, tokens_of_answer, tokens_of_handler, tokens_of_call, tokens_of_async, tokens_of_emission, tokens_of_run}
use Rattle.expression_reader.specs.Rules as eg
use Rattle.module_reader.specs.Rules as g
use Rattle.round_trip.specs.Places.{placeless_name, placeless_outermost, placeless_binding, placeless_block, statement_step, block_step, node_step}
use Rattle.round_trip.proofs.lifting.Lifting.{Lifts, Same, lifts_then, lifts_made, lifts_left, lifts_right, lifts_pure, lifts_words}
use Rattle.round_trip.proofs.lifting.OneToken.{lifts_punct, lifts_keyword}
use Rattle.round_trip.proofs.lifting.Delays.{lifts_round, outermost_lifts, value_lifts, delay_lifts}
use Rattle.round_trip.proofs.lifting.Declarations.{Each, lifts_listed_or_none, each_of, named_lifts, binding_lifts, handler_lifts}

-- ---- the same but for places, layer by layer

abbrev pub Layer : Type 0
Layer = layer.Statement-F Name (Statement Name) (BlockNode Name) (StatementNode Name)

abbrev pub placeless_node : StatementNode Name → StatementNode Name
placeless_node = fold-StatementNode Name (Statement Name) (BlockNode Name)
    (StatementNode Name) statement_step block_step node_step

abbrev placeless_statement : Statement Name → Statement Name
placeless_statement = fold-Statement Name (Statement Name) (BlockNode Name)
    (StatementNode Name) statement_step block_step node_step

abbrev placeless_layer : Layer → Layer
placeless_layer = map-Statement Name (Statement Name) (BlockNode Name) (StatementNode Name) (Statement Name)
    (BlockNode Name) (StatementNode Name) placeless_statement placeless_block placeless_node

-- a statement of these parts
abbrev pub whole : Pos → Layer → StatementNode Name
whole p parts = roll-StatementNode Name (record { pos = p; what = roll-Statement Name parts })

without_place : (p : Pos) (parts : Layer) {x : Statement Name} → roll-Statement Name parts ≡ x
    → placeless_node (roll-StatementNode Name (record { pos = p; what = x }))
    ≡ statement_at 0 (statement_step (placeless_layer parts))
without_place p parts {x} rolls =
    fold-roll-StatementNode Name (Statement Name) (BlockNode Name)
    (StatementNode Name) statement_step block_step node_step (record { pos = p; what = x })
    ∙ ap (λ z. statement_at 0 (placeless_statement z)) (sym rolls)
    ∙ ap (λ z. statement_at 0 z) (fold-roll-Statement Name (Statement Name) (BlockNode Name)
    (StatementNode Name) statement_step block_step node_step parts)

pub same_statement : (n p : Pos) (parts others : Layer) {x : Statement Name} → roll-Statement Name parts ≡ x
    → statement_step (placeless_layer parts) ≡ statement_step (placeless_layer others)
    → Same placeless_node (whole p others) (roll-StatementNode Name (record { pos = n; what = x }))
same_statement n p parts others rolls same = without_place n parts rolls ∙ ap (λ z. statement_at 0 z) same
    ∙ sym (without_place p others refl)

-- within the greater of two, within each
pub first_of : (a b : ℕ) {n : ℕ} → max a b ≤ n → a ≤ n
first_of a b le = le_trans (le-max_left a b) le

pub second_of : (a b : ℕ) {n : ℕ} → max a b ≤ n → b ≤ n
second_of a b le = le_trans (le-max_right a b) le

-- ---- statements without blocks

module _ (p : Pos) where
  simple_lifts : (word : Keyword) (parts : Layer) (what : Statement Name) → roll-Statement Name parts ≡ what
      → Lifts (Same placeless_node (whole p parts)) (g.simple word what) (keyword_text word ∷ codes ";" ∷ [])
  simple_lifts word parts what rolls = lifts_then (lifts_keyword word)
      (λ n u. lifts_made (lifts_punct punct.Semicolon) (λ z v. same_statement
      (pos_at n) p parts parts rolls refl))

  pub nothing_lifts : Lifts (Same placeless_node (whole p layer.Nothing)) (g.simple w.Nothing s.Nothing)
      (codes "nothing" ∷ codes ";" ∷ [])
  nothing_lifts = simple_lifts w.Nothing layer.Nothing s.Nothing s.rolls-Nothing

  pub pause_lifts : Lifts (Same placeless_node (whole p layer.Pause)) (g.simple w.Pause s.Pause)
      (codes "pause" ∷ codes ";" ∷ [])
  pause_lifts = simple_lifts w.Pause layer.Pause s.Pause s.rolls-Pause

  pub halt_lifts : Lifts (Same placeless_node (whole p layer.Halt)) (g.simple w.Halt s.Halt)
      (codes "halt" ∷ codes ";" ∷ [])
  halt_lifts = simple_lifts w.Halt layer.Halt s.Halt s.rolls-Halt

  pub break_lifts : (n : NameAt Name) → fits_name n ≡ true → Lifts
      (Same placeless_node (whole p (layer.Break n))) g.break_out (codes "break" ∷ n.name ∷ codes ";" ∷ [])
  break_lifts n h =
      lifts_then (lifts_keyword w.Break)
      (λ z u. lifts_then (named_lifts n h) (λ m e. lifts_made (lifts_punct punct.Semicolon)
      (λ y v. same_statement (pos_at z) p (layer.Break m) (layer.Break n) (s.rolls-Break m)
      (λ i. s.Break (e i)))))

module _ (p : Pos) (room : ℕ) where
  Emits : NameAt Name → Option (ExprAt Name) → NameAt Name × Option (ExprAt Name) → Type 0
  Emits n v e = Same placeless_name n e.0 × Same (option_map placeless_outermost) v e.1

  emission_lifts : (n : NameAt Name) (v : Option (ExprAt Name))
      → (fits_name n && tests.if_there fits_expression v) ≡ true → nesting_of_value v ≤ room
      → Lifts (Emits n v) (g.emission room) (n.name ∷ (if_there tokens_of_test v ++ codes ";" ∷ []))
  unfolding Emits
  emission_lifts n v h le =
      let q = parts (fits_name n) _ h in
      lifts_then (named_lifts n q.0) (λ m e. lifts_then (value_lifts v room q.1 le)
      (λ x k. lifts_made (lifts_punct punct.Semicolon) (λ z u. (e, k))))

  pub emit_lifts : (n : NameAt Name) (v : Option (ExprAt Name))
      → (fits_name n && tests.if_there fits_expression v) ≡ true → nesting_of_value v ≤ room
      → Lifts (Same placeless_node (whole p (layer.Emit n v))) (g.emit room)
      (tokens_of_emission (codes "emit") n v)
  unfolding Emits
  emit_lifts n v h le = lifts_then (lifts_keyword w.Emit) (λ z u. lifts_made (emission_lifts n v h le)
      (λ e k. same_statement (pos_at z) p (layer.Emit e.0 e.1) (layer.Emit n v) (s.rolls-Emit e.0 e.1)
      (λ i. s.Emit (k.0 i) (k.1 i))))

  pub sustain_lifts : (n : NameAt Name) (v : Option (ExprAt Name))
      → (fits_name n && tests.if_there fits_expression v) ≡ true → nesting_of_value v ≤ room
      → Lifts (Same placeless_node (whole p (layer.Sustain n v))) (g.sustain room)
      (tokens_of_emission (codes "sustain") n v)
  unfolding Emits
  sustain_lifts n v h le =
      lifts_then (lifts_keyword w.Sustain) (λ z u. lifts_made (emission_lifts n v h le)
      (λ e k. same_statement (pos_at z) p (layer.Sustain e.0 e.1) (layer.Sustain n v)
      (s.rolls-Sustain e.0 e.1) (λ i. s.Sustain (k.0 i) (k.1 i))))

  pub await_lifts : (d : Delay Name) → fits_delay d ≡ true → nesting_of_delay d ≤ room
      → Lifts (Same placeless_node (whole p (layer.Await d))) (g.await room)
      (codes "await" ∷ (tokens_of_delay d ++ codes ";" ∷ []))
  await_lifts d h le =
      lifts_then (lifts_keyword w.Await) (λ z u. lifts_then (delay_lifts d room h le)
      (λ c e. lifts_made (lifts_punct punct.Semicolon) (λ y v. same_statement (pos_at z) p (layer.Await c)
      (layer.Await d) (s.rolls-Await c) (λ i. s.Await (e i)))))

  pub run_lifts : (n : NameAt Name) (bs : List (Binding Name))
      → (fits_name n && list_all fits_binding bs) ≡ true → 1 ≤ room
      → Lifts (Same placeless_node (whole p (layer.Run n bs))) (g.run room) (tokens_of_run n bs)
  run_lifts n bs h le =
      let q = parts (fits_name n) _ h in
      lifts_then (lifts_keyword w.Run)
      (λ z u. lifts_then (named_lifts n q.0)
      (λ m e. lifts_then (lifts_round 0 (λ left k. lifts_listed_or_none tokens_of_binding bs
      (each_of placeless_binding tokens_of_binding g.binding fits_binding binding_lifts bs q.1)) room le)
      (λ cs d. lifts_made (lifts_punct punct.Semicolon) (λ y v. same_statement (pos_at z) p (layer.Run m cs)
      (layer.Run n bs) (s.rolls-Run m cs) (λ i. s.Run (e i) (d i))))))

-- ---- activities

each_argument : (xs : List (ExprAt Name)) (left : ℕ) → list_all fits_expression xs ≡ true
    → largest (map (λ (x : ExprAt Name). nesting_of x.expr) xs) ≤ left
    → Each placeless_outermost tokens_of_outermost (eg.outermost left) xs
each_argument [] left h le = tt
each_argument (x ∷ xs) left h le =
    let q = parts (fits_expression x) (list_all fits_expression xs) h in
    (outermost_lifts x left q.0 (first_of _ _ le), each_argument xs left q.1 (second_of _ _ le))

answer_lifts : (n : Option (NameAt Name)) (room : ℕ) → tests.if_there fits_name n ≡ true → 1 ≤ room
    → Lifts (Same (option_map placeless_name) n) (eg.optional (eg.in_round g.result room))
    (if_there tokens_of_answer n)
answer_lifts None room h le = lifts_right (lifts_pure refl)
answer_lifts (Some n) room h le = lifts_left (lifts_made (lifts_round 0 (λ left k. named_lifts n h) room le)
    (λ a e. ap Some e))

made_async : Option (NameAt Name) → NameAt Name → List (ExprAt Name) → Option Name → Option Name → Option Name
    → AsyncNode Name
made_async r f xs k u e = record { signal = r; body = f; args = xs; kill = k; suspend = u; resume = e }

-- the words of an activity, one behind the other
in_order : (s c k u r z : Lexemes) → (((s ++ c) ++ ((k ++ u) ++ r)) ++ z) ≡ s ++ (c ++ (k ++ (u ++ (r ++ z))))
in_order s c k u r z =
    append_assoc (s ++ c) ((k ++ u) ++ r) z ∙ append_assoc s c (((k ++ u) ++ r) ++ z)
    ∙ ap (λ x. s ++ (c ++ x)) (append_assoc (k ++ u) r z ∙ append_assoc k u (r ++ z))

record FitsAsync (a : AsyncNode Name) : Type 0 where
  answer : tests.if_there fits_name a.signal ≡ true
  name : fits_name a.body ≡ true
  arguments : list_all fits_expression a.args ≡ true
  kill : tests.if_there is_written_text a.kill ≡ true
  suspend : tests.if_there is_written_text a.suspend ≡ true
  resume : tests.if_there is_written_text a.resume ≡ true

fits_parts : (a : AsyncNode Name) → fits_async a ≡ true → FitsAsync a
fits_parts a h =
    let q5 = parts _ _ h in
    let q4 = parts _ _ q5.0 in
    let q3 = parts _ _ q4.0 in
    let q2 = parts _ _ q3.0 in
    let q1 = parts _ _ q2.0 in
    record { answer = q1.0; name = q1.1; arguments = q2.1; kill = q3.1; suspend = q4.1; resume = q5.1 }

module _ (p : Pos) (room : ℕ) (a : AsyncNode Name) (h : fits_async a ≡ true)
    (le : suc (largest (map (λ (x : ExprAt Name). nesting_of x.expr) a.args)) ≤ room) where
  pub async_lifts : Lifts (Same placeless_node (whole p (layer.Async a))) (g.async room) (tokens_of_async a)
  unfolding made_async
  async_lifts =
      let fits = fits_parts a h in
      let kill = tokens_of_handler (codes "kill") a.kill in
      let suspend = tokens_of_handler (codes "suspend") a.suspend in
      let resume = tokens_of_handler (codes "resume") a.resume in
      lifts_words (sym (in_order (codes "async" ∷ if_there tokens_of_answer a.signal)
      (tokens_of_call a) kill suspend resume (codes ";" ∷ [])))
      (lifts_then (lifts_keyword w.Async)
      (λ z u. lifts_then (answer_lifts a.signal room fits.answer (omega (arith, le)))
      (λ r hr. lifts_then (lifts_keyword w.Call)
      (λ y v. lifts_then (named_lifts a.body fits.name)
      (λ f hf. lifts_then (lifts_round (largest (map (λ (x : ExprAt Name). nesting_of x.expr) a.args))
      (λ left more. lifts_listed_or_none tokens_of_outermost a.args
      (each_argument a.args left fits.arguments more)) room le)
      (λ xs hx. lifts_then (handler_lifts w.Kill a.kill fits.kill)
      (λ k hk. lifts_then (handler_lifts w.Suspend a.suspend fits.suspend)
      (λ t ht. lifts_then (handler_lifts w.Resume a.resume fits.resume)
      (λ e he. lifts_made (lifts_punct punct.Semicolon)
      (λ m o. same_statement (pos_at z) p (layer.Async (made_async r f xs k t e)) (layer.Async a)
      (s.rolls-Async (made_async r f xs k t e)) (λ i. s.Async
      (made_async (hr i) (hf i) (hx i) (hk i) (ht i) (he i)))))))))))))

-- The words of each statement with blocks are a text of its rule, given those of its blocks.
use Rattle.std.proofs.Common.{◌≡◌, ℕ, ◌≤◌, Bool, true, false, List, [], ◌∷◌, ◌++◌, map, codes, Option, Some, None, refl, sym, ap, append_assoc}
use Rattle.std.specs.Prelude.{option_map}
use Rattle.std.specs.List.{AllByRecursion, list_all}
use Rattle.hh_base.specs.declared.value.Pos.{Pos}
use Rattle.module_tree.specs.declared.source.ExprAt.{ExprAt}
use Rattle.module_tree.specs.declared.source.SignalNode.{SignalNode}
use Rattle.module_tree.specs.declared.source.BlockNode.{BlockNode, out-BlockNode}
use Rattle.module_tree.specs.declared.source.Statement.TheVariants as s
use Rattle.module_tree.specs.declared.source.Statement.TheOpen as layer
use Rattle.module_tree.specs.declared.source.Later.{Later}
use Rattle.module_tree.specs.declared.source.Delay.{Delay}
use Rattle.module_tree.specs.SourceWords.{is_written_name}
use Rattle.module_tree.specs.SourceForms.{fits_expression, fits_signal, fits_later, fits_delay}
use Rattle.module_tree.specs.SourceNesting as nests
use Rattle.module_tree.specs.SourceNesting.{nesting_of_later, nesting_of_delay}
use Rattle.hh_base.specs.declared.keyword.Keyword.TheVariants as w
use Rattle.module_token.specs.declared.punct.Punct.TheVariants as punct
use Rattle.expression_reader.specs.Trees.{Name, pos_at}
use Rattle.module_reader.specs.Trees.{statement_at}
use Rattle.module_printer.specs.SourceTokens.{if_there, comma_separated, separated, immediate_word, tokens_of_test, tokens_of_later, tokens_of_delay, tokens_of_signal, tokens_of_block}
use Rattle.expression_reader.specs.Rules as eg
use Rattle.module_reader.specs.Rules as g
use Rattle.expression_reader.specs.Rules.{Lang}
use Rattle.round_trip.specs.Places.{placeless_outermost, placeless_signal, placeless_block}
use Rattle.round_trip.proofs.lifting.Lifting.{Lifts, Same, lifts_then, lifts_made, lifts_left, lifts_right, lifts_pure, lifts_words, lifts_many}
use Rattle.round_trip.proofs.lifting.OneToken.{lifts_punct, lifts_keyword, lifts_name}
use Rattle.round_trip.proofs.lifting.Delays.{tested_lifts, plain_lifts, delay_lifts}
use Rattle.round_trip.proofs.lifting.Declarations.{Is, lifts_listed, each_of, sig_lifts}
use Rattle.round_trip.proofs.lifting.Statements.{placeless_node, whole, same_statement}

-- the words of a block are a text of this language
abbrev pub BlockLifts : Lang (BlockNode Name) → BlockNode Name → Type 0
BlockLifts block b = Lifts (Same placeless_block b) block (tokens_of_block b)

module _ (p : Pos) (block : Lang (BlockNode Name)) where
  pub loop_lifts : (b : BlockNode Name) → BlockLifts block b
      → Lifts (Same placeless_node (whole p (layer.Loop b))) (g.loop block) (codes "loop" ∷ tokens_of_block b)
  loop_lifts b f = lifts_then (lifts_keyword w.Loop) (λ z u. lifts_made f
      (λ c e. same_statement (pos_at z) p (layer.Loop c) (layer.Loop b) (s.rolls-Loop c) (λ i. s.Loop (e i))))

  pub nested_lifts : (b : BlockNode Name) → BlockLifts block b
      → Lifts (Same placeless_node (whole p (layer.Block b))) (g.nested_block block) (tokens_of_block b)
  nested_lifts b f = lifts_made f (λ c e. same_statement (out-BlockNode Name c).pos p (layer.Block c)
      (layer.Block b) (s.rolls-Block c) (λ i. s.Block (e i)))

  pub trap_lifts : (n : Name) (b : BlockNode Name) → is_written_name n ≡ true → BlockLifts block b
      → Lifts (Same placeless_node (whole p (layer.Trap n b))) (g.trap block)
      (codes "trap" ∷ n ∷ tokens_of_block b)
  trap_lifts n b h f =
      lifts_then (lifts_keyword w.Trap) (λ z u. lifts_then (lifts_name n h)
      (λ m d. lifts_made f (λ c e. same_statement (pos_at z) p (layer.Trap m.1 c) (layer.Trap n b)
      (s.rolls-Trap m.1 c) (λ i. s.Trap (d i) (e i)))))

  pub local_lifts : (signal : SignalNode) (signals : List SignalNode) (b : BlockNode Name)
      → list_all fits_signal (signal ∷ signals) ≡ true → BlockLifts block b
      → Lifts (Same placeless_node (whole p (layer.Signal (signal ∷ signals) b))) (g.local block)
      (codes "signal" ∷ (comma_separated (map tokens_of_signal (signal ∷ signals)) ++ tokens_of_block b))
  local_lifts signal signals b h f =
      lifts_then (lifts_keyword w.Signal)
      (λ z u. lifts_then (lifts_listed tokens_of_signal signal signals
      (each_of placeless_signal tokens_of_signal g.signal fits_signal sig_lifts (signal ∷ signals) h))
      (λ ss d. lifts_made f (λ c e. same_statement (pos_at z) p (layer.Signal ss c)
      (layer.Signal (signal ∷ signals) b) (s.rolls-Signal ss c) (λ i. s.Signal (d i) (e i)))))

  -- ---- branches

  behind_par : (bs : List (BlockNode Name)) → AllByRecursion (BlockLifts block) bs
      → AllByRecursion (λ b. Lifts (Same placeless_block b) (g.behind_par block)
      (codes "par" ∷ tokens_of_block b)) bs
  behind_par [] h = tt
  behind_par (b ∷ bs) h = (lifts_then (lifts_keyword w.Par) (λ n u. h.0), behind_par bs h.1)

  pub fork_lifts : (b : BlockNode Name) (bs : List (BlockNode Name))
      → AllByRecursion (BlockLifts block) (b ∷ bs)
      → Lifts (Same placeless_node (whole p (layer.Fork (b ∷ bs)))) (g.fork block)
      (codes "fork" ∷ separated (codes "par") (map tokens_of_block (b ∷ bs)))
  fork_lifts b bs h =
      lifts_then (lifts_keyword w.Fork)
      (λ z u. lifts_made {P = Same (map placeless_block) (b ∷ bs)}
      (lifts_then h.0 (λ c e. lifts_made (lifts_many tokens_of_block (λ ts. codes "par" ∷ ts) bs
      (behind_par bs h.1)) (λ cs d. λ i. e i ∷ d i)))
      (λ cs e. same_statement (pos_at z) p (layer.Fork cs) (layer.Fork (b ∷ bs)) (s.rolls-Fork cs)
      (λ i. s.Fork (e i))))

module _ (p : Pos) (room : ℕ) (block : Lang (BlockNode Name)) where
  -- ---- delays

  pub every_lifts : (d : Delay Name) (b : BlockNode Name) → fits_delay d ≡ true → nesting_of_delay d ≤ room
      → BlockLifts block b → Lifts (Same placeless_node (whole p (layer.Every d b))) (g.every block room)
      (codes "every" ∷ (tokens_of_delay d ++ tokens_of_block b))
  every_lifts d b h le f =
      lifts_then (lifts_keyword w.Every)
      (λ z u. lifts_then (delay_lifts d room h le) (λ a k. lifts_made f
      (λ c e. same_statement (pos_at z) p (layer.Every a c) (layer.Every d b) (s.rolls-Every a c)
      (λ i. s.Every (k i) (e i)))))

  pub abort_lifts : (d : Delay Name) (b : BlockNode Name) → fits_delay d ≡ true → nesting_of_delay d ≤ room
      → BlockLifts block b → Lifts (Same placeless_node (whole p (layer.Abort d b))) (g.abort block room)
      (codes "abort" ∷ (tokens_of_delay d ++ tokens_of_block b))
  abort_lifts d b h le f =
      lifts_then (lifts_keyword w.Abort)
      (λ z u. lifts_then (delay_lifts d room h le) (λ a k. lifts_made f
      (λ c e. same_statement (pos_at z) p (layer.Abort a c) (layer.Abort d b) (s.rolls-Abort a c)
      (λ i. s.Abort (k i) (e i)))))

  pub weak_abort_lifts : (d : Delay Name) (b : BlockNode Name) → fits_delay d ≡ true
      → nesting_of_delay d ≤ room → BlockLifts block b
      → Lifts (Same placeless_node (whole p (layer.WeakAbort d b))) (g.weak_abort block room)
      (codes "weakabort" ∷ (tokens_of_delay d ++ tokens_of_block b))
  weak_abort_lifts d b h le f =
      lifts_then (lifts_keyword w.WeakAbort)
      (λ z u. lifts_then (delay_lifts d room h le) (λ a k. lifts_made f
      (λ c e. same_statement (pos_at z) p (layer.WeakAbort a c) (layer.WeakAbort d b)
      (s.rolls-WeakAbort a c) (λ i. s.WeakAbort (k i) (e i)))))

  pub do_every_lifts : (b : BlockNode Name) (d : Later Name) → fits_later d ≡ true → nesting_of_later d ≤ room
      → BlockLifts block b
      → Lifts (Same placeless_node (whole p (layer.DoEvery b d))) (g.do_every block room)
      (((codes "do" ∷ tokens_of_block b) ++ (codes "every" ∷ tokens_of_later d)) ++ codes ";" ∷ [])
  do_every_lifts b d h le f =
      lifts_words (sym (append_assoc (codes "do" ∷ tokens_of_block b) (codes "every" ∷ tokens_of_later d)
      (codes ";" ∷ [])))
      (lifts_then (lifts_keyword w.Do)
      (λ z u. lifts_then f
      (λ c e. lifts_then (lifts_keyword w.Every)
      (λ y v. lifts_then (plain_lifts d room h le)
      (λ a k. lifts_made (lifts_punct punct.Semicolon) (λ m o. same_statement (pos_at z) p (layer.DoEvery c a)
      (layer.DoEvery b d) (s.rolls-DoEvery c a) (λ i. s.DoEvery (e i) (k i))))))))

  -- ---- tests

  else_lifts : (other : Option (BlockNode Name)) → ((b : BlockNode Name) → other ≡ Some b
      → BlockLifts block b)
      → Lifts (Same (option_map placeless_block) other) (eg.optional (g.behind_else block))
      (if_there (λ ts. codes "else" ∷ ts) (option_map tokens_of_block other))
  else_lifts None h = lifts_right (lifts_pure refl)
  else_lifts (Some b) h = lifts_left (lifts_made (lifts_then (lifts_keyword w.Else) (λ n u. h b refl))
      (λ a e. ap Some e))

  -- the layers of two tests, given the same parts
  same_choice : (x a : ExprAt Name) (b c : BlockNode Name) (other o : Option (BlockNode Name)) (z : ℕ)
      → Same placeless_outermost x a → Same placeless_block b c → Same (option_map placeless_block) other o
      → Same placeless_node (whole p (layer.If x b other)) (statement_at z (s.If a c o))
  same_choice x a b c None None z ea ec eo = same_statement (pos_at z) p (layer.If a c None)
      (layer.If x b None) (s.rolls-If a c None) (λ i. s.If (ea i) (ec i) None)
  same_choice x a b c (Some d) (Some o) z ea ec eo = same_statement (pos_at z) p (layer.If a c (Some o))
      (layer.If x b (Some d)) (s.rolls-If a c (Some o)) (λ i. s.If (ea i) (ec i) (eo i))
  same_choice x a b c None (Some o) z ea ec eo = absurd (let no : ⊥ = cc in no)
  same_choice x a b c (Some d) None z ea ec eo = absurd (let no : ⊥ = cc in no)

  pub choice_lifts : (x : ExprAt Name) (b : BlockNode Name) (other : Option (BlockNode Name))
      → fits_expression x ≡ true → nests.in_parentheses x ≤ room → BlockLifts block b
      → ((c : BlockNode Name) → other ≡ Some c → BlockLifts block c)
      → Lifts (Same placeless_node (whole p (layer.If x b other))) (g.if_else block room)
      ((codes "if" ∷ (tokens_of_test x ++ tokens_of_block b))
      ++ if_there (λ ts. codes "else" ∷ ts) (option_map tokens_of_block other))
  choice_lifts x b other h le f k =
      lifts_words (ap (λ ts. codes "if" ∷ ts)
      (sym (append_assoc (tokens_of_test x) (tokens_of_block b)
      (if_there (λ ts. codes "else" ∷ ts) (option_map tokens_of_block other)))))
      (lifts_then (lifts_keyword w.If)
      (λ z u. lifts_then (tested_lifts x room h le)
      (λ a ea. lifts_then f
      (λ c ec. lifts_made (else_lifts other k) (λ o eo. same_choice x a b c other o z ea ec eo)))))

  has_immediate_lifts : (immediate : Bool) → Lifts (Is immediate) g.has_immediate (immediate_word immediate)
  has_immediate_lifts true = lifts_left (lifts_made (lifts_keyword w.Immediate) (λ n u. refl))
  has_immediate_lifts false = lifts_right (lifts_pure refl)

  pub suspend_lifts : (immediate : Bool) (x : ExprAt Name) (b : BlockNode Name) → fits_expression x ≡ true
      → nests.in_parentheses x ≤ room → BlockLifts block b
      → Lifts (Same placeless_node (whole p (layer.Suspend immediate x b))) (g.suspend block room)
      (codes "suspend" ∷ ((immediate_word immediate ++ tokens_of_test x) ++ tokens_of_block b))
  suspend_lifts immediate x b h le f =
      lifts_words (ap (λ ts. codes "suspend" ∷ ts)
      (sym (append_assoc (immediate_word immediate) (tokens_of_test x) (tokens_of_block b))))
      (lifts_then (lifts_keyword w.Suspend)
      (λ z u. lifts_then (has_immediate_lifts immediate)
      (λ m d. lifts_then (tested_lifts x room h le)
      (λ a k. lifts_made f (λ c e. same_statement (pos_at z) p (layer.Suspend m a c)
      (layer.Suspend immediate x b) (s.rolls-Suspend m a c) (λ i. s.Suspend (d i) (k i) (e i)))))))

-- The counter of a row is its own: the body, and its test, do not mention it.
use Rattle.std.proofs.Common.{◌≡◌, refl, sym, ap, subst, ℕ, zero, suc, inl, inr, ◌+◌, ◌<◌, Bool, true, false, Option}
use Rattle.std.proofs.Common.{Some, None, List, [], ◌∷◌, ◌++◌, map, length, arith, length-append}
use Rattle.std.proofs.lemmas.List.{length-map}
use Rattle.std.proofs.lemmas.Bool.{ltb-true, cases_lt, ne_eqb}
use Rattle.std.specs.Prelude.{◌&&◌, nat_lt, slice_get, slice_index_or}
use Rattle.std.specs.List.{AllByRecursion, list_all}
use Rattle.hh_base.specs.declared.value.Pos.{Pos}
use Rattle.hh_base.specs.declared.value.Value.TheVariants as value
use Rattle.host_expr.specs.declared.expr.Expr.{Expr, roll-Expr}
use Rattle.host_expr.specs.declared.expr.ExprNode.TheVariants as node
use Rattle.host_expr.specs.Expression.{Expression, Int, Flag, Text, Now, Pre, NowVal, PreVal, Arg, Not, Neg, Arith}
use Rattle.host_expr.specs.Expression.{Compare, And, Or, Choose, expression_of, optional_expression}
use Rattle.host_expr.specs.Measures.{signals_read}
use Rattle.host_expr.proofs.Trees.{expr-Now}
use Rattle.module_tree.specs.declared.source.NameAt.{NameAt}
use Rattle.module_tree.specs.declared.source.ExprAt.{ExprAt}
use Rattle.module_tree.specs.declared.source.Binding.{Binding}
use Rattle.module_tree.specs.declared.source.AsyncNode.{AsyncNode}
use Rattle.module_tree.specs.declared.source.SignalNode.{SignalNode}
use Rattle.module_tree.specs.declared.source.BlockNode.{BlockNode}
use Rattle.module_tree.specs.declared.source.ModuleNode.{ModuleNode}
use Rattle.module_tree.specs.Parts.{block_walk}
use Rattle.module_tree.specs.Scopes.{InScope, Declared}
use Rattle.hh_term.specs.declared.program.SignalDecl.{SignalDecl}
use Rattle.hh_term.specs.Kernel.{Kernel, AsyncSite}
use Rattle.hh_term.specs.MustCan.{table_of}
use Rattle.hh_term.specs.Placed.{Placed, unplaced}
use Rattle.hh_term.specs.Placed as placed
use Rattle.kernel_expand.specs.Operations.{Operations}
use Rattle.kernel_expand.specs.Interpretation.{of_block}
use Rattle.kernel_expand.specs.Modules.{of_module, body_means}
use Rattle.kernel_expand.specs.Numbering.{Piece, Around, Numbered, numbering, number_of, in_numbers, value_in_numbers}
use Rattle.kernel_expand.specs.Numbering.{local_signal, counter_signal, with_signal, with_place, with_trap}
use Rattle.kernel_expand.specs.Numbering.{in_trap, traps_between, result_in_numbers, site_in_numbers, inside_run}
use Rattle.kernel_expand.specs.Numbering.{no_traps, of_two}
use Rattle.kernel_expand.specs.Expansion.{no_module}
use Rattle.kernel_expand.proofs.Alike.{Alike}
use Rattle.kernel_expand.proofs.AlikeTrees.{blocks_alike, callees}
use Rattle.kernel_expand.proofs.Good.{there}
use Rattle.kernel_expand.proofs.Replaced.{both_all}
use Rattle.derived_laws.specs.Mentions.{IsOther, Unread, OptionUnread, AllUnread, IsOtherTarget, Unmentioned}
use Rattle.derived_laws.specs.Naming.{Naming, naming, nothing_named, expression_names, value_names, result_names}
use Rattle.derived_laws.specs.Naming.{bindings_name, naming_two}
use Rattle.derived_laws.specs.Replacements.{expression_with}
use Rattle.derived_laws.specs.Runs.{Begins}
use Rattle.derived_laws.specs.CountedAborts.{IsOwn, in_counter, counted_body}
use Rattle.derived_laws.specs.Bodies.{block_piece, block_naming}
use Rattle.derived_laws.proofs.RenamedTrees.{is_replaced}
use Rattle.derived_laws.proofs.RunPieces.{all_of, and_both, index_before, index_at, before_signal, before_place, before_site}
use Rattle.derived_laws.proofs.Unemitted.{its_own}

-- s is a signal that was numbered before, and K the whole program
module _ (s : ℕ) (K : Kernel) where
  pub record Stands (c : ℕ) (n : Numbered) : Type 0 where
    pub count : length n.places ≡ c
    pub places : (p : ℕ) → p < c → IsOther s (number_of n p)
    pub past : s < length n.signals

  pub record Beside (b : Bool) (a : Around) : Type 0 where
    pub counter : b ≡ true → IsOther s a.counter

  abbrev Free : Placed → Type 0
  Free t = Unmentioned (table_of K) s (unplaced t)

  pub record Avoids (c : ℕ) (n : Numbered) (x : Placed × Numbered) : Type 0 where
    pub after : Stands c x.1
    pub earlier : Begins K x.1 → Begins K n
    pub free : Begins K x.1 → Free x.0

  abbrev pub Leaves : Naming → Piece → Type 0
  Leaves r p = (b : Bool) (c : ℕ) (a : Around) (n : Numbered) → Beside b a → Stands c n → (r b c).0 ≡ true
      → Avoids (r b c).1 n (p a n)

  -- ---- expressions

  module _ (c : ℕ) (n : Numbered) (st : Stands c n) where
    names : (p : ℕ) → nat_lt p c ≡ true → IsOther s (number_of n p)
    names p h = st.places p (ltb-true p c h)

    abbrev Below : List ℕ → Type 0
    Below = AllByRecursion (λ p. nat_lt p c ≡ true)

    unread_in : (e : Expression) → Below (signals_read e) → Unread s (expression_with (number_of n) e)
    unread_in (Int i) h = tt
    unread_in (Flag b) h = tt
    unread_in (Text t) h = tt
    unread_in (Now p) h = names p h.0
    unread_in (Pre p) h = names p h.0
    unread_in (NowVal p) h = names p h.0
    unread_in (PreVal p) h = names p h.0
    unread_in (Arg i) h = tt
    unread_in (Not a) h = unread_in a h
    unread_in (Neg p a) h = unread_in a h
    unread_in (Arith p op a b) h =
        let q = both_all (λ s. nat_lt s c ≡ true) (signals_read a) (signals_read b) h in
        (unread_in a q.0, unread_in b q.1)
    unread_in (Compare rel a b) h =
        let q = both_all (λ s. nat_lt s c ≡ true) (signals_read a) (signals_read b) h in
        (unread_in a q.0, unread_in b q.1)
    unread_in (And a b) h =
        let q = both_all (λ s. nat_lt s c ≡ true) (signals_read a) (signals_read b) h in
        (unread_in a q.0, unread_in b q.1)
    unread_in (Or a b) h =
        let q = both_all (λ s. nat_lt s c ≡ true) (signals_read a) (signals_read b) h in
        (unread_in a q.0, unread_in b q.1)
    unread_in (Choose a b d) h =
        let q = both_all (λ s. nat_lt s c ≡ true) (signals_read a ++ signals_read b) (signals_read d) h in
        let r = both_all (λ s. nat_lt s c ≡ true) (signals_read a) (signals_read b) q.0 in
        (unread_in a r.0, unread_in b r.1, unread_in d q.1)

    pub test_unread : (d : Expr ℕ) → expression_names c d ≡ true → Unread s (expression_of (in_numbers n d))
    test_unread d h =
        subst (Unread s) (sym (is_replaced (number_of n) d))
        (unread_in (expression_of d) (all_of (λ s. nat_lt s c) (signals_read (expression_of d)) h))

    value_unread : (e : Option (Expr ℕ)) → value_names c e ≡ true
        → OptionUnread s (optional_expression (value_in_numbers n e))
    value_unread None h = tt
    value_unread (Some e) h = test_unread e h

    result_other : (o : Option (NameAt ℕ)) → result_names c o ≡ true → IsOtherTarget s (result_in_numbers n o)
    result_other None h = tt
    result_other (Some p) h = names p.name h

    arguments_unread : (xs : List (ExprAt ℕ)) → list_all (λ (x : ExprAt ℕ). expression_names c x.expr) xs ≡ true
        → AllUnread s (map (λ (x : ExprAt ℕ). expression_of (in_numbers n x.expr)) xs)
    arguments_unread [] h = tt
    arguments_unread (x ∷ xs) h =
        let q = and_both (expression_names c x.expr) (list_all (λ (x : ExprAt ℕ). expression_names c x.expr) xs) h in
        (test_unread x.expr q.0, arguments_unread xs q.1)

    -- ---- what is numbered next is another signal

    other : IsOther s (length n.signals)
    other = ne_eqb (length n.signals) s (λ e. let no : ⊥ = omega (arith, e, st.past) in no)

    with_signals : (d : SignalDecl) → Stands c (with_signal d n)
    with_signals d =
        record {
          count = st.count;
          places = st.places;
          past = omega (arith, st.past, length-append n.signals (d ∷ []));
        }

    next_place : (d : SignalDecl) (p : ℕ) → p < c + 1 → IsOther s (number_of (with_place d n) p)
    next_place d p lt = elim (cases_lt p c) [
      | inl below ↦ subst (IsOther s)
          (sym (index_before n.places (length n.signals ∷ []) p (omega (arith, below, st.count)))) (st.places p below)
      | inr past ↦ subst (IsOther s)
          (sym (index_at n.places (length n.signals) p (omega (arith, lt, past, st.count)))) other
    ]

    with_places : (d : SignalDecl) → Stands (c + 1) (with_place d n)
    with_places d =
        record {
          count = omega (arith, st.count, length-append n.places (length n.signals ∷ []));
          places = next_place d;
          past = omega (arith, st.past, length-append n.signals (d ∷ []));
        }

    bound_other : (bs : List (Binding ℕ)) → bindings_name c bs ≡ true → (p : ℕ) → p < length bs
        → IsOther s (slice_index_or (map (λ (b : Binding ℕ). number_of n b.right.name) bs) p 0)
    bound_other [] h p lt = absurd (let no : ⊥ = omega (arith, lt) in no)
    bound_other (b ∷ bs) h zero lt = names b.right.name (and_both (nat_lt b.right.name c) (bindings_name c bs) h).0
    bound_other (b ∷ bs) h (suc p) lt =
        bound_other bs (and_both (nat_lt b.right.name c) (bindings_name c bs) h).1 p (omega (arith, lt))

    inside : (bs : List (Binding ℕ)) → bindings_name c bs ≡ true → Stands (length bs) (inside_run bs n)
    inside bs h =
        record {
          count = length-map bs (λ (b : Binding ℕ). number_of n b.right.name);
          places = bound_other bs h;
          past = st.past;
        }

    site_free : (x : AsyncSite) → slice_get K.sites (length n.sites) ≡ Some x → IsOtherTarget s x.signal
        → AllUnread s x.args → Unmentioned (table_of K) s (unplaced (placed.Async (record { 0 = 0 }) (length n.sites)))
    site_free x at h g =
        let target : Option AsyncSite → Option ℕ = λ o. (elim o [ Some a ↦ a.signal | None ↦ None ]) in
        let arguments : Option AsyncSite → List Expression = λ o. (elim o [ Some a ↦ a.args | None ↦ [] ]) in
        (subst (IsOtherTarget s) (sym (ap target at)) h, subst (AllUnread s) (sym (ap arguments at)) g)

  -- ---- the operations

  leaf : (c : ℕ) (n : Numbered) (t : Placed) → Stands c n → Free t → Avoids c n (t, n)
  leaf c n t st f = record { after = st; earlier = λ h. h; free = λ h. f }

  round : (c : ℕ) (n : Numbered) (x : Placed × Numbered) (t : Placed) → Avoids c n x → (Free x.0 → Free t)
      → Avoids c n (t, x.1)
  round c n x t w f = record { after = w.after; earlier = w.earlier; free = λ h. f (w.free h) }

  module _ (names_of : ℕ → Naming) (pieces : ℕ → Piece) (pos : Pos) where
    abbrev N : Operations Naming
    N = naming names_of pos

    abbrev P : Operations Piece
    P = numbering pieces pos

    two_free : (here : ℕ → Bool) (node : Numbered → Placed → Placed → Placed)
        → ((c : ℕ) (n : Numbered) (x y : Placed) → Stands c n → here c ≡ true → Free x → Free y → Free (node n x y))
        → (r : Naming) (p : Piece) (r' : Naming) (p' : Piece) → Leaves r p → Leaves r' p'
        → Leaves (naming_two here r r') (of_two node p p')
    two_free here node f r p r' p' h k b c a n be st t =
        let x = r b c in
        let y = r' b x.1 in
        let q = and_both (here c && x.0) y.0 t in
        let u = and_both (here c) x.0 q.0 in
        let w = h b c a n be st u.1 in
        let z = k b x.1 a (p a n).1 be w.after q.1 in
        record {
          after = z.after;
          earlier = λ g. w.earlier (z.earlier g);
          free = λ g. f c n (p a n).0 (p' a (p a n).1).0 st u.0 (w.free (z.earlier g)) (z.free g);
        }

    suspend_free : (d : Expr ℕ) (r : Naming) (p : Piece) → Leaves r p → Leaves (N.suspend d r) (P.suspend d p)
    suspend_free d r p h b c a n be st t =
        let q = and_both (expression_names c d) (r b c).0 t in
        round (r b c).1 n (p a n) (placed.Suspend pos (in_numbers n d) (p a n).0) (h b c a n be st q.1)
        (λ f. (test_unread c n st d q.0, f))

    emit_free : (i : ℕ) (e : Option (Expr ℕ)) → Leaves (N.emit i e) (P.emit i e)
    emit_free i e b c a n be st t =
        let q = and_both (nat_lt i c) (value_names c e) t in
        leaf c n (placed.Emit pos (number_of n i) (value_in_numbers n e)) st
        (names c n st i q.0, value_unread c n st e q.1)

    local_free : (d : SignalNode) (r : Naming) (p : Piece) → Leaves r p → Leaves (N.local d r) (P.local d p)
    local_free d r p h b c a n be st t =
        let D = local_signal d in
        let w = h b (c + 1) a (with_place D n) be (with_places c n st D) t in
        record {
          after = w.after;
          earlier = λ g. before_place D n K (w.earlier g);
          free = λ g. (other c n st, w.free g);
        }

    counter_free : (r : Naming) (p : Piece) → Leaves r p → Leaves (N.counter r) (P.counter p)
    counter_free r p h b c a n be st t =
        let D = counter_signal pos in
        let around : Around = record { traps = a.traps; counter = length n.signals } in
        let beside : Beside true around = record { counter = λ e. other c n st } in
        let w = h true c around (with_signal D n) beside (with_signals c n st D) t in
        record {
          after = w.after;
          earlier = λ g. before_signal D n K (w.earlier g);
          free = λ g. (other c n st, w.free g);
        }

    async_free : (d : AsyncNode ℕ) → Leaves (N.async d) (P.async d)
    async_free d b c a n be st t =
        let q = and_both (result_names c d.signal)
        (list_all (λ (x : ExprAt ℕ). expression_names c x.expr) d.args) t in
        let x = site_in_numbers n d in
        record {
          after = record { count = st.count; places = st.places; past = st.past };
          earlier = before_site x n K;
          free = λ g. site_free c n st x (g.sites (length n.sites) x (there n.sites x))
              (result_other c n st d.signal q.0) (arguments_unread c n st d.args q.1);
        }

    trapped_free : (o : Numbered → Option ℕ) (after : Numbered → Numbered)
        → ((c : ℕ) (n : Numbered) → Stands c n → Stands c (after n))
        → ((n : Numbered) → Begins K (after n) → Begins K n) → (r : Naming) (p : Piece) → Leaves r p
        → Leaves r (λ a n. let x = p (in_trap (o n) a) (after n) in (placed.Trap pos x.0, x.1))
    trapped_free o after stands begins r p h b c a n be st t =
        let beside : Beside b (in_trap (o n) a) = record { counter = be.counter } in
        let w = h b c (in_trap (o n) a) (after n) beside (stands c n st) t in
        record { after = w.after; earlier = λ g. begins n (w.earlier g); free = w.free }

    counted_free : (r : Naming) (p : Piece) → Leaves r p → Leaves (N.suspend_counted r) (P.suspend_counted p)
    counted_free r p h b c a n be st t =
        let q = and_both b (r b c).0 t in
        round (r b c).1 n (p a n)
        (placed.Suspend pos (roll-Expr ℕ (record { pos = pos; node = node.Now a.counter })) (p a n).0)
        (h b c a n be st q.1) (λ f. (subst (Unread s) (sym (expr-Now pos a.counter)) (be.counter q.0), f))

    run_free : (i : ℕ) (bs : List (Binding ℕ)) → Leaves (names_of i) (pieces i) → Leaves (N.run i bs) (P.run i bs)
    run_free i bs h b c a n be st t =
        let q = and_both (bindings_name c bs) (names_of i false (length bs)).0 t in
        let beside : Beside false no_traps = record { counter = λ e. absurd (let no : ⊥ = cc in no) } in
        let w = h false (length bs) no_traps (inside_run bs n) beside (inside c n st bs q.0) q.1 in
        record {
          after = record { count = st.count; places = st.places; past = w.after.past };
          earlier = λ g. let j = w.earlier (record { signals = g.signals; sites = g.sites }) in
              record { signals = j.signals; sites = j.sites };
          free = λ g. w.free (record { signals = g.signals; sites = g.sites });
        }

    operations : Alike Leaves N P
    operations =
        record {
          nothing = λ b c a n be st t. leaf c n (placed.Nothing pos) st tt;
          pause = λ b c a n be st t. leaf c n (placed.Pause pos) st tt;
          emit = emit_free;
          choice = λ d. two_free (λ c. expression_names c d) (λ n x y. placed.If pos (in_numbers n d) x y)
              (λ c n x y st h f g. (test_unread c n st d h, f, g));
          suspend = suspend_free;
          seq = two_free (λ c. true) (λ n x y. placed.Seq pos x y) (λ c n x y st h f g. (f, g));
          par = two_free (λ c. true) (λ n x y. placed.Par pos x y) (λ c n x y st h f g. (f, g));
          loop = λ r p h b c a n be st t. round (r b c).1 n (p a n) (placed.Loop pos (p a n).0) (h b c a n be st t)
              (λ f. f);
          local = local_free;
          async = async_free;
          trap = trapped_free (λ n. None) (λ n. n) (λ c n st. st) (λ n g. g);
          exit = λ b c a n be st t. leaf c n (placed.Exit pos 0) st tt;
          named_trap = trapped_free (λ n. Some n.traps) with_trap
              (λ c n st. record { count = st.count; places = st.places; past = st.past })
              (λ n g. record { signals = g.signals; sites = g.sites });
          leave = λ u b c a n be st t. leaf c n (placed.Exit pos (traps_between u a.traps)) st tt;
          counter = counter_free;
          suspend_counted = counted_free;
          emit_counter = λ b c a n be st t. leaf c n (placed.Emit pos a.counter None) st (be.counter t, tt);
        }

  -- ---- blocks and modules

  no_module_free : Leaves nothing_named no_module
  no_module_free b c a n be st t = leaf c n (placed.Nothing (record { 0 = 0 })) st tt

  for_all : (Q : ℕ → Type 0) → ((i : ℕ) → Q i) → (xs : List ℕ) → AllByRecursion Q xs
  for_all Q h [] = tt
  for_all Q h (x ∷ xs) = (h x, for_all Q h xs)

  block_free : (names_of : ℕ → Naming) (pieces : ℕ → Piece) → ((i : ℕ) → Leaves (names_of i) (pieces i))
      → (b : BlockNode ℕ) → Leaves (of_block (naming names_of) b) (of_block (numbering pieces) b)
  block_free names_of pieces h b =
      let scope : InScope = record { signals = []; traps = [] } in
      let start : Declared = record { signals = 0; traps = 0 } in
      blocks_alike Leaves (naming names_of) (numbering pieces) (λ j. Leaves (names_of j) (pieces j))
      (λ pos. operations names_of pieces pos) (λ pos j bs k. run_free names_of pieces pos j bs k) b scope start
      (for_all (λ j. Leaves (names_of j) (pieces j)) h (callees (block_walk b scope start).parts))

  module_free : (names_of : ℕ → Naming) (pieces : ℕ → Piece) → ((i : ℕ) → Leaves (names_of i) (pieces i))
      → (o : Option (ModuleNode ℕ))
      → Leaves (body_means (naming names_of) nothing_named o) (body_means (numbering pieces) no_module o)
  module_free names_of pieces h None = no_module_free
  module_free names_of pieces h (Some m) = block_free names_of pieces h m.block

  modules_free : (modules : List (ModuleNode ℕ)) (deep i : ℕ)
      → Leaves (of_module naming nothing_named modules deep i) (of_module numbering no_module modules deep i)
  unfolding of_module
  modules_free modules zero i = no_module_free
  modules_free modules (suc deep) i =
      module_free (of_module naming nothing_named modules deep) (of_module numbering no_module modules deep)
      (modules_free modules deep) (slice_get modules i)

-- ---- the counter of a row

pub counter_own : (modules : List (ModuleNode ℕ)) (deep : ℕ) (b : BlockNode ℕ) (pos : Pos) (d : Expr ℕ) (a : Around)
    (n : Numbered) (K : Kernel) → ((p : ℕ) → p < length n.places → number_of n p < length n.signals)
    → expression_names (length n.places) d ≡ true
    → (block_naming modules deep b false (length n.places)).0 ≡ true
    → Begins K (block_piece modules deep b (in_counter a n) (with_signal (counter_signal pos) n)).1 →
    IsOwn (table_of K) (length n.signals) (in_numbers n d) (counted_body pos (block_piece modules deep b) a n)
counter_own modules deep b pos d a n K earlier test named begins =
    let s = length n.signals in
    let D = counter_signal pos in
    let m = with_signal D n in
    let st : Stands s K (length n.places) m =
    record {
      count = refl;
      places = λ p lt. ne_eqb (number_of n p) s (λ e. let no : ⊥ = omega (arith, e, earlier p lt) in no);
      past = omega (arith, length-append n.signals (D ∷ []));
    } in
    let w = block_free s K (of_module naming nothing_named modules deep) (of_module numbering no_module modules deep)
    (modules_free s K modules deep) b false (length n.places) (in_counter a n) m
    (record { counter = λ e. absurd (let no : ⊥ = cc in no) }) st named in
    let first : (table_of K).first s ≡ value.Unit =
    ap (λ (o : Option SignalDecl). (elim o [ Some x ↦ x.first | None ↦ value.Unit ]))
    ((w.earlier begins).signals s D (there n.signals D)) in
    its_own (table_of K) s (in_numbers n d) (counted_body pos (block_piece modules deep b) a n) first
    (test_unread s K (length n.places) m st d test) (w.free begins)

-- What a module expands to in the program of a caller is what it expands to in its own, with signals and sites
-- replaced.
use Rattle.std.proofs.Common.{◌≡◌, refl, sym, ap, ◌∙◌, ℕ, zero, suc, inl, inr, ◌+◌, ◌<◌, ◌≤◌, Bool, true, false}
use Rattle.std.proofs.Common.{Option, Some, None, List, [], ◌∷◌, ◌++◌, map, length, arith, length-append}
use Rattle.std.proofs.lemmas.List.{length-map}
use Rattle.std.proofs.lemmas.Bool.{ltb-true, cases_lt}
use Rattle.std.specs.Prelude.{◌&&◌, nat_lt, slice_get, slice_index_or, option_map}
use Rattle.std.specs.List.{AllByRecursion, list_all}
use Rattle.hh_base.specs.declared.value.Pos.{Pos}
use Rattle.hh_base.specs.declared.value.Kind.{Kind}
use Rattle.hh_base.specs.declared.value.Kind.TheVariants as kind
use Rattle.hh_base.specs.declared.value.Value.TheVariants as value
use Rattle.host_expr.specs.declared.expr.Expr.{Expr, roll-Expr}
use Rattle.host_expr.specs.declared.expr.ExprNode.TheVariants as node
use Rattle.host_expr.specs.Expression.{Expression, Int, Flag, Text, Now, Pre, NowVal, PreVal, Arg, Not, Neg, Arith}
use Rattle.host_expr.specs.Expression.{Compare, And, Or, Choose, expression_of, optional_expression}
use Rattle.host_expr.specs.Measures.{signals_read}
use Rattle.host_expr.proofs.Trees.{expr-Now}
use Rattle.module_tree.specs.declared.source.NameAt.{NameAt}
use Rattle.module_tree.specs.declared.source.ExprAt.{ExprAt}
use Rattle.module_tree.specs.declared.source.Binding.{Binding}
use Rattle.module_tree.specs.declared.source.AsyncNode.{AsyncNode}
use Rattle.module_tree.specs.declared.source.SignalNode.{SignalNode}
use Rattle.module_tree.specs.Parts.{block_walk}
use Rattle.module_tree.specs.Scopes.{InScope, Declared}
use Rattle.module_tree.specs.declared.source.ModuleNode.{ModuleNode}
use Rattle.hh_term.specs.declared.program.SignalDecl.{SignalDecl}
use Rattle.hh_term.specs.Kernel.{Kernel, AsyncSite, body_params}
use Rattle.hh_term.specs.MustCan.{Table, table_of}
use Rattle.hh_term.specs.Statement as statement
use Rattle.hh_term.specs.Statement.{Statement}
use Rattle.hh_term.specs.Placed.{Placed, unplaced}
use Rattle.hh_term.specs.Placed as placed
use Rattle.kernel_expand.specs.Operations.{Operations}
use Rattle.kernel_expand.specs.Modules.{of_module, body_means}
use Rattle.kernel_expand.specs.Numbering.{Piece, Around, Numbered, numbering, number_of, in_numbers, value_in_numbers}
use Rattle.kernel_expand.specs.Numbering.{local_signal, counter_signal, with_signal, with_place, with_site, with_trap}
use Rattle.kernel_expand.specs.Numbering.{in_trap, traps_between, result_in_numbers, site_in_numbers, inside_run}
use Rattle.kernel_expand.specs.Numbering.{behind_run, no_traps, of_two}
use Rattle.kernel_expand.specs.Expansion.{no_module}
use Rattle.kernel_expand.proofs.Alike.{Alike}
use Rattle.kernel_expand.proofs.AlikeTrees.{blocks_alike, callees}
use Rattle.kernel_expand.proofs.Good.{there, still}
use Rattle.kernel_expand.proofs.Replaced.{both_all}
use Rattle.derived_laws.specs.Naming.{Naming, naming, nothing_named, expression_names, value_names, result_names}
use Rattle.derived_laws.specs.Naming.{bindings_name, naming_two}
use Rattle.derived_laws.specs.Replacements.{expression_with, statement_with, IsAlone, SameSignal, SameSite, Declares}
use Rattle.derived_laws.specs.Runs.{Begins}
use Rattle.derived_laws.proofs.RenamedTrees.{is_replaced}

pub and_both : (a b : Bool) → (a && b) ≡ true → (a ≡ true) × (b ≡ true)
and_both true b h = (refl, h)
and_both false b h = absurd (let no : ⊥ = cc in no)

pub all_of : {A : Type 0} (P : A → Bool) (xs : List A) → list_all P xs ≡ true → AllByRecursion (λ x. P x ≡ true) xs
all_of P [] h = tt
all_of P (x ∷ xs) h = let q = and_both (P x) (list_all P xs) h in (q.0, all_of P xs q.1)

pub index_before : (xs ys : List ℕ) (p : ℕ) → p < length xs → slice_index_or (xs ++ ys) p 0 ≡ slice_index_or xs p 0
index_before [] ys p lt = absurd (let no : ⊥ = omega (arith, lt) in no)
index_before (x ∷ xs) ys zero lt = refl
index_before (x ∷ xs) ys (suc p) lt = index_before xs ys p (omega (arith, lt))

pub index_at : (xs : List ℕ) (x p : ℕ) → p ≡ length xs → slice_index_or (xs ++ x ∷ []) p 0 ≡ x
index_at [] x zero e = refl
index_at [] x (suc p) e = absurd (let no : ⊥ = omega (arith, e) in no)
index_at (y ∷ xs) x zero e = absurd (let no : ⊥ = omega (arith, e) in no)
index_at (y ∷ xs) x (suc p) e = index_at xs x p (omega (arith, e))

pub before_signal : (d : SignalDecl) (n : Numbered) (K : Kernel) → Begins K (with_signal d n) → Begins K n
before_signal d n K h =
    record { signals = λ s x e. h.signals s x (still n.signals (d ∷ []) s x e); sites = h.sites }

pub before_place : (d : SignalDecl) (n : Numbered) (K : Kernel) → Begins K (with_place d n) → Begins K n
before_place d n K h =
    record { signals = λ s x e. h.signals s x (still n.signals (d ∷ []) s x e); sites = h.sites }

pub before_site : (x : AsyncSite) (n : Numbered) (K : Kernel) → Begins K (with_site x n) → Begins K n
before_site x n K h =
    record { signals = h.signals; sites = λ s y e. h.sites s y (still n.sites (x ∷ []) s y e) }

-- from k on the signals of the callee come behind the L of the caller, and its sites behind S
module _ (k L S : ℕ) (f : ℕ → ℕ) (high : (s : ℕ) → k ≤ s → f s + k ≡ L + s)
    (alone : (s : ℕ) → k ≤ s → IsAlone f s) where
  abbrev pub g : ℕ → ℕ
  g n = S + n

  abbrev R : Statement → Statement
  R = statement_with f g

  -- the callee in its own program has n before it, and m in the caller's
  pub record Stands (c : ℕ) (n m : Numbered) : Type 0 where
    pub count : length n.places ≡ c
    pub same_count : length m.places ≡ c
    pub places : (p : ℕ) → p < c → number_of m p ≡ f (number_of n p)
    pub floor : k ≤ length n.signals
    pub signals : length m.signals + k ≡ L + length n.signals
    pub sites : length m.sites ≡ S + length n.sites
    pub traps : m.traps ≡ n.traps

  pub record Beside (b : Bool) (a e : Around) : Type 0 where
    pub traps : e.traps ≡ a.traps
    pub counter : b ≡ true → e.counter ≡ f a.counter

  pub record Matches (c : ℕ) (n m : Numbered) (x y : Placed × Numbered) : Type 0 where
    pub statement : unplaced y.0 ≡ R (unplaced x.0)
    pub after : Stands c x.1 y.1
    pub earlier : (K : Kernel) → Begins K x.1 → Begins K n
    pub earlier_too : (K : Kernel) → Begins K y.1 → Begins K m
    pub declares : (K K' : Kernel) → Begins K x.1 → Begins K' y.1 → K'.bodies ≡ K.bodies
        → Declares (table_of K) (table_of K') f g (unplaced x.0)

  abbrev pub Replaces : Naming → Piece → Type 0
  Replaces r p = (b : Bool) (c : ℕ) (a e : Around) (n m : Numbered) → Beside b a e → Stands c n m
      → (r b c).0 ≡ true → Matches (r b c).1 n m (p a n) (p e m)

  -- ---- expressions

  module _ (c : ℕ) (n m : Numbered) (st : Stands c n m) where
    names : (s : ℕ) → nat_lt s c ≡ true → number_of m s ≡ f (number_of n s)
    names s h = st.places s (ltb-true s c h)

    abbrev Below : List ℕ → Type 0
    Below = AllByRecursion (λ s. nat_lt s c ≡ true)

    in_place : (e : Expression) → Below (signals_read e)
        → expression_with (number_of m) e ≡ expression_with f (expression_with (number_of n) e)
    in_place (Int i) h = refl
    in_place (Flag b) h = refl
    in_place (Text t) h = refl
    in_place (Now s) h = ap (λ t. Now t) (names s h.0)
    in_place (Pre s) h = ap (λ t. Pre t) (names s h.0)
    in_place (NowVal s) h = ap (λ t. NowVal t) (names s h.0)
    in_place (PreVal s) h = ap (λ t. PreVal t) (names s h.0)
    in_place (Arg i) h = refl
    in_place (Not a) h = ap (λ x. Not x) (in_place a h)
    in_place (Neg p a) h = ap (λ x. Neg p x) (in_place a h)
    in_place (Arith p op a b) h =
        let q = both_all (λ s. nat_lt s c ≡ true) (signals_read a) (signals_read b) h in
        λ i. Arith p op (in_place a q.0 i) (in_place b q.1 i)
    in_place (Compare rel a b) h =
        let q = both_all (λ s. nat_lt s c ≡ true) (signals_read a) (signals_read b) h in
        λ i. Compare rel (in_place a q.0 i) (in_place b q.1 i)
    in_place (And a b) h =
        let q = both_all (λ s. nat_lt s c ≡ true) (signals_read a) (signals_read b) h in
        λ i. And (in_place a q.0 i) (in_place b q.1 i)
    in_place (Or a b) h =
        let q = both_all (λ s. nat_lt s c ≡ true) (signals_read a) (signals_read b) h in
        λ i. Or (in_place a q.0 i) (in_place b q.1 i)
    in_place (Choose a b d) h =
        let q = both_all (λ s. nat_lt s c ≡ true) (signals_read a ++ signals_read b) (signals_read d) h in
        let r = both_all (λ s. nat_lt s c ≡ true) (signals_read a) (signals_read b) q.0 in
        λ i. Choose (in_place a r.0 i) (in_place b r.1 i) (in_place d q.1 i)

    test_in : (d : Expr ℕ) → expression_names c d ≡ true
        → expression_of (in_numbers m d) ≡ expression_with f (expression_of (in_numbers n d))
    test_in d h =
        is_replaced (number_of m) d
        ∙ in_place (expression_of d) (all_of (λ s. nat_lt s c) (signals_read (expression_of d)) h)
        ∙ ap (expression_with f) (sym (is_replaced (number_of n) d))

    value_in : (e : Option (Expr ℕ)) → value_names c e ≡ true → optional_expression (value_in_numbers m e)
        ≡ option_map (expression_with f) (optional_expression (value_in_numbers n e))
    value_in None h = refl
    value_in (Some e) h = ap (λ x. Some x) (test_in e h)

    result_in : (o : Option (NameAt ℕ)) → result_names c o ≡ true
        → result_in_numbers m o ≡ option_map f (result_in_numbers n o)
    result_in None h = refl
    result_in (Some s) h = ap (λ x. Some x) (names s.name h)

    arguments_in : (xs : List (ExprAt ℕ)) → list_all (λ (x : ExprAt ℕ). expression_names c x.expr) xs ≡ true →
        map (λ (x : ExprAt ℕ). expression_of (in_numbers m x.expr)) xs
        ≡ map (expression_with f) (map (λ (x : ExprAt ℕ). expression_of (in_numbers n x.expr)) xs)
    arguments_in [] h = refl
    arguments_in (x ∷ xs) h =
        let q = and_both (expression_names c x.expr) (list_all (λ (x : ExprAt ℕ). expression_names c x.expr) xs) h in
        λ i. test_in x.expr q.0 i ∷ arguments_in xs q.1 i

    -- ---- the next number

    next_signal : length m.signals ≡ f (length n.signals)
    next_signal = omega (arith, st.signals, high (length n.signals) st.floor)

    with_signals : (d : SignalDecl) → Stands c (with_signal d n) (with_signal d m)
    with_signals d =
        record {
          count = st.count;
          same_count = st.same_count;
          places = st.places;
          floor = omega (arith, st.floor, length-append n.signals (d ∷ []));
          signals = omega (arith, st.signals, length-append n.signals (d ∷ []), length-append m.signals (d ∷ []));
          sites = st.sites;
          traps = st.traps;
        }

    next_place : (d : SignalDecl) (p : ℕ) → p < c + 1 → number_of (with_place d m) p ≡ f (number_of (with_place d n) p)
    next_place d p lt = elim (cases_lt p c) [
      | inl below ↦ index_before m.places (length m.signals ∷ []) p (omega (arith, below, st.same_count))
          ∙ st.places p below
          ∙ ap f (sym (index_before n.places (length n.signals ∷ []) p (omega (arith, below, st.count))))
      | inr past ↦ index_at m.places (length m.signals) p (omega (arith, lt, past, st.same_count))
          ∙ next_signal ∙ ap f (sym (index_at n.places (length n.signals) p (omega (arith, lt, past, st.count))))
    ]

    with_places : (d : SignalDecl) → Stands (c + 1) (with_place d n) (with_place d m)
    with_places d =
        record {
          count = omega (arith, st.count, length-append n.places (length n.signals ∷ []));
          same_count = omega (arith, st.same_count, length-append m.places (length m.signals ∷ []));
          places = next_place d;
          floor = omega (arith, st.floor, length-append n.signals (d ∷ []));
          signals = omega (arith, st.signals, length-append n.signals (d ∷ []), length-append m.signals (d ∷ []));
          sites = st.sites;
          traps = st.traps;
        }

    with_sites : (x y : AsyncSite) → Stands c (with_site x n) (with_site y m)
    with_sites x y =
        record {
          count = st.count;
          same_count = st.same_count;
          places = st.places;
          floor = st.floor;
          signals = st.signals;
          sites = omega (arith, st.sites, length-append n.sites (x ∷ []), length-append m.sites (y ∷ []));
          traps = st.traps;
        }

    -- ---- declarations

    signal_same : (d : SignalDecl) (K K' : Kernel) → slice_get K.signals (length n.signals) ≡ Some d
        → slice_get K'.signals (length m.signals) ≡ Some d
        → SameSignal (table_of K) (table_of K') f (length n.signals)
    signal_same d K K' here there =
        let same : slice_get K'.signals (f (length n.signals)) ≡ slice_get K.signals (length n.signals) =
        ap (slice_get K'.signals) (sym next_signal) ∙ there ∙ sym here in
        record {
          alone = alone (length n.signals) st.floor;
          kind = ap (λ (o : Option SignalDecl). (elim o [ Some d ↦ d.kind | None ↦ kind.Pure ])) same;
          first = ap (λ (o : Option SignalDecl). (elim o [ Some d ↦ d.first | None ↦ value.Unit ])) same;
          word = ap (λ (o : Option SignalDecl). (elim o [ Some d ↦ d.combine | None ↦ None ])) same;
          position = ap (λ (o : Option SignalDecl). (elim o [ Some d ↦ d.pos | None ↦ record { 0 = 0 } ])) same;
        }

    site_same : (x y : AsyncSite) (K K' : Kernel) → y.signal ≡ option_map f x.signal
        → y.args ≡ map (expression_with f) x.args → y.body ≡ x.body
        → slice_get K.sites (length n.sites) ≡ Some x → slice_get K'.sites (length m.sites) ≡ Some y
        → K'.bodies ≡ K.bodies → SameSite (table_of K) (table_of K') f g (length n.sites)
    site_same x y K K' signal args body here there bodies =
        let to : slice_get K'.sites (g (length n.sites)) ≡ Some y =
        ap (slice_get K'.sites) (sym st.sites) ∙ there in
        let target : Option AsyncSite → Option ℕ = λ o. (elim o [ Some a ↦ a.signal | None ↦ None ]) in
        let arguments : Option AsyncSite → List Expression = λ o. (elim o [ Some a ↦ a.args | None ↦ [] ]) in
        let params : Kernel → Option AsyncSite → List Kind =
        λ K o. (elim o [ Some a ↦ body_params (slice_get K.bodies a.body) | None ↦ [] ]) in
        record {
          target = ap target to ∙ signal ∙ ap (option_map f) (sym (ap target here));
          args = ap arguments to ∙ args ∙ ap (map (expression_with f)) (sym (ap arguments here));
          params = ap (params K') to ∙ (λ i. body_params (slice_get (bodies i) (body i))) ∙ sym (ap (params K) here);
        }

  -- ---- the operations

  same : (n : Numbered) (K : Kernel) → Begins K n → Begins K n
  same n K h = h

  -- a statement that declares nothing
  leaf : (c : ℕ) (n m : Numbered) (x y : Placed) → Stands c n m → unplaced y ≡ R (unplaced x)
      → ((T T' : Table) → Declares T T' f g (unplaced x)) → Matches c n m (x, n) (y, m)
  leaf c n m x y st e d =
      record {
        statement = e;
        after = st;
        earlier = same n;
        earlier_too = same m;
        declares = λ K K' h h' b. d (table_of K) (table_of K');
      }

  -- round one part
  round : (c : ℕ) (n m : Numbered) (x y : Placed × Numbered) (u v : Placed) → Matches c n m x y
      → unplaced v ≡ R (unplaced u)
      → ((T T' : Table) → Declares T T' f g (unplaced x.0) → Declares T T' f g (unplaced u))
      → Matches c n m (u, x.1) (v, y.1)
  round c n m x y u v w e d =
      record {
        statement = e;
        after = w.after;
        earlier = w.earlier;
        earlier_too = w.earlier_too;
        declares = λ K K' h h' b. d (table_of K) (table_of K') (w.declares K K' h h' b);
      }

  -- of two parts
  pair : (c c' : ℕ) (n m : Numbered) (x y x' y' : Placed × Numbered) (u v : Placed) → Matches c n m x y
      → Matches c' x.1 y.1 x' y' → unplaced v ≡ R (unplaced u)
      → ((T T' : Table) → Declares T T' f g (unplaced x.0) → Declares T T' f g (unplaced x'.0)
      → Declares T T' f g (unplaced u)) → Matches c' n m (u, x'.1) (v, y'.1)
  pair c c' n m x y x' y' u v w z e d =
      record {
        statement = e;
        after = z.after;
        earlier = λ K h. w.earlier K (z.earlier K h);
        earlier_too = λ K h. w.earlier_too K (z.earlier_too K h);
        declares = λ K K' h h' b. d (table_of K) (table_of K')
            (w.declares K K' (z.earlier K h) (z.earlier_too K' h') b) (z.declares K K' h h' b);
      }

  bound_in : (c : ℕ) (n m : Numbered) (st : Stands c n m) (bs : List (Binding ℕ)) → bindings_name c bs ≡ true
      → (p : ℕ) → p < length bs →
      slice_index_or (map (λ (b : Binding ℕ). number_of m b.right.name) bs) p 0
      ≡ f (slice_index_or (map (λ (b : Binding ℕ). number_of n b.right.name) bs) p 0)
  bound_in c n m st [] h p lt = absurd (let no : ⊥ = omega (arith, lt) in no)
  bound_in c n m st (b ∷ bs) h zero lt =
      names c n m st b.right.name (and_both (nat_lt b.right.name c) (bindings_name c bs) h).0
  bound_in c n m st (b ∷ bs) h (suc p) lt =
      bound_in c n m st bs (and_both (nat_lt b.right.name c) (bindings_name c bs) h).1 p (omega (arith, lt))

  stands_inside : (c : ℕ) (n m : Numbered) (st : Stands c n m) (bs : List (Binding ℕ)) → bindings_name c bs ≡ true
      → Stands (length bs) (inside_run bs n) (inside_run bs m)
  stands_inside c n m st bs h =
      record {
        count = length-map bs (λ (b : Binding ℕ). number_of n b.right.name);
        same_count = length-map bs (λ (b : Binding ℕ). number_of m b.right.name);
        places = bound_in c n m st bs h;
        floor = st.floor;
        signals = st.signals;
        sites = st.sites;
        traps = refl;
      }

  stands_behind : (c c' : ℕ) (n m n' m' : Numbered) → Stands c n m → Stands c' n' m'
      → Stands c (behind_run n n') (behind_run m m')
  stands_behind c c' n m n' m' st ts =
      record {
        count = st.count;
        same_count = st.same_count;
        places = st.places;
        floor = ts.floor;
        signals = ts.signals;
        sites = ts.sites;
        traps = st.traps;
      }

  module _ (names_of : ℕ → Naming) (pieces : ℕ → Piece) (pos : Pos) where
    abbrev N : Operations Naming
    N = naming names_of pos

    abbrev P : Operations Piece
    P = numbering pieces pos

    two_alike : (here : ℕ → Bool) (node : Numbered → Placed → Placed → Placed)
        → ((c : ℕ) (n m : Numbered) (x y x' y' : Placed) → Stands c n m → here c ≡ true
        → unplaced y ≡ R (unplaced x) → unplaced y' ≡ R (unplaced x')
        → unplaced (node m y y') ≡ R (unplaced (node n x x')))
        → ((n : Numbered) (x x' : Placed) (T T' : Table) → Declares T T' f g (unplaced x)
        → Declares T T' f g (unplaced x') → Declares T T' f g (unplaced (node n x x')))
        → (r : Naming) (p : Piece) (r' : Naming) (p' : Piece) → Replaces r p → Replaces r' p'
        → Replaces (naming_two here r r') (of_two node p p')
    two_alike here node e d r p r' p' h k b c a a' n m be st t =
        let x = r b c in
        let y = r' b x.1 in
        let q = and_both (here c && x.0) y.0 t in
        let s = and_both (here c) x.0 q.0 in
        let w = h b c a a' n m be st s.1 in
        let z = k b x.1 a a' (p a n).1 (p a' m).1 be w.after q.1 in
        pair x.1 y.1 n m (p a n) (p a' m) (p' a (p a n).1) (p' a' (p a' m).1)
        (node n (p a n).0 (p' a (p a n).1).0) (node m (p a' m).0 (p' a' (p a' m).1).0) w z
        (e c n m (p a n).0 (p a' m).0 (p' a (p a n).1).0 (p' a' (p a' m).1).0 st s.0 w.statement z.statement)
        (d n (p a n).0 (p' a (p a n).1).0)

    choice_alike : (d : Expr ℕ) (r : Naming) (p : Piece) (r' : Naming) (p' : Piece) → Replaces r p → Replaces r' p'
        → Replaces (N.choice d r r') (P.choice d p p')
    choice_alike d = two_alike (λ c. expression_names c d) (λ n x y. placed.If pos (in_numbers n d) x y)
        (λ c n m x y x' y' st h e e' i. statement.If (test_in c n m st d h i) (e i) (e' i))
        (λ n x x' T T' h k. (h, k))

    seq_alike : (r : Naming) (p : Piece) (r' : Naming) (p' : Piece) → Replaces r p → Replaces r' p'
        → Replaces (N.seq r r') (P.seq p p')
    seq_alike = two_alike (λ c. true) (λ n x y. placed.Seq pos x y)
        (λ c n m x y x' y' st h e e' i. statement.Seq (e i) (e' i)) (λ n x x' T T' h k. (h, k))

    par_alike : (r : Naming) (p : Piece) (r' : Naming) (p' : Piece) → Replaces r p → Replaces r' p'
        → Replaces (N.par r r') (P.par p p')
    par_alike = two_alike (λ c. true) (λ n x y. placed.Par pos x y)
        (λ c n m x y x' y' st h e e' i. statement.Par (e i) (e' i)) (λ n x x' T T' h k. (h, k))

    suspend_alike : (d : Expr ℕ) (r : Naming) (p : Piece) → Replaces r p → Replaces (N.suspend d r) (P.suspend d p)
    suspend_alike d r p h b c a a' n m be st t =
        let q = and_both (expression_names c d) (r b c).0 t in
        let w = h b c a a' n m be st q.1 in
        round (r b c).1 n m (p a n) (p a' m) (placed.Suspend pos (in_numbers n d) (p a n).0)
        (placed.Suspend pos (in_numbers m d) (p a' m).0) w
        (λ i. statement.Suspend (test_in c n m st d q.0 i) (w.statement i)) (λ T T' k. k)

    emit_alike : (s : ℕ) (e : Option (Expr ℕ)) → Replaces (N.emit s e) (P.emit s e)
    emit_alike s e b c a a' n m be st t =
        let q = and_both (nat_lt s c) (value_names c e) t in
        leaf c n m (placed.Emit pos (number_of n s) (value_in_numbers n e))
        (placed.Emit pos (number_of m s) (value_in_numbers m e)) st
        (λ i. statement.Emit (names c n m st s q.0 i) (value_in c n m st e q.1 i)) (λ T T'. tt)

    local_alike : (d : SignalNode) (r : Naming) (p : Piece) → Replaces r p → Replaces (N.local d r) (P.local d p)
    local_alike d r p h b c a a' n m be st t =
        let D = local_signal d in
        let w = h b (c + 1) a a' (with_place D n) (with_place D m) be (with_places c n m st D) t in
        record {
          statement = λ i. statement.Local (next_signal c n m st i) (w.statement i);
          after = w.after;
          earlier = λ K k. before_place D n K (w.earlier K k);
          earlier_too = λ K k. before_place D m K (w.earlier_too K k);
          declares = λ K K' k k' bs. (
            signal_same c n m st D K K' ((w.earlier K k).signals (length n.signals) D (there n.signals D))
                ((w.earlier_too K' k').signals (length m.signals) D (there m.signals D)),
            w.declares K K' k k' bs,
          );
        }

    counter_alike : (r : Naming) (p : Piece) → Replaces r p → Replaces (N.counter r) (P.counter p)
    counter_alike r p h b c a a' n m be st t =
        let D = counter_signal pos in
        let beside : Beside true (record { traps = a.traps; counter = length n.signals })
        (record { traps = a'.traps; counter = length m.signals }) =
        record { traps = be.traps; counter = λ k. next_signal c n m st } in
        let w = h true c (record { traps = a.traps; counter = length n.signals })
        (record { traps = a'.traps; counter = length m.signals }) (with_signal D n) (with_signal D m) beside
        (with_signals c n m st D) t in
        record {
          statement = λ i. statement.Local (next_signal c n m st i) (w.statement i);
          after = w.after;
          earlier = λ K k. before_signal D n K (w.earlier K k);
          earlier_too = λ K k. before_signal D m K (w.earlier_too K k);
          declares = λ K K' k k' bs. (
            signal_same c n m st D K K' ((w.earlier K k).signals (length n.signals) D (there n.signals D))
                ((w.earlier_too K' k').signals (length m.signals) D (there m.signals D)),
            w.declares K K' k k' bs,
          );
        }

    async_alike : (d : AsyncNode ℕ) → Replaces (N.async d) (P.async d)
    async_alike d b c a a' n m be st t =
        let q = and_both (result_names c d.signal)
        (list_all (λ (x : ExprAt ℕ). expression_names c x.expr) d.args) t in
        let x = site_in_numbers n d in
        let y = site_in_numbers m d in
        record {
          statement = λ i. statement.Async (st.sites i);
          after = with_sites c n m st x y;
          earlier = before_site x n;
          earlier_too = before_site y m;
          declares = λ K K' k k' bs. site_same c n m st x y K K' (result_in c n m st d.signal q.0)
              (arguments_in c n m st d.args q.1) refl (k.sites (length n.sites) x (there n.sites x))
              (k'.sites (length m.sites) y (there m.sites y)) bs;
        }

    trapped_alike : (o : Numbered → Option ℕ) → ((n m : Numbered) → m.traps ≡ n.traps → o m ≡ o n)
        → (after : Numbered → Numbered)
        → ((c : ℕ) (n m : Numbered) → Stands c n m → Stands c (after n) (after m))
        → ((n : Numbered) (K : Kernel) → Begins K (after n) → Begins K n)
        → (r : Naming) (p : Piece) → Replaces r p
        → Replaces r (λ a n. let x = p (in_trap (o n) a) (after n) in (placed.Trap pos x.0, x.1))
    trapped_alike o e after stands begins r p h b c a a' n m be st t =
        let beside : Beside b (in_trap (o n) a) (in_trap (o m) a') =
        record { traps = λ i. e n m st.traps i ∷ be.traps i; counter = be.counter } in
        let w = h b c (in_trap (o n) a) (in_trap (o m) a') (after n) (after m) beside (stands c n m st) t in
        record {
          statement = ap (λ x. statement.Trap x) w.statement;
          after = w.after;
          earlier = λ K k. begins n K (w.earlier K k);
          earlier_too = λ K k. begins m K (w.earlier_too K k);
          declares = w.declares;
        }

    stands_in_trap : (c : ℕ) (n m : Numbered) → Stands c n m → Stands c (with_trap n) (with_trap m)
    stands_in_trap c n m st =
        record {
          count = st.count;
          same_count = st.same_count;
          places = st.places;
          floor = st.floor;
          signals = st.signals;
          sites = st.sites;
          traps = ap (λ t. t + 1) st.traps;
        }

    suspend_counted_alike : (r : Naming) (p : Piece) → Replaces r p
        → Replaces (N.suspend_counted r) (P.suspend_counted p)
    suspend_counted_alike r p h b c a a' n m be st t =
        let q = and_both b (r b c).0 t in
        let w = h b c a a' n m be st q.1 in
        round (r b c).1 n m (p a n) (p a' m)
        (placed.Suspend pos (roll-Expr ℕ (record { pos = pos; node = node.Now a.counter })) (p a n).0)
        (placed.Suspend pos (roll-Expr ℕ (record { pos = pos; node = node.Now a'.counter })) (p a' m).0) w
        (λ i. statement.Suspend ((expr-Now pos a'.counter ∙ ap (λ s. Now s) (be.counter q.0)
        ∙ ap (expression_with f) (sym (expr-Now pos a.counter))) i) (w.statement i)) (λ T T' k. k)

    run_alike : (i : ℕ) (bs : List (Binding ℕ)) → Replaces (names_of i) (pieces i)
        → Replaces (N.run i bs) (P.run i bs)
    run_alike i bs h b c a a' n m be st t =
        let q = and_both (bindings_name c bs) (names_of i false (length bs)).0 t in
        let beside : Beside false no_traps no_traps = record { traps = refl; counter = λ e. absurd (let no : ⊥ = cc in no) } in
        let w = h false (length bs) no_traps no_traps (inside_run bs n) (inside_run bs m) beside
        (stands_inside c n m st bs q.0) q.1 in
        record {
          statement = w.statement;
          after = stands_behind c (names_of i false (length bs)).1 n m (pieces i no_traps (inside_run bs n)).1
              (pieces i no_traps (inside_run bs m)).1 st w.after;
          earlier = λ K k. let j = w.earlier K (record { signals = k.signals; sites = k.sites }) in
              record { signals = j.signals; sites = j.sites };
          earlier_too = λ K k. let j = w.earlier_too K (record { signals = k.signals; sites = k.sites }) in
              record { signals = j.signals; sites = j.sites };
          declares = λ K K' k k' bodies. w.declares K K' (record { signals = k.signals; sites = k.sites })
              (record { signals = k'.signals; sites = k'.sites }) bodies;
        }

    operations : Alike Replaces N P
    operations =
        record {
          nothing = λ b c a a' n m be st t. leaf c n m (placed.Nothing pos) (placed.Nothing pos) st refl (λ T T'. tt);
          pause = λ b c a a' n m be st t. leaf c n m (placed.Pause pos) (placed.Pause pos) st refl (λ T T'. tt);
          emit = emit_alike;
          choice = λ d r p r' p' h k. choice_alike d r p r' p' h k;
          suspend = suspend_alike;
          seq = seq_alike;
          par = par_alike;
          loop = λ r p h b c a a' n m be st t. let w = h b c a a' n m be st t in
              round (r b c).1 n m (p a n) (p a' m) (placed.Loop pos (p a n).0) (placed.Loop pos (p a' m).0) w
              (ap (λ x. statement.Loop x) w.statement) (λ T T' k. k);
          local = local_alike;
          async = async_alike;
          trap = trapped_alike (λ n. None) (λ n m e. refl) (λ n. n) (λ c n m st. st) same;
          exit = λ b c a a' n m be st t. leaf c n m (placed.Exit pos 0) (placed.Exit pos 0) st refl (λ T T'. tt);
          named_trap = trapped_alike (λ n. Some n.traps) (λ n m e. ap (λ t. Some t) e) with_trap stands_in_trap
              (λ n K k. record { signals = k.signals; sites = k.sites });
          leave = λ u b c a a' n m be st t. leaf c n m (placed.Exit pos (traps_between u a.traps))
              (placed.Exit pos (traps_between u a'.traps)) st
              (ap (λ x. statement.Exit (traps_between u x)) be.traps) (λ T T'. tt);
          counter = counter_alike;
          suspend_counted = suspend_counted_alike;
          emit_counter = λ b c a a' n m be st t. leaf c n m (placed.Emit pos a.counter None)
              (placed.Emit pos a'.counter None) st (ap (λ s. statement.Emit s None) (be.counter t)) (λ T T'. tt);
        }

  -- ---- modules

  no_module_alike : Replaces nothing_named no_module
  no_module_alike b c a a' n m be st t =
      leaf c n m (placed.Nothing (record { 0 = 0 })) (placed.Nothing (record { 0 = 0 })) st refl (λ T T'. tt)

  for_all : (Q : ℕ → Type 0) → ((i : ℕ) → Q i) → (xs : List ℕ) → AllByRecursion Q xs
  for_all Q h [] = tt
  for_all Q h (x ∷ xs) = (h x, for_all Q h xs)

  module_alike : (names_of : ℕ → Naming) (pieces : ℕ → Piece) → ((i : ℕ) → Replaces (names_of i) (pieces i))
      → (o : Option (ModuleNode ℕ))
      → Replaces (body_means (naming names_of) nothing_named o) (body_means (numbering pieces) no_module o)
  module_alike names_of pieces h None = no_module_alike
  module_alike names_of pieces h (Some b) =
      let scope : InScope = record { signals = []; traps = [] } in
      let start : Declared = record { signals = 0; traps = 0 } in
      blocks_alike Replaces (naming names_of) (numbering pieces) (λ j. Replaces (names_of j) (pieces j))
      (λ pos. operations names_of pieces pos) (λ pos j bs k. run_alike names_of pieces pos j bs k) b.block scope start
      (for_all (λ j. Replaces (names_of j) (pieces j)) h (callees (block_walk b.block scope start).parts))

  pub modules_alike : (modules : List (ModuleNode ℕ)) (deep i : ℕ)
      → Replaces (of_module naming nothing_named modules deep i) (of_module numbering no_module modules deep i)
  unfolding of_module
  modules_alike modules zero i = no_module_alike
  modules_alike modules (suc deep) i =
      module_alike (of_module naming nothing_named modules deep) (of_module numbering no_module modules deep)
      (modules_alike modules deep) (slice_get modules i)

-- The operations that declare or use a signal or a trap make good statements.
use Rattle.std.proofs.Common.{◌≡◌, ℕ, suc, ◌+◌, ◌<◌, ◌≤◌, true, cond, List, [], ◌∷◌}
use Rattle.std.proofs.Common.{length, Option, Some, None, refl, sym, ap, subst, ◌∙◌, arith, length-append}
use Rattle.std.proofs.Common.{eq-eqb}
use Rattle.std.specs.Prelude.{is_some, slice_get}
use Rattle.std.specs.List.{AllByRecursion}
use Rattle.std.proofs.lemmas.List.{get_or_at}
use Rattle.hh_base.specs.declared.value.Pos.{Pos}
use Rattle.hh_base.specs.declared.value.Kind.{Kind}
use Rattle.hh_base.specs.declared.value.Kind.TheVariants as kind
use Rattle.hh_base.specs.declared.value.Dir.TheVariants as dir
use Rattle.host_expr.specs.declared.expr.Expr.{Expr, roll-Expr}
use Rattle.host_expr.specs.declared.expr.ExprNode.TheVariants as node
use Rattle.host_expr.specs.declared.expr.TheConstants.{EXPRESSION_LIMIT}
use Rattle.host_expr.specs.Expression.{Now, optional_expression}
use Rattle.host_expr.specs.Kinds.{status_kind}
use Rattle.host_expr.specs.Measures.{leaves_and_operators, signals_read}
use Rattle.host_expr.proofs.Trees.{expr-Now}
use Rattle.module_tree.specs.declared.source.SignalNode.{SignalNode}
use Rattle.module_tree.specs.Scopes.{Signal, InScope, Declared, signal_at, trap_at, with_trap}
use Rattle.module_tree.specs.Scopes.{with_signals, local_signals}
use Rattle.hh_term.specs.Kernel.{Kernel, Body}
use Rattle.hh_term.specs.Scopes.{IsInScope, optional_signals}
use Rattle.hh_term.specs.Fits.{SignalFits, HasKind, EmissionFits, kinds_of}
use Rattle.hh_term.specs.Placed.{Emit, Suspend, Trap, Exit}
use Rattle.kernel_expand.specs.Interpretation.{locals}
use Rattle.kernel_expand.specs.Numbering.{Around, Numbered, Piece, number_of, in_numbers, value_in_numbers}
use Rattle.kernel_expand.specs.Numbering.{local_signal, counter_signal, with_place, with_signal, in_trap}
use Rattle.kernel_expand.specs.Numbering.{traps_between, is_trap, numbering}
use Rattle.kernel_expand.specs.Numbering as numbers
use Rattle.kernel_expand.proofs.Replaced.{all_map, all_both, both_all}
use Rattle.kernel_expand.proofs.Standing.{HasKindAt, Kept, kept_on, Scoped, Seen, TrapStands, seen_on}
use Rattle.kernel_expand.proofs.Standing.{seen_within, trap_deeper, trap_at_stands}
use Rattle.kernel_expand.proofs.Sound.{WholeIn, alone, around}
use Rattle.kernel_expand.proofs.Good.{Inside, Plain, InTrap, InCounter, kind_there, innermost, kept_with_place}
use Rattle.kernel_expand.proofs.Good.{kept_with_signal, Good, FitsTest}
use Rattle.kernel_expand.proofs.Good.{Standing, test_fits, test_uses, in_scope, kind_of_place}

module _ (bodies : List Body) (interface : ℕ) (kinds : List Kind) (f : ℕ → Piece) (pos : Pos) where
  abbrev G : Inside → InScope → Declared → Declared → Piece → Type 0
  G = Good bodies interface kinds

  -- ---- exits and traps

  -- the exit of the trap of a row
  pub good_exit : (scope : InScope) (before : Declared) → G InTrap scope before before (numbering f pos).exit
  good_exit scope before a n ls al st =
      record {
        sound = alone bodies interface a n ls (Exit pos 0) al (λ K w. tt) (λ K w. tt);
        places = st.places;
        traps = st.traps;
      }

  pub good_exit_counted : (scope : InScope) (before : Declared)
      → G InCounter scope before before (numbering f pos).exit
  good_exit_counted scope before a n ls al st = good_exit scope before a n ls al.0 st

  pub good_leave : (c : Inside) (scope : InScope) (before : Declared) (t : ℕ)
      → is_some (trap_at scope t) ≡ true → G c scope before before ((numbering f pos).leave t)
  good_leave c scope before t e a n ls al st =
      record {
        sound = alone bodies interface a n ls (Exit pos (traps_between t a.traps))
            (trap_at_stands bodies interface kinds scope before a n ls st t e) (λ K w. tt) (λ K w. tt);
        places = st.places;
        traps = st.traps;
      }

  some_more : (l : ℕ) → 0 < suc l
  some_more l = omega arith

  deeper_in : (scope : InScope) (before : Declared) (u : Option ℕ) (a : Around) (n : Numbered) (ls : List ℕ)
      → Standing bodies interface kinds scope before a n ls
      → Standing bodies interface kinds scope before (in_trap u a) n ls
  deeper_in scope before u a n ls st =
      record {
        places = st.places;
        traps = st.traps;
        signals = st.signals;
        opened = all_map (TrapStands bodies interface kinds a) (TrapStands bodies interface kinds (in_trap u a))
            (λ t h. trap_deeper bodies interface kinds u a t h) scope.traps st.opened;
      }

  pub good_trap : (c : Inside) (scope : InScope) (before after : Declared) (p : Piece)
      → G InTrap scope before after p → G c scope before after ((numbering f pos).trap p)
  good_trap c scope before after p h a n ls al st =
      let b = in_trap None a in
      let x = p b n in
      let w = h b n ls (some_more (length a.traps)) (deeper_in scope before None a n ls st) in
      record {
        sound = around bodies interface a b n x.1 ls x.0 (Trap pos x.0) (λ e. e) (λ K wh e. e) (λ K wh e. e)
            w.sound;
        places = w.places;
        traps = w.traps;
      }

  kept_with_trap : (n : Numbered) → Kept n (numbers.with_trap n)
  kept_with_trap n = record { kinds = λ s k h. h; sites = λ i a h. h; places = λ p h. (h, refl) }

  opened_here : (m n l : ℕ) (us : List (Option ℕ)) → n ≡ m → traps_between m (Some n ∷ us) < suc l
  opened_here m n l us e =
      let here : is_trap m (Some n) ≡ true = eq-eqb n m e in
      subst (λ b. cond b 0 (suc (traps_between m us)) < suc l) (sym here) (some_more l)

  pub good_named_trap : (scope : InScope) (before after : Declared) (name : List ℕ) (p : Piece)
      → G Plain (with_trap before.traps name scope)
      (record { signals = before.signals; traps = before.traps + 1 }) after p
      → G Plain scope before after ((numbering f pos).named_trap p)
  good_named_trap scope before after name p h a n ls al st =
      let b = in_trap (Some n.traps) a in
      let m = numbers.with_trap n in
      let x = p b m in
      let d = deeper_in scope before (Some n.traps) a n ls st in
      let w = h b m ls tt (record {
        places = st.places;
        traps = ap (λ t. t + 1) st.traps;
        signals = all_map (λ (z : Signal). Seen bodies interface kinds n ls z.place)
            (λ (z : Signal). Seen bodies interface kinds m ls z.place)
            (λ z e. seen_on bodies interface kinds n m ls z.place (kept_with_trap n) e) scope.signals st.signals;
        opened = (opened_here before.traps n.traps (length a.traps) a.traps st.traps, d.opened);
      }) in
      record {
        sound = record {
          kept = kept_on n m x.1 (kept_with_trap n) w.sound.kept;
          exits = w.sound.exits;
          fits = w.sound.fits;
          uses = w.sound.uses;
          sites = w.sound.sites;
          signals = w.sound.signals;
        };
        places = w.places;
        traps = w.traps;
      }

  -- ---- emissions

  abbrev pub ValueFits : InScope → ℕ → Option (Expr ℕ) → Type 0
  ValueFits scope s None = slice_get kinds s ≡ Some kind.Pure
  ValueFits scope s (Some e) = (k : Kind) × (slice_get kinds s ≡ Some k) × FitsTest bodies interface kinds scope k e

  pub record FitsEmission (scope : InScope) (s : ℕ) (e : Option (Expr ℕ)) : Type 0 where
    pub seen : is_some (signal_at scope s) ≡ true
    pub value : ValueFits scope s e

  pub good_emit : (c : Inside) (scope : InScope) (before : Declared) (s : ℕ) (e : Option (Expr ℕ))
      → FitsEmission scope s e → G c scope before before ((numbering f pos).emit s e)
  good_emit c scope before s e em a n ls al st =
      record {
        sound = alone bodies interface a n ls (Emit pos (number_of n s) (value_in_numbers n e)) tt
            (λ K w. fits K w e em.value)
            (λ K w. (in_scope bodies interface kinds scope before a n ls st K w s em.seen, uses K w e em.value));
        places = st.places;
        traps = st.traps;
      }
    where
      fits : (K : Kernel) → WholeIn bodies interface n K → (e : Option (Expr ℕ)) → ValueFits scope s e
          → EmissionFits K (number_of n s) (optional_expression (value_in_numbers n e))
      fits K w None v = kind_of_place bodies interface kinds scope before a n ls st K w s em.seen ∙ v
      fits K w (Some x) v = (
        v.0,
        kind_of_place bodies interface kinds scope before a n ls st K w s em.seen ∙ v.1,
        test_fits bodies interface kinds scope before a n ls st K w v.0 x v.2,
      )

      uses : (K : Kernel) → WholeIn bodies interface n K → (e : Option (Expr ℕ)) → ValueFits scope s e
          → AllByRecursion (IsInScope K ls) (optional_signals (optional_expression (value_in_numbers n e)))
      uses K w None v = tt
      uses K w (Some x) v = test_uses bodies interface kinds scope before a n ls st K w v.0 x v.2

  -- ---- a local signal

  -- the scope with one signal more
  abbrev pub one_more : Declared → SignalNode → InScope → InScope
  one_more before d scope = record {
    signals = record { place = before.signals; dir = dir.Local; signal = d } ∷ scope.signals;
    traps = scope.traps;
  }

  abbrev pub next : Declared → Declared
  next before = record { signals = before.signals + 1; traps = before.traps }

  pub good_local : (scope : InScope) (before after : Declared) (d : SignalNode) (p : Piece)
      → slice_get kinds before.signals ≡ Some d.kind → SignalFits (local_signal d)
      → G Plain (one_more before d scope) (next before) after p
      → G Plain scope before after ((numbering f pos).local d p)
  good_local scope before after d p k fits h a n ls al st =
      let s = length n.signals in
      let m = with_place (local_signal d) n in
      let x = p a m in
      let kept = kept_with_place (local_signal d) n in
      let many : length m.places ≡ before.signals + 1 = length-append n.places (s ∷ [])
      ∙ ap (λ z. z + 1) st.places in
      let numbered : number_of m before.signals ≡ s = get_or_at n.places s [] 0 before.signals st.places in
      let new : Seen bodies interface kinds m (s ∷ ls) before.signals = record {
        kind = d.kind;
        numbered = (let le : before.signals < length m.places = omega (arith, many) in le);
        scoped = subst (Scoped bodies interface (s ∷ ls)) (sym numbered) (innermost bodies interface s ls);
        has_kind = subst (λ z. HasKindAt m z d.kind) (sym numbered) (kind_there n.signals (local_signal d));
        of_module = k;
      } in
      let w = h a m (s ∷ ls) tt (record {
        places = many;
        traps = st.traps;
        signals = (
          new,
          all_map (λ (z : Signal). Seen bodies interface kinds n ls z.place)
              (λ (z : Signal). Seen bodies interface kinds m (s ∷ ls) z.place)
              (λ z e. seen_within bodies interface kinds m ls z.place s
              (seen_on bodies interface kinds n m ls z.place kept e)) scope.signals st.signals,
        );
        opened = st.opened;
      }) in
      record {
        sound = record {
          kept = kept_on n m x.1 kept w.sound.kept;
          exits = w.sound.exits;
          fits = w.sound.fits;
          uses = w.sound.uses;
          sites = w.sound.sites;
          signals = λ e. w.sound.signals (all_both SignalFits n.signals (local_signal d ∷ []) e (fits, tt));
        };
        places = w.places;
        traps = w.traps;
      }

  -- the signals of a list, the first outermost
  pub good_locals : (scope : InScope) (before after : Declared) (ds : List SignalNode) (p : Piece)
      → ((i : ℕ) (d : SignalNode) → slice_get ds i ≡ Some d
      → slice_get kinds (before.signals + i) ≡ Some d.kind)
      → AllByRecursion (λ (d : SignalNode). SignalFits (local_signal d)) ds
      → G Plain (with_signals before.signals ds scope)
      (record { signals = before.signals + length ds; traps = before.traps }) after p
      → G Plain scope before after (locals (numbering f pos) ds p)
  good_locals scope before after [] p k fits h =
      let same : before.signals + 0 ≡ before.signals = omega arith in
      subst (λ z. G Plain scope (record { signals = z; traps = before.traps }) after p) same h
  good_locals scope before after (d ∷ ds) p k fits h =
      let inner = one_more before d scope in
      let here : before.signals + 0 ≡ before.signals = omega arith in
      let many : (before.signals + 1) + length ds ≡ before.signals + suc (length ds) = omega arith in
      good_local scope before after d (locals (numbering f pos) ds p)
      (subst (λ z. slice_get kinds z ≡ Some d.kind) here (k 0 d refl)) fits.0
      (good_locals inner (next before) after ds p
      (λ i e is. let at : before.signals + suc i ≡ (before.signals + 1) + i = omega arith in
      subst (λ z. slice_get kinds z ≡ Some e.kind) at (k (suc i) e is)) fits.1
      (λ a n ls al st. h a n ls al (turned a n ls (subst (λ z. Standing bodies interface kinds
      (with_signals (before.signals + 1) ds inner) (record { signals = z; traps = before.traps }) a n ls)
      many st))))
    where
      turned : (a : Around) (n : Numbered) (ls : List ℕ)
          → Standing bodies interface kinds (with_signals (before.signals + 1) ds (one_more before d scope))
          (record { signals = before.signals + suc (length ds); traps = before.traps }) a n ls
          → Standing bodies interface kinds (with_signals before.signals (d ∷ ds) scope)
          (record { signals = before.signals + suc (length ds); traps = before.traps }) a n ls
      turned a n ls st =
          let P : Signal → Type 0 = λ (z : Signal). Seen bodies interface kinds n ls z.place in
          let new = local_signals (before.signals + 1) ds in
          let q = both_all P new (one_more before d scope).signals st.signals in
          record {
            places = st.places;
            traps = st.traps;
            signals = (q.1.0, all_both P new scope.signals q.0 q.1.1);
            opened = st.opened;
          }

  -- ---- the counter of a counted abort

  pub counter_fits : SignalFits (counter_signal pos)
  counter_fits = record { first = refl; combine = tt; named = refl }

  pub good_counter : (scope : InScope) (before after : Declared) (p : Piece)
      → G InCounter scope before after p → G InTrap scope before after ((numbering f pos).counter p)
  good_counter scope before after p h a n ls al st =
      let s = length n.signals in
      let b : Around = record { traps = a.traps; counter = s } in
      let m = with_signal (counter_signal pos) n in
      let x = p b m in
      let kept = kept_with_signal (counter_signal pos) n in
      let w = h b m (s ∷ ls) (al, innermost bodies interface s ls, kind_there n.signals (counter_signal pos))
      (record {
        places = st.places;
        traps = st.traps;
        signals = all_map (λ (z : Signal). Seen bodies interface kinds n ls z.place)
            (λ (z : Signal). Seen bodies interface kinds m (s ∷ ls) z.place)
            (λ z e. seen_within bodies interface kinds m ls z.place s
            (seen_on bodies interface kinds n m ls z.place kept e)) scope.signals st.signals;
        opened = st.opened;
      }) in
      record {
        sound = record {
          kept = kept_on n m x.1 kept w.sound.kept;
          exits = w.sound.exits;
          fits = w.sound.fits;
          uses = w.sound.uses;
          sites = w.sound.sites;
          signals = λ e. w.sound.signals (all_both SignalFits n.signals (counter_signal pos ∷ []) e
              (counter_fits, tt));
        };
        places = w.places;
        traps = w.traps;
      }

  scoped_in : (n : Numbered) (K : Kernel) (ls : List ℕ) (s : ℕ) → WholeIn bodies interface n K
      → Scoped bodies interface ls s → IsInScope K ls s
  scoped_in n K ls s w h = subst (λ i. IsInScope (record {
    signals = K.signals;
    interface = i;
    bodies = K.bodies;
    sites = K.sites;
    statement = K.statement;
  }) ls s) (sym w.interface_is) h

  small_now : (s : ℕ) → leaves_and_operators (Now s) ≤ EXPRESSION_LIMIT
  small_now s = omega arith

  pub good_suspend_counted : (scope : InScope) (before after : Declared) (p : Piece)
      → G InCounter scope before after p → G InCounter scope before after ((numbering f pos).suspend_counted p)
  good_suspend_counted scope before after p h a n ls al st =
      let x = p a n in
      let w = h a n ls al st in
      let test = roll-Expr ℕ (record { pos = pos; node = node.Now a.counter }) in
      record {
        sound = around bodies interface a a n x.1 ls x.0 (Suspend pos test x.0) (λ e. e)
            (λ K wh e. (
              subst (HasKind (kinds_of K) [] kind.Bool) (sym (expr-Now pos a.counter)) (record {
                kind = ap status_kind (wh.kinds a.counter kind.Pure (w.sound.kept.kinds a.counter kind.Pure al.2));
                small = small_now a.counter;
              }),
              e,
            ))
            (λ K wh e. (
              subst (λ z. AllByRecursion (IsInScope K ls) (signals_read z))
                  (sym (expr-Now pos a.counter)) (scoped_in x.1 K ls a.counter wh al.1, tt),
              e,
            )) w.sound;
        places = w.places;
        traps = w.traps;
      }

  pub good_emit_counter : (scope : InScope) (before : Declared)
      → G InCounter scope before before (numbering f pos).emit_counter
  good_emit_counter scope before a n ls al st =
      record {
        sound = alone bodies interface a n ls (Emit pos a.counter None) tt
            (λ K w. w.kinds a.counter kind.Pure al.2) (λ K w. (scoped_in n K ls a.counter w al.1, tt));
        places = st.places;
        traps = st.traps;
      }

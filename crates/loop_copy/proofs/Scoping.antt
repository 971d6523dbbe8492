-- In the copy of a statement kinds fit, signals are in scope, and what a node counts is the same.
use Rattle.std.proofs.Common.{◌≡◌, ℕ, suc, ◌+◌, ◌*◌, ◌≤◌, Bool, true, false, cond, eqb, List, [], ◌∷◌, ◌++◌, length, map}
use Rattle.std.proofs.Common.{refl, sym, ap, subst, ◌∙◌, arith, length-append, eqb-true, eq-eqb, Option, Some, None}
use Rattle.std.specs.Prelude.{◌||◌, ◌==◌, nat_lt, slice_get, IsTrue, option_map, option_to_list, flat_map}
use Rattle.std.specs.List.{AllByRecursion, list_any}
use Rattle.std.proofs.lemmas.List.{map-append}
use Rattle.hh_base.specs.declared.value.Kind.{Kind}
use Rattle.hh_base.specs.declared.value.Kind.TheVariants as kind
use Rattle.hh_base.specs.declared.value.Value.TheVariants as value
use Rattle.hh_term.specs.declared.program.SignalDecl.{SignalDecl}
use Rattle.host_expr.specs.declared.expr.TheConstants.{EXPRESSION_LIMIT}
use Rattle.host_expr.specs.Expression.{Expression}
use Rattle.host_expr.specs.Measures.{signals_read}
use Rattle.hh_term.specs.Statement.{Statement, Nothing, Pause, Emit, If, Suspend, Seq, Par, Loop, Trap}
use Rattle.hh_term.specs.Statement.{Exit, Local, Async}
use Rattle.hh_term.specs.Kernel.{Kernel, AsyncSite, Body}
use Rattle.hh_term.specs.Sizes.{size_of, copied_size_of, size_of_optional, size_of_site, value_blocks, handler_blocks}
use Rattle.hh_term.specs.Scopes.{IsInScope, UsesInScope, optional_signals, signal_list}
use Rattle.hh_term.specs.Fits.{StatementFits, HasKind, kinds_of, EmissionFits, SiteFits, SiteFitsBody, ArgumentsFit, ResultFits}
use Rattle.loop_copy.specs.Renaming.{renamed, renamed_site}
use Rattle.loop_copy.specs.Copies.{copy, copied_sites, copied_locals, copied_asyncs, local_count, async_count, items_at, with_number}
use Rattle.loop_copy.specs.Within.{LiesWithin}
use Rattle.loop_copy.proofs.Lists.{both_all, all_both, all_map, all_at, got, got_map, Holds, holds_both}
use Rattle.loop_copy.proofs.Renamed.{reads, same_leaves, same_kind, all_of_map, same_size, same_sizes, all_read}
use Rattle.loop_copy.proofs.Copying.{items_append}

true_or : (a b : Bool) → b ≡ true → IsTrue (a || b)
true_or true b e = refl
true_or false b e = e

-- ---- as many declarations as are copied

module _ (K : Kernel) where
  more_two : (p q : Statement) → length (items_at K.signals (copied_locals p)) ≡ local_count p
      → length (items_at K.signals (copied_locals q)) ≡ local_count q
      → length (items_at K.signals (copied_locals p ++ copied_locals q)) ≡ length (copied_locals p ++ copied_locals q)
  more_two p q e f =
      ap length (items_append K.signals (copied_locals p) (copied_locals q))
      ∙ length-append (items_at K.signals (copied_locals p)) (items_at K.signals (copied_locals q))
      ∙ (λ i. e i + f i) ∙ sym (length-append (copied_locals p) (copied_locals q))

  pub more_signals : (p : Statement) → LiesWithin (length K.signals) (length K.sites) p
      → length (items_at K.signals (copied_locals p)) ≡ local_count p
  more_signals Nothing w = refl
  more_signals Pause w = refl
  more_signals (Emit s e) w = refl
  more_signals (If e p q) w = more_two p q (more_signals p w.0) (more_signals q w.1)
  more_signals (Suspend e p) w = more_signals p w
  more_signals (Seq p q) w = more_two p q (more_signals p w.0) (more_signals q w.1)
  more_signals (Par p q) w = more_two p q (more_signals p w.0) (more_signals q w.1)
  more_signals (Loop p) w = more_two p p (more_signals p w) (more_signals p w)
  more_signals (Trap p) w = more_signals p w
  more_signals (Exit k) w = refl
  more_signals (Local s p) w =
      let d = got K.signals s w.0 in
      ap (λ o. length (option_to_list o ++ items_at K.signals (copied_locals p))) d.1
      ∙ ap suc (more_signals p w.1)
  more_signals (Async a) w = refl

  two_sites : (f : ℕ → ℕ) (n : ℕ) (p q : Statement) → length (copied_sites K.sites f n p) ≡ async_count p
      → length (copied_sites K.sites f (n + local_count p) q) ≡ async_count q
      → length (copied_sites K.sites f n p ++ copied_sites K.sites f (n + local_count p) q) ≡ length (copied_asyncs p ++ copied_asyncs q)
  two_sites f n p q e g =
      length-append (copied_sites K.sites f n p) (copied_sites K.sites f (n + local_count p) q)
      ∙ (λ i. e i + g i) ∙ sym (length-append (copied_asyncs p) (copied_asyncs q))

  pub more_sites : (f : ℕ → ℕ) (n : ℕ) (p : Statement) → LiesWithin (length K.signals) (length K.sites) p
      → length (copied_sites K.sites f n p) ≡ async_count p
  more_sites f n Nothing w = refl
  more_sites f n Pause w = refl
  more_sites f n (Emit s e) w = refl
  more_sites f n (If e p q) w = two_sites f n p q (more_sites f n p w.0) (more_sites f (n + local_count p) q w.1)
  more_sites f n (Suspend e p) w = more_sites f n p w
  more_sites f n (Seq p q) w = two_sites f n p q (more_sites f n p w.0) (more_sites f (n + local_count p) q w.1)
  more_sites f n (Par p q) w = two_sites f n p q (more_sites f n p w.0) (more_sites f (n + local_count p) q w.1)
  more_sites f n (Loop p) w = two_sites f n p p (more_sites f n p w) (more_sites f (n + local_count p) p w)
  more_sites f n (Trap p) w = more_sites f n p w
  more_sites f n (Exit k) w = refl
  more_sites f n (Local s p) w = more_sites (with_number s n f) (suc n) p w.1
  more_sites f n (Async a) w = let s = got K.sites a w in ap (λ o. length (map (renamed_site f) (option_to_list o))) s.1

module _ (K C : Kernel) (same_interface : C.interface ≡ K.interface) (same_bodies : C.bodies ≡ K.bodies) where
  -- each signal in scope has a number that is in scope in the copy, and its kind
  abbrev pub Scoped : (ℕ → ℕ) → List ℕ → List ℕ → Type 0
  Scoped f ls us = (t : ℕ) → IsInScope K ls t → IsInScope C us (f t) × (slice_get (kinds_of C) (f t) ≡ slice_get (kinds_of K) t)

  scope_on : (a b c : Bool) → IsTrue (a || c) → IsTrue (a || (b || c))
  scope_on true b c h = refl
  scope_on false true c h = refl
  scope_on false false c h = h

  scope_off : (a b c : Bool) → b ≡ false → IsTrue (a || (b || c)) → IsTrue (a || c)
  scope_off true b c e h = refl
  scope_off false false c e h = h
  scope_off false true c e h = absurd (let no : ⊥ = cc in no)

  pub kinds_same : (n s : ℕ) → slice_get C.signals n ≡ slice_get K.signals s → slice_get (kinds_of C) n ≡ slice_get (kinds_of K) s
  kinds_same n s e =
      got_map (λ (d : SignalDecl). d.kind) C.signals n ∙ ap (option_map (λ (d : SignalDecl). d.kind)) e
      ∙ sym (got_map (λ (d : SignalDecl). d.kind) K.signals s)

  pub scoped_local : (f : ℕ → ℕ) (ls us : List ℕ) (s n : ℕ) → Scoped f ls us → slice_get C.signals n ≡ slice_get K.signals s
      → Scoped (with_number s n f) (s ∷ ls) (n ∷ us)
  scoped_local f ls us s n h e t in_scope = by_name (eqb t s) refl
    where
      by_name : (b : Bool) → eqb t s ≡ b → IsInScope C (n ∷ us) (cond b n (f t))
          × (slice_get (kinds_of C) (cond b n (f t)) ≡ slice_get (kinds_of K) t)
      by_name true x = (
        true_or (nat_lt n C.interface) (list_any (λ u. u == n) (n ∷ us))
            (ap (λ b. b || list_any (λ u. u == n) us) (eq-eqb n n refl)),
        kinds_same n s e ∙ ap (slice_get (kinds_of K)) (sym (eqb-true t s x)),
      )
      by_name false x =
          let other : (s == t) ≡ false = differs (s == t) refl in
          let q = h t (scope_off (nat_lt t K.interface) (s == t) (list_any (λ u. u == t) ls) other in_scope) in
          (scope_on (nat_lt (f t) C.interface) (n == f t) (list_any (λ u. u == f t) us) q.0, q.1)
        where
          differs : (b : Bool) → (s == t) ≡ b → b ≡ false
          differs false y = refl
          differs true y = absurd (let yes : eqb t s ≡ true = eq-eqb t s (sym (eqb-true s t y)) in let no : ⊥ = cc in no)

  -- ---- expressions

  module _ (f : ℕ → ℕ) (ls us : List ℕ) (h : Scoped f ls us) where
    kind_kept : (k : Kind) (e : Expression) → AllByRecursion (IsInScope K ls) (signals_read e) → HasKind (kinds_of K) [] k e
        → HasKind (kinds_of C) [] k (renamed f e)
    kind_kept k e u x =
        record {
          kind = same_kind f (kinds_of K) (kinds_of C) [] e
              (all_map (IsInScope K ls) (λ t. slice_get (kinds_of C) (f t) ≡ slice_get (kinds_of K) t) (λ t i. (h t i).1)
              (signals_read e) u) ∙ x.kind;
          small = subst (λ l. l ≤ EXPRESSION_LIMIT) (sym (same_leaves f e)) x.small;
        }

    all_scoped : (ts : List ℕ) → AllByRecursion (IsInScope K ls) ts → AllByRecursion (IsInScope C us) (map f ts)
    all_scoped ts u = all_of_map f (IsInScope C us) ts (all_map (IsInScope K ls) (λ t. IsInScope C us (f t)) (λ t i. (h t i).0) ts u)

    reads_scoped : (e : Expression) → AllByRecursion (IsInScope K ls) (signals_read e)
        → AllByRecursion (IsInScope C us) (signals_read (renamed f e))
    reads_scoped e u = subst (AllByRecursion (IsInScope C us)) (sym (reads f e)) (all_scoped (signals_read e) u)

    emission_fits : (s : ℕ) (e : Option Expression) → IsInScope K ls s → AllByRecursion (IsInScope K ls) (optional_signals e)
        → EmissionFits K s e → EmissionFits C (f s) (option_map (renamed f) e)
    emission_fits s None i u x = (h s i).1 ∙ x
    emission_fits s (Some e) i u x = (x.0, (h s i).1 ∙ x.1, kind_kept x.0 e u x.2)

    emission_scoped : (e : Option Expression) → AllByRecursion (IsInScope K ls) (optional_signals e)
        → AllByRecursion (IsInScope C us) (optional_signals (option_map (renamed f) e))
    emission_scoped None u = tt
    emission_scoped (Some e) u = reads_scoped e u

    arguments_fit : (ks : List Kind) (es : List Expression) → AllByRecursion (IsInScope K ls) (flat_map signals_read es)
        → ArgumentsFit K ks es → ArgumentsFit C ks (map (renamed f) es)
    arguments_fit [] [] u x = tt
    arguments_fit (k ∷ ks) (e ∷ es) u x =
        let q = both_all (IsInScope K ls) (signals_read e) (flat_map signals_read es) u in
        (kind_kept k e q.0 x.0, arguments_fit ks es q.1 x.1)
    arguments_fit [] (e ∷ es) u x = absurd x
    arguments_fit (k ∷ ks) [] u x = absurd x

    result_fits : (k : Kind) (o : Option ℕ) → AllByRecursion (IsInScope K ls) (signal_list o) → ResultFits K k o
        → ResultFits C k (option_map f o)
    result_fits k None u x = tt
    result_fits k (Some s) u x = (h s u.0).1 ∙ x

    site_fits : (a : AsyncSite) → AllByRecursion (IsInScope K ls) (signal_list a.signal ++ flat_map signals_read a.args)
        → SiteFits K a → SiteFits C (renamed_site f a)
    site_fits a u x = subst (λ bs. SiteFitsBody C (renamed_site f a) (slice_get bs a.body)) (sym same_bodies)
        (by_body (slice_get K.bodies a.body) x)
      where
        q : AllByRecursion (IsInScope K ls) (signal_list a.signal) × AllByRecursion (IsInScope K ls) (flat_map signals_read a.args)
        q = both_all (IsInScope K ls) (signal_list a.signal) (flat_map signals_read a.args) u

        by_body : (b : Option Body) → SiteFitsBody K a b → SiteFitsBody C (renamed_site f a) b
        by_body None x = absurd x
        by_body (Some b) x = (arguments_fit b.params a.args q.1 x.0, result_fits b.answer a.signal q.0 x.1)

  signals_renamed : (f : ℕ → ℕ) (o : Option ℕ) → signal_list (option_map f o) ≡ map f (signal_list o)
  signals_renamed f None = refl
  signals_renamed f (Some s) = refl

  -- what the signals of a site are, by the site
  abbrev signals_of : Option AsyncSite → List ℕ
  signals_of o = signal_list (elim o [ Some a ↦ a.signal | None ↦ None ]) ++ flat_map signals_read (elim o [ Some a ↦ a.args | None ↦ [] ])

  site_renamed : (f : ℕ → ℕ) (a : AsyncSite) → signals_of (Some (renamed_site f a)) ≡ map f (signals_of (Some a))
  site_renamed f a = (λ i. signals_renamed f a.signal i ++ all_read f a.args i)
      ∙ sym (map-append f (signal_list a.signal) (flat_map signals_read a.args))

  optional_size : (f : ℕ → ℕ) (e : Option Expression) → size_of_optional (option_map (renamed f) e) ≡ size_of_optional e
  optional_size f None = refl
  optional_size f (Some e) = same_size f e

  site_size : (f : ℕ → ℕ) (a : AsyncSite) → size_of_site (Some (renamed_site f a)) ≡ size_of_site (Some a)
  site_size f a = ap (λ n. n + handler_blocks a.kill + handler_blocks a.suspend + handler_blocks a.resume) (same_sizes f a.args)

  -- ---- statements

  -- what is asked of a statement and of what its copy declares
  pub record Here (f : ℕ → ℕ) (n m : ℕ) (ls us : List ℕ) (p : Statement) : Type 0 where
    pub scoped : Scoped f ls us
    pub signals : Holds C.signals n (items_at K.signals (copied_locals p))
    pub sites : Holds C.sites m (copied_sites K.sites f n p)
    pub within : LiesWithin (length K.signals) (length K.sites) p
    pub uses : UsesInScope K ls p
    pub fits : StatementFits K p

  pub record Sound (f : ℕ → ℕ) (n m : ℕ) (us : List ℕ) (p : Statement) : Type 0 where
    pub fits : StatementFits C (copy f n m p)
    pub uses : UsesInScope C us (copy f n m p)
    pub size : size_of C (copy f n m p) ≡ copied_size_of K p
    pub sites : AllByRecursion (SiteFits C) (copied_sites K.sites f n p)

  -- the two parts of a statement
  abbrev pub First : (ℕ → ℕ) → ℕ → ℕ → Statement → Type 0
  First f n m p = Holds C.signals n (items_at K.signals (copied_locals p)) × Holds C.sites m (copied_sites K.sites f n p)

  pub parts : (f : ℕ → ℕ) (n m : ℕ) (p q : Statement) → Holds C.signals n (items_at K.signals (copied_locals p ++ copied_locals q))
      → Holds C.sites m (copied_sites K.sites f n p ++ copied_sites K.sites f (n + local_count p) q)
      → LiesWithin (length K.signals) (length K.sites) p
      → First f n m p × First f (n + local_count p) (m + async_count p) q
  parts f n m p q x y w =
      let a = holds_both C.signals n (items_at K.signals (copied_locals p)) (items_at K.signals (copied_locals q))
      (subst (Holds C.signals n) (items_append K.signals (copied_locals p) (copied_locals q)) x) in
      let b = holds_both C.sites m (copied_sites K.sites f n p) (copied_sites K.sites f (n + local_count p) q) y in
      let rest : Holds C.signals (n + local_count p) (items_at K.signals (copied_locals q))
      = subst (λ k. Holds C.signals (n + k) (items_at K.signals (copied_locals q))) (more_signals K p w) a.1 in
      let more : Holds C.sites (m + async_count p) (copied_sites K.sites f (n + local_count p) q)
      = subst (λ k. Holds C.sites (m + k) (copied_sites K.sites f (n + local_count p) q)) (more_sites K f n p w) b.1 in
      ((a.0, b.0), (rest, more))

  abbrev sites_both : (f : ℕ → ℕ) (n : ℕ) (p q : Statement) → AllByRecursion (SiteFits C) (copied_sites K.sites f n p)
      → AllByRecursion (SiteFits C) (copied_sites K.sites f (n + local_count p) q)
      → AllByRecursion (SiteFits C) (copied_sites K.sites f n p ++ copied_sites K.sites f (n + local_count p) q)
  sites_both f n p q = all_both (SiteFits C) (copied_sites K.sites f n p) (copied_sites K.sites f (n + local_count p) q)

  module _ (all_sites : AllByRecursion (SiteFits K) K.sites) where
    sound_async : (f : ℕ → ℕ) (n m : ℕ) (ls us : List ℕ) (a : ℕ) → Here f n m ls us (Async a) → Sound f n m us (Async a)
    sound_async f n m ls us a h =
        let t = got K.sites a h.within in
        let here : slice_get C.sites m ≡ Some (renamed_site f t.0)
        = (subst (λ o. Holds C.sites m (map (renamed_site f) (option_to_list o))) t.1 h.sites).0 in
        let uses : AllByRecursion (IsInScope K ls) (signals_of (Some t.0))
        = subst (λ o. AllByRecursion (IsInScope K ls) (signals_of o)) t.1 h.uses in
        record {
          fits = tt;
          uses = subst (λ o. AllByRecursion (IsInScope C us) (signals_of o)) (sym here)
              (subst (AllByRecursion (IsInScope C us)) (sym (site_renamed f t.0)) (all_scoped f ls us h.scoped (signals_of (Some t.0)) uses));
          size = ap (λ o. 1 + size_of_site o) here ∙ ap (λ s. 1 + s) (site_size f t.0) ∙ ap (λ o. 1 + size_of_site o) (sym t.1);
          sites = subst (λ o. AllByRecursion (SiteFits C) (map (renamed_site f) (option_to_list o))) (sym t.1)
              (site_fits f ls us h.scoped t.0 uses (all_at (SiteFits K) K.sites a t.0 all_sites t.1), tt);
        }

    abbrev first_of : Option SignalDecl → ℕ
    first_of o = value_blocks (elim o [ Some d ↦ d.first | None ↦ value.Unit ])

    pub sound : (f : ℕ → ℕ) (n m : ℕ) (ls us : List ℕ) (p : Statement) → Here f n m ls us p → Sound f n m us p
    sound f n m ls us Nothing h = record { fits = tt; uses = tt; size = refl; sites = tt }
    sound f n m ls us Pause h = record { fits = tt; uses = tt; size = refl; sites = tt }
    sound f n m ls us (Emit s e) h =
        record {
          fits = emission_fits f ls us h.scoped s e h.uses.0 h.uses.1 h.fits;
          uses = ((h.scoped s h.uses.0).0, emission_scoped f ls us h.scoped e h.uses.1);
          size = ap (λ k. 1 + k) (optional_size f e);
          sites = tt;
        }
    sound f n m ls us (If e p q) h =
        let d = parts f n m p q h.signals h.sites h.within.0 in
        let x = sound f n m ls us p (record { scoped = h.scoped; signals = d.0.0; sites = d.0.1; within = h.within.0; uses = h.uses.1; fits = h.fits.1 }) in
        let y = sound f (n + local_count p) (m + async_count p) ls us q (record { scoped = h.scoped; signals = d.1.0; sites = d.1.1; within = h.within.1; uses = h.uses.2; fits = h.fits.2 }) in
        record {
          fits = (kind_kept f ls us h.scoped kind.Bool e h.uses.0 h.fits.0, x.fits, y.fits);
          uses = (reads_scoped f ls us h.scoped e h.uses.0, x.uses, y.uses);
          size = λ i. 1 + same_size f e i + x.size i + y.size i;
          sites = sites_both f n p q x.sites y.sites;
        }
    sound f n m ls us (Suspend e p) h =
        let x = sound f n m ls us p (record { scoped = h.scoped; signals = h.signals; sites = h.sites; within = h.within; uses = h.uses.1; fits = h.fits.1 }) in
        record {
          fits = (kind_kept f ls us h.scoped kind.Bool e h.uses.0 h.fits.0, x.fits);
          uses = (reads_scoped f ls us h.scoped e h.uses.0, x.uses);
          size = λ i. 1 + same_size f e i + x.size i;
          sites = x.sites;
        }
    sound f n m ls us (Seq p q) h =
        let d = parts f n m p q h.signals h.sites h.within.0 in
        let x = sound f n m ls us p (record { scoped = h.scoped; signals = d.0.0; sites = d.0.1; within = h.within.0; uses = h.uses.0; fits = h.fits.0 }) in
        let y = sound f (n + local_count p) (m + async_count p) ls us q (record { scoped = h.scoped; signals = d.1.0; sites = d.1.1; within = h.within.1; uses = h.uses.1; fits = h.fits.1 }) in
        record { fits = (x.fits, y.fits); uses = (x.uses, y.uses); size = λ i. 1 + x.size i + y.size i; sites = sites_both f n p q x.sites y.sites }
    sound f n m ls us (Par p q) h =
        let d = parts f n m p q h.signals h.sites h.within.0 in
        let x = sound f n m ls us p (record { scoped = h.scoped; signals = d.0.0; sites = d.0.1; within = h.within.0; uses = h.uses.0; fits = h.fits.0 }) in
        let y = sound f (n + local_count p) (m + async_count p) ls us q (record { scoped = h.scoped; signals = d.1.0; sites = d.1.1; within = h.within.1; uses = h.uses.1; fits = h.fits.1 }) in
        record { fits = (x.fits, y.fits); uses = (x.uses, y.uses); size = λ i. 1 + x.size i + y.size i; sites = sites_both f n p q x.sites y.sites }
    sound f n m ls us (Loop p) h =
        let d = parts f n m p p h.signals h.sites h.within in
        let x = sound f n m ls us p (record { scoped = h.scoped; signals = d.0.0; sites = d.0.1; within = h.within; uses = h.uses; fits = h.fits }) in
        let y = sound f (n + local_count p) (m + async_count p) ls us p (record { scoped = h.scoped; signals = d.1.0; sites = d.1.1; within = h.within; uses = h.uses; fits = h.fits }) in
        let twice : 1 + (1 + copied_size_of K p + copied_size_of K p) ≡ 2 + 2 * copied_size_of K p = omega arith in
        record {
          fits = (x.fits, y.fits);
          uses = (x.uses, y.uses);
          size = (λ i. 1 + (1 + x.size i + y.size i)) ∙ twice;
          sites = sites_both f n p p x.sites y.sites;
        }
    sound f n m ls us (Trap p) h =
        let x = sound f n m ls us p (record { scoped = h.scoped; signals = h.signals; sites = h.sites; within = h.within; uses = h.uses; fits = h.fits }) in
        record { fits = x.fits; uses = x.uses; size = ap (λ k. 1 + k) x.size; sites = x.sites }
    sound f n m ls us (Exit k) h = record { fits = tt; uses = tt; size = refl; sites = tt }
    sound f n m ls us (Local s p) h =
        let d = got K.signals s h.within.0 in
        let these : Holds C.signals n (d.0 ∷ items_at K.signals (copied_locals p))
        = subst (λ o. Holds C.signals n (option_to_list o ++ items_at K.signals (copied_locals p))) d.1 h.signals in
        let same : slice_get C.signals n ≡ slice_get K.signals s = these.0 ∙ sym d.1 in
        let x = sound (with_number s n f) (suc n) m (s ∷ ls) (n ∷ us) p (record {
          scoped = scoped_local f ls us s n h.scoped same;
          signals = these.1;
          sites = h.sites;
          within = h.within.1;
          uses = h.uses;
          fits = h.fits;
        }) in
        record {
          fits = x.fits;
          uses = x.uses;
          size = λ i. 1 + first_of (same i) + x.size i;
          sites = x.sites;
        }
    sound f n m ls us (Async a) h = sound_async f n m ls us a h

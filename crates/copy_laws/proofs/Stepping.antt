-- The copy of a statement steps as the statement does.
use Rattle.std.proofs.Common.{◌≡◌, ℕ, zero, suc, ◌+◌, Bool, true, false, cond, eqb, Option, Some, None}
use Rattle.std.proofs.Common.{List, [], ◌∷◌, ◌++◌}
use Rattle.std.proofs.Common.{map, refl, sym, ap, subst, ◌∙◌, eqb-true}
use Rattle.std.specs.Prelude.{slice_get, slice_index_or, option_map, option_to_list, flat_map, zip}
use Rattle.std.specs.List.{AllByRecursion}
use Rattle.hh_base.specs.declared.value.Kind.{Kind}
use Rattle.hh_base.specs.declared.value.Value.{Value}
use Rattle.hh_base.specs.declared.item.Item.{Item}
use Rattle.host_expr.specs.Environment.{Env, unsolved}
use Rattle.host_expr.specs.Evaluation.{eval_of}
use Rattle.host_expr.specs.Expression.{Expression}
use Rattle.host_expr.specs.Measures.{signals_read}
use Rattle.hh_term.specs.Statement.{Statement, Nothing, Pause, Emit, If, Suspend, Seq, Par, Loop, Trap}
use Rattle.hh_term.specs.Statement.{Exit, Local, Async}
use Rattle.hh_term.specs.Selection.{Selection, AtPause, AtAsync, First, Second, Both, Inside, Scope, Start}
use Rattle.hh_term.specs.Selection.{Resume}
use Rattle.hh_term.specs.Kernel.{Kernel, AsyncSite, body_params}
use Rattle.hh_term.specs.Codes.{static_codes}
use Rattle.hh_term.specs.Scopes.{IsInScope, LoopsWait, signal_list}
use Rattle.hh_term.specs.MustCan.{Table, table_of, Executed, must_can, emitted, answer_bag, all_known}
use Rattle.hh_term.specs.Touches.{held_mark, held_touch, held_touches}
use Rattle.hh_term.specs.Step.{Stepped, completes, rests, wrap, beside, trap_step, then_start}
use Rattle.hh_term.specs.Step.{local_step}
use Rattle.hh_term.specs.Step.{start_async, async_step, resume_async, add_faults, argument_value, step}
use Rattle.hh_term.proofs.MustCanLaws.{must_can_lawful}
use Rattle.hh_term.proofs.Stepping.{step_agrees}
use Rattle.loop_copy.specs.Renaming.{renamed, renamed_site}
use Rattle.loop_copy.specs.Copies.{copy, copied_asyncs, local_count, async_count, with_number}
use Rattle.loop_copy.specs.Stands.{Stands}
use Rattle.loop_copy.proofs.Lists.{both_all, got, Holds, holds_both}
use Rattle.loop_copy.proofs.Shapes.{half_waits, loops_wait}
use Rattle.copy_laws.specs.Agreeing.{SeesTheSame, EmitsTheSame}
use Rattle.copy_laws.specs.Stepping.{BothOrNone, StepsTheSame, counted_at}
use Rattle.copy_laws.proofs.Doing.{Placed, Parts, parted, inner, target_of, test_same, emitted_same}
use Rattle.copy_laws.proofs.Doing.{waits, start, resume, first_of}
use Rattle.copy_laws.proofs.Sequences.{wrap_twice, wrap_then, then_of_wrapped, then_to_wrapped, not_followed}
use Rattle.copy_laws.proofs.Sequences.{then_no_end}
use Rattle.copy_laws.proofs.Steps.{both_map, alike_wrap, alike_test, alike_then, alike_beside, same_beside}
use Rattle.copy_laws.proofs.Steps.{same_completes}
use Rattle.copy_laws.proofs.Steps.{same_trap, alike_emit, alike_start, same_resumed, alike_local}
use Rattle.copy_laws.proofs.Steps.{counted_both}

-- ---- what waits does not end in the reaction in which it starts

does_not_end : (U : Table) (c : Statement) (F : Env) → LoopsWait c → static_codes c 0 ≡ false → (b : Stepped)
    → step U c Start F ≡ Some b → eqb b.code 0 ≡ false
does_not_end U c F w z b e = at_test (eqb b.code 0) refl
  where
    at_test : (t : Bool) → eqb b.code 0 ≡ t → t ≡ false
    at_test false i = refl
    at_test true i =
        let ends = (step_agrees U c Start F b e).code ∙ ap Some (eqb-true b.code 0 i) in
        let can : (must_can U c Start Executed F).codes 0 ≡ true =
        ((must_can_lawful U c Start).within Executed F).code 0 ends in
        let never = waits U c Executed F w z in
        absurd (let no : ⊥ = cc in no)

-- started, a doubled loop starts its first half
double_start : (U : Table) (c d : Statement) (F : Env) → LoopsWait c → static_codes c 0 ≡ false
    → step U (Loop (Seq c d)) Start F ≡ wrap (λ m. Inside (First m)) (step U c Start F)
double_start U c d F w z =
    ap (wrap Inside) (not_followed First Second (step U c Start F) (step U d Start F)
    (does_not_end U c F w z))
    ∙ wrap_twice Inside First (step U c Start F)

-- resumed in the first half, it goes on with the second
double_first : (U : Table) (c d : Statement) (x : Selection) (F : Env) → LoopsWait d
    → static_codes d 0 ≡ false
    → step U (Loop (Seq c d)) (Resume (Inside (First x))) F
    ≡ then_start (λ m. Inside (First m)) (λ m. Inside (Second m)) (step U c (Resume x) F) (step U d Start F)
double_first U c d x F w z =
    let one = step U c (Resume x) F in
    let two = step U d Start F in
    not_followed Inside Inside (then_start First Second one two) (step U (Seq c d) Start F)
    (then_no_end First Second one two (does_not_end U d F w z))
    ∙ wrap_then Inside First Second one two

-- and in the second half with the first
double_second : (U : Table) (c d : Statement) (x : Selection) (F : Env) → LoopsWait c
    → static_codes c 0 ≡ false
    → step U (Loop (Seq c d)) (Resume (Inside (Second x))) F
    ≡ then_start (λ m. Inside (Second m)) (λ m. Inside (First m)) (step U d (Resume x) F) (step U c Start F)
double_second U c d x F w z =
    let one = step U d (Resume x) F in
    let two = step U c Start F in
    ap (then_start Inside Inside (wrap Second one))
    (not_followed First Second two (step U d Start F) (does_not_end U c F w z))
    ∙ then_of_wrapped Inside Inside Second one (wrap First two)
    ∙ then_to_wrapped (λ m. Inside (Second m)) Inside First one two

index_got : (xs : List ℕ) (i x : ℕ) → slice_get xs i ≡ Some x → slice_index_or xs i 0 ≡ x
index_got [] i x e = absurd (let no : ⊥ = cc in no)
index_got (y ∷ xs) zero x e = (let same : y ≡ x = cc in same)
index_got (y ∷ xs) (suc i) x e = index_got xs i x e

held_stands : (p : Statement) (m c : Selection) → Stands p m c → Stands p (held_mark m) (held_mark c)
held_stands Pause AtPause AtPause h = h
held_stands (Async n) (AtAsync i as' q s) (AtAsync j bs r t) h = (h.0, h.1, h.2, refl)
held_stands (If e p q) (First m) (First c) h = held_stands p m c h
held_stands (If e p q) (Second m) (Second c) h = held_stands q m c h
held_stands (Suspend e p) (Inside m) (Inside c) h = held_stands p m c h
held_stands (Seq p q) (First m) (First c) h = held_stands p m c h
held_stands (Seq p q) (Second m) (Second c) h = held_stands q m c h
held_stands (Par p q) (First m) (First c) h = held_stands p m c h
held_stands (Par p q) (Second m) (Second c) h = held_stands q m c h
held_stands (Par p q) (Both m n) (Both c d) h = (held_stands p m c h.0, held_stands q n d h.1)
held_stands (Loop p) (Inside m) (Inside (First c)) h = held_stands p m c h
held_stands (Loop p) (Inside m) (Inside (Second c)) h = held_stands p m c h
held_stands (Trap p) (Inside m) (Inside c) h = held_stands p m c h
held_stands (Local s p) (Scope m b v) (Scope c b' v') h = (held_stands p m c h.0, h.1, h.2)
held_stands _ m c h = absurd h

-- ---- the sites of the copied program copy these

module _ (origins : List ℕ) where
  abbrev pub origin : ℕ → ℕ
  origin a = slice_index_or origins a 0

  halves : (p q : Statement) (m : ℕ) → Holds origins m (copied_asyncs p ++ copied_asyncs q)
      → Holds origins m (copied_asyncs p) × Holds origins (m + async_count p) (copied_asyncs q)
  halves p q m h = holds_both origins m (copied_asyncs p) (copied_asyncs q) h

  held_same : (p : Statement) (f : ℕ → ℕ) (n m : ℕ) → Holds origins m (copied_asyncs p) → (x c : Selection)
      → Stands p x c
      → map (counted_at origin) (held_touches (copy f n m p) c) ≡ held_touches p x
  held_same Pause f n m h AtPause AtPause k = refl
  held_same (Async a) f n m h (AtAsync i as' q s) (AtAsync j bs r t) k =
      (λ z. held_touch (index_got origins m a h.0 z) j ∷ []) ∙ ap (λ (y : ℕ). held_touch a y ∷ []) (sym k.0)
  held_same (If e p q) f n m h (First x) (First c) k = held_same p f n m (halves p q m h).0 x c k
  held_same (If e p q) f n m h (Second x) (Second c) k =
      held_same q f (n + local_count p) (m + async_count p) (halves p q m h).1 x c k
  held_same (Seq p q) f n m h (First x) (First c) k = held_same p f n m (halves p q m h).0 x c k
  held_same (Seq p q) f n m h (Second x) (Second c) k =
      held_same q f (n + local_count p) (m + async_count p) (halves p q m h).1 x c k
  held_same (Par p q) f n m h (First x) (First c) k = held_same p f n m (halves p q m h).0 x c k
  held_same (Par p q) f n m h (Second x) (Second c) k =
      held_same q f (n + local_count p) (m + async_count p) (halves p q m h).1 x c k
  held_same (Par p q) f n m h (Both x y) (Both c d) k =
      counted_both origin (held_touches p x) (held_touches q y) (held_touches (copy f n m p) c)
      (held_touches (copy f (n + local_count p) (m + async_count p) q) d)
      (held_same p f n m (halves p q m h).0 x c k.0)
      (held_same q f (n + local_count p) (m + async_count p) (halves p q m h).1 y d k.1)
  held_same (Loop p) f n m h (Inside x) (Inside (First c)) k = held_same p f n m (halves p p m h).0 x c k
  held_same (Loop p) f n m h (Inside x) (Inside (Second c)) k =
      held_same p f (n + local_count p) (m + async_count p) (halves p p m h).1 x c k
  held_same (Suspend e p) f n m h (Inside x) (Inside c) k = held_same p f n m h x c k
  held_same (Trap p) f n m h (Inside x) (Inside c) k = held_same p f n m h x c k
  held_same (Local s p) f n m h (Scope x b v) (Scope c b' v') k =
      held_same p (with_number s n f) (suc n) m h x c k.0
  held_same _ f n m h x c k = absurd k

module _ (K C : Kernel) (same_interface : C.interface ≡ K.interface) (same_bodies : C.bodies ≡ K.bodies)
    (origins : List ℕ) where
  abbrev T : Table
  T = table_of K

  abbrev U : Table
  U = table_of C

  -- what is asked of a statement and of what its copy declares
  pub record Here (f : ℕ → ℕ) (n m : ℕ) (ls : List ℕ) (p : Statement) : Type 0 where
    pub placed : Placed K C same_interface same_bodies f n m ls p
    pub sites : Holds origins m (copied_asyncs p)

  record Two (f : ℕ → ℕ) (n m : ℕ) (ls : List ℕ) (p q : Statement) : Type 0 where
    pub first : Here f n m ls p
    pub second : Here f (n + local_count p) (m + async_count p) ls q

  two : (f : ℕ → ℕ) (n m : ℕ) (ls : List ℕ) (p q : Statement)
      → Parts K C same_interface same_bodies f n m ls p q
      → Holds origins m (copied_asyncs p ++ copied_asyncs q) → Two f n m ls p q
  two f n m ls p q d h =
      let o = halves origins p q m h in
      record {
        first = record { placed = d.first; sites = o.0 };
        second =
            record { placed = d.second; sites = o.1 };
      }

  of_if : (f : ℕ → ℕ) (n m : ℕ) (ls : List ℕ) (e : Expression) (p q : Statement) → Here f n m ls (If e p q)
      → Two f n m ls p q
  of_if f n m ls e p q h =
      let d = h.placed in
      two f n m ls p q (parted K C same_interface same_bodies f n m ls p q d.low d.signals d.sites d.within.0
      d.within.1
      d.uses.1 d.uses.2 d.waits.0 d.waits.1) h.sites

  of_seq : (f : ℕ → ℕ) (n m : ℕ) (ls : List ℕ) (p q : Statement) → Here f n m ls (Seq p q) → Two f n m ls p q
  of_seq f n m ls p q h =
      let d = h.placed in
      two f n m ls p q (parted K C same_interface same_bodies f n m ls p q d.low d.signals d.sites d.within.0
      d.within.1
      d.uses.0 d.uses.1 d.waits.0 d.waits.1) h.sites

  of_par : (f : ℕ → ℕ) (n m : ℕ) (ls : List ℕ) (p q : Statement) → Here f n m ls (Par p q) → Two f n m ls p q
  of_par f n m ls p q h =
      let d = h.placed in
      two f n m ls p q (parted K C same_interface same_bodies f n m ls p q d.low d.signals d.sites d.within.0
      d.within.1
      d.uses.0 d.uses.1 d.waits.0 d.waits.1) h.sites

  of_loop : (f : ℕ → ℕ) (n m : ℕ) (ls : List ℕ) (p : Statement) → Here f n m ls (Loop p) → Two f n m ls p p
  of_loop f n m ls p h =
      let d = h.placed in
      two f n m ls p p (parted K C same_interface same_bodies f n m ls p p d.low d.signals d.sites d.within
      d.within
      d.uses d.uses d.waits.1 d.waits.1) h.sites

  of_suspend : (f : ℕ → ℕ) (n m : ℕ) (ls : List ℕ) (e : Expression) (p : Statement)
      → Here f n m ls (Suspend e p) → Here f n m ls p
  of_suspend f n m ls e p h =
      let d = h.placed in
      record {
        placed = record {
          low = d.low;
          signals = d.signals;
          sites = d.sites;
          within = d.within;
          uses = d.uses.1;
          waits = d.waits;
        };
        sites = h.sites;
      }

  of_trap : (f : ℕ → ℕ) (n m : ℕ) (ls : List ℕ) (p : Statement) → Here f n m ls (Trap p) → Here f n m ls p
  of_trap f n m ls p h =
      let d = h.placed in
      record {
        placed = record {
          low = d.low;
          signals = d.signals;
          sites = d.sites;
          within = d.within;
          uses = d.uses;
          waits = d.waits;
        };
        sites = h.sites;
      }

  abbrev Alike : (ℕ → ℕ) → List ℕ → Statement → Option Stepped → Option Stepped → Type 0
  Alike f ls p = BothOrNone (StepsTheSame K C f (origin origins) ls p)

  -- ---- async

  record Site (f : ℕ → ℕ) (n m : ℕ) (ls : List ℕ) (a : ℕ) : Type 0 where
    pub origin : origin origins m ≡ a
    pub args : U.args m ≡ map (renamed f) (T.args a)
    pub params : U.params m ≡ T.params a
    pub answers : (v : Value) → EmitsTheSame K f ls (answer_bag (T.target a) v) (answer_bag (U.target m) v)
    pub scoped : AllByRecursion (IsInScope K ls) (flat_map signals_read (T.args a))

  emits_answer : (f : ℕ → ℕ) (ls : List ℕ) (o : Option ℕ) (v : Value)
      → AllByRecursion (IsInScope K ls) (signal_list o)
      → EmitsTheSame K f ls (answer_bag o v) (answer_bag (option_map f o) v)
  emits_answer f ls None v h = tt
  emits_answer f ls (Some s) v h = ((h.0, refl, refl), tt)

  abbrev args_of : Option AsyncSite → List Expression
  args_of o = (elim o [ Some b ↦ b.args | None ↦ [] ])

  abbrev params_of : Kernel → Option AsyncSite → List Kind
  params_of k o = (elim o [ Some b ↦ body_params (slice_get k.bodies b.body) | None ↦ [] ])

  site : (f : ℕ → ℕ) (n m : ℕ) (ls : List ℕ) (a : ℕ) → Here f n m ls (Async a) → Site f n m ls a
  site f n m ls a h =
      let d = h.placed in
      let t = got K.sites a d.within in
      let o = target_of K C same_interface same_bodies f n m ls a d in
      let here : slice_get C.sites m ≡ Some (renamed_site f t.0)
      = (subst (λ o. Holds C.sites m (map (renamed_site f) (option_to_list o))) t.1 d.sites).0 in
      record {
        origin = index_got origins m a h.sites.0;
        args = ap args_of here ∙ ap (λ o. map (renamed f) (args_of o)) (sym t.1);
        params = ap (params_of C) here ∙ ap (λ bs. body_params (slice_get bs t.0.body)) same_bodies
            ∙ ap (params_of K) (sym t.1);
        answers = λ v. subst (λ u. EmitsTheSame K f ls (answer_bag (T.target a) v) (answer_bag u v)) (sym o.0)
            (emits_answer f ls (T.target a) v o.1);
        scoped = (both_all (IsInScope K ls) (signal_list (T.target a)) (flat_map signals_read (T.args a))
            d.uses).1;
      }

  same_args : (f : ℕ → ℕ) (ls : List ℕ) (E F : Env) → SeesTheSame K f ls E F → (es : List Expression)
      → AllByRecursion (IsInScope K ls) (flat_map signals_read es)
      → map (λ e. eval_of e F []) (map (renamed f) es) ≡ map (λ e. eval_of e E []) es
  same_args f ls E F sees [] h = refl
  same_args f ls E F sees (e ∷ es) h =
      let q = both_all (IsInScope K ls) (signals_read e) (flat_map signals_read es) h in
      λ i. test_same K C same_interface same_bodies f ls E F sees e q.0 i ∷ same_args f ls E F sees es q.1 i

  async_alike : (f : ℕ → ℕ) (n m : ℕ) (ls : List ℕ) (a : ℕ) → Here f n m ls (Async a) → (E F : Env)
      → SeesTheSame K f ls E F
      → Alike f ls (Async a) (async_step T a (map (λ e. eval_of e E []) (T.args a)))
      (async_step U m (map (λ e. eval_of e F []) (U.args m)))
  async_alike f n m ls a h E F sees =
      let s = site f n m ls a h in
      let cs = map (λ e. eval_of e E []) (T.args a) in
      let same : map (λ e. eval_of e F []) (U.args m) ≡ cs
      = ap (map (λ e. eval_of e F [])) s.args ∙ same_args f ls E F sees (T.args a) s.scoped in
      subst (λ ds. Alike f ls (Async a) (async_step T a cs) (async_step U m ds)) (sym same)
      (subst (λ ks. Alike f ls (Async a) (async_step T a cs)
      (cond (all_known cs) (Some (add_faults cs (start_async m (map argument_value (zip ks cs))))) None))
      (sym s.params)
      (alike_start K C f (origin origins) ls a m (T.params a) cs s.origin))

  resumed_alike : (f : ℕ → ℕ) (n m : ℕ) (ls : List ℕ) (a : ℕ) → Here f n m ls (Async a)
      → (id : ℕ) (args : List Value)
      (queue : List Item) → Alike f ls (Async a) (Some (resume_async T a id args queue))
      (Some (resume_async U m id args queue))
  resumed_alike f n m ls a h id args queue =
      let s = site f n m ls a h in
      same_resumed K C f (origin origins) ls T U a m s.origin s.answers id args queue

  -- ---- statements

  pub start_alike : (p : Statement) (f : ℕ → ℕ) (n m : ℕ) (ls : List ℕ) → Here f n m ls p → (E F : Env)
      → SeesTheSame K f ls E F
      → Alike f ls p (step T p Start E) (step U (copy f n m p) Start F)
  start_alike Nothing f n m ls h E F sees = same_completes K C f (origin origins) ls Nothing 0
  start_alike Pause f n m ls h E F sees =
      record { bag = tt; code = refl; next = tt; touches = refl; faults = refl; doubled = refl }
  start_alike (Emit s e) f n m ls h E F sees =
      alike_emit K C f (origin origins) ls (Emit s e) s (emitted e E) (emitted (option_map (renamed f) e) F)
      h.placed.uses.0
      (emitted_same K C same_interface same_bodies f ls E F sees e h.placed.uses.1)
  start_alike (Exit k) f n m ls h E F sees = same_completes K C f (origin origins) ls (Exit k) (k + 2)
  start_alike (Async a) f n m ls h E F sees = async_alike f n m ls a h E F sees
  start_alike (If e p q) f n m ls h E F sees =
      let d = of_if f n m ls e p q h in
      let c = copy f n m p in
      let b = copy f (n + local_count p) (m + async_count p) q in
      alike_test K C f (origin origins) ls (If e p q) (eval_of e E []) (eval_of (renamed f e) F [])
      (wrap First (step T p Start E))
      (wrap Second (step T q Start E)) (wrap First (step U c Start F)) (wrap Second (step U b Start F))
      (test_same K C same_interface same_bodies f ls E F sees e h.placed.uses.0)
      (alike_wrap K C f (origin origins) ls p (If e p q) First First (step T p Start E) (step U c Start F)
      (λ m c k. k)
      (start_alike p f n m ls d.first E F sees))
      (alike_wrap K C f (origin origins) ls q (If e p q) Second Second (step T q Start E) (step U b Start F)
      (λ m c k. k)
      (start_alike q f (n + local_count p) (m + async_count p) ls d.second E F sees))
  start_alike (Suspend e p) f n m ls h E F sees =
      alike_wrap K C f (origin origins) ls p (Suspend e p) Inside Inside (step T p Start E)
      (step U (copy f n m p) Start F) (λ m c k. k)
      (start_alike p f n m ls (of_suspend f n m ls e p h) E F sees)
  start_alike (Seq p q) f n m ls h E F sees =
      let d = of_seq f n m ls p q h in
      let c = copy f n m p in
      let b = copy f (n + local_count p) (m + async_count p) q in
      alike_then K C f (origin origins) ls p q (Seq p q) First Second First Second (step T p Start E)
      (step T q Start E) (step U c Start F)
      (step U b Start F) (λ m c k. k) (λ m c k. k) (start_alike p f n m ls d.first E F sees)
      (start_alike q f (n + local_count p) (m + async_count p) ls d.second E F sees)
  start_alike (Par p q) f n m ls h E F sees =
      let d = of_par f n m ls p q h in
      let c = copy f n m p in
      let b = copy f (n + local_count p) (m + async_count p) q in
      alike_beside K C f (origin origins) ls p q (step T p Start E) (step T q Start E) (step U c Start F)
      (step U b Start F)
      (start_alike p f n m ls d.first E F sees) (start_alike q f (n + local_count p) (m + async_count p)
      ls d.second E F sees)
  start_alike (Loop p) f n m ls h E F sees =
      let d = of_loop f n m ls p h in
      let w = h.placed.waits in
      let c = copy f n m p in
      let b = copy f (n + local_count p) (m + async_count p) p in
      subst (Alike f ls (Loop p) (wrap Inside (step T p Start E)))
      (sym (double_start U c b F (loops_wait f n m p w.1) (half_waits f n m p w.0 w.1)))
      (alike_wrap K C f (origin origins) ls p (Loop p) Inside (λ m. Inside (First m)) (step T p Start E)
      (step U c Start F) (λ m c k. k)
      (start_alike p f n m ls d.first E F sees))
  start_alike (Trap p) f n m ls h E F sees =
      both_map (StepsTheSame K C f (origin origins) ls p) (StepsTheSame K C f (origin origins) ls (Trap p))
      trap_step trap_step (step T p Start E)
      (step U (copy f n m p) Start F) (same_trap K C f (origin origins) ls p)
      (start_alike p f n m ls (of_trap f n m ls p h) E F sees)
  start_alike (Local s p) f n m ls h E F sees =
      let d = inner K C same_interface same_bodies f n m ls s p h.placed in
      let g = with_number s n f in
      let c = copy g (suc n) m p in
      subst (λ v. Alike f ls (Local s p) (step T (Local s p) Start E)
      (local_step U n (must_can U c Start Executed) (step U c Start) F (unsolved false v)))
      (ap first_of (sym d.declared))
      (alike_local K C (origin origins) f ls s n h.placed.low d.declared p (must_can T p Start Executed)
      (must_can U c Start Executed)
      (step T p Start) (step U c Start)
      (λ E F k. start K C same_interface same_bodies p g (suc n) m (s ∷ ls) d.body Executed E F k)
      (λ E F k. start_alike p g (suc n) m (s ∷ ls) (record { placed = d.body; sites = h.sites }) E F k)
      E F sees
      (unsolved false (T.first s)))

  pub resume_alike : (p : Statement) (f : ℕ → ℕ) (n m : ℕ) (ls : List ℕ) → Here f n m ls p → (x y : Selection)
      → Stands p x y
      → (E F : Env) → SeesTheSame K f ls E F
      → Alike f ls p (step T p (Resume x) E) (step U (copy f n m p) (Resume y) F)
  resume_alike Pause f n m ls h AtPause AtPause k E F sees = same_completes K C f (origin origins) ls Pause 0
  resume_alike (Async a) f n m ls h (AtAsync id args queue o) (AtAsync id' args' queue' o') k E F sees =
      subst (λ z. Alike f ls (Async a) (Some (resume_async T a id args queue)) z)
      (λ i. Some (resume_async U m (k.0 i) (k.1 i) (k.2 i))) (resumed_alike f n m ls a h id args queue)
  resume_alike (If e p q) f n m ls h (First x) (First y) k E F sees =
      alike_wrap K C f (origin origins) ls p (If e p q) First First (step T p (Resume x) E)
      (step U (copy f n m p) (Resume y) F) (λ m c k. k)
      (resume_alike p f n m ls (of_if f n m ls e p q h).first x y k E F sees)
  resume_alike (If e p q) f n m ls h (Second x) (Second y) k E F sees =
      alike_wrap K C f (origin origins) ls q (If e p q) Second Second (step T q (Resume x) E)
      (step U (copy f (n + local_count p) (m + async_count p) q) (Resume y) F)
      (λ m c k. k) (resume_alike q f (n + local_count p) (m + async_count p) ls
      (of_if f n m ls e p q h).second x y k E F sees)
  resume_alike (Suspend e p) f n m ls h (Inside x) (Inside y) k E F sees =
      let c = copy f n m p in
      alike_test K C f (origin origins) ls (Suspend e p) (eval_of e E []) (eval_of (renamed f e) F [])
      (Some (rests (Inside (held_mark x)) (held_touches p x))) (wrap Inside (step T p (Resume x) E))
      (Some (rests (Inside (held_mark y)) (held_touches c y))) (wrap Inside (step U c (Resume y) F))
      (test_same K C same_interface same_bodies f ls E F sees e h.placed.uses.0)
      (record {
        bag = tt;
        code = refl;
        next = held_stands p x y k;
        touches = held_same origins p f n m h.sites x y k;
        faults = refl;
        doubled = refl;
      })
      (alike_wrap K C f (origin origins) ls p (Suspend e p) Inside Inside (step T p (Resume x) E)
      (step U c (Resume y) F) (λ m c k. k)
      (resume_alike p f n m ls (of_suspend f n m ls e p h) x y k E F sees))
  resume_alike (Seq p q) f n m ls h (First x) (First y) k E F sees =
      let d = of_seq f n m ls p q h in
      let c = copy f n m p in
      let b = copy f (n + local_count p) (m + async_count p) q in
      alike_then K C f (origin origins) ls p q (Seq p q) First Second First Second (step T p (Resume x) E)
      (step T q Start E)
      (step U c (Resume y) F) (step U b Start F) (λ m c k. k) (λ m c k. k)
      (resume_alike p f n m ls d.first x y k E F sees)
      (start_alike q f (n + local_count p) (m + async_count p) ls d.second E F sees)
  resume_alike (Seq p q) f n m ls h (Second x) (Second y) k E F sees =
      alike_wrap K C f (origin origins) ls q (Seq p q) Second Second (step T q (Resume x) E)
      (step U (copy f (n + local_count p) (m + async_count p) q) (Resume y) F)
      (λ m c k. k) (resume_alike q f (n + local_count p) (m + async_count p) ls
      (of_seq f n m ls p q h).second x y k E F sees)
  resume_alike (Par p q) f n m ls h (First x) (First y) k E F sees =
      both_map (StepsTheSame K C f (origin origins) ls p) (StepsTheSame K C f (origin origins) ls (Par p q))
      (λ a. beside a (completes 0)) (λ a. beside a (completes 0))
      (step T p (Resume x) E) (step U (copy f n m p) (Resume y) F)
      (λ a c w. same_beside K C f (origin origins) ls p q a c (completes 0) (completes 0) w
      (same_completes K C f (origin origins) ls q 0))
      (resume_alike p f n m ls (of_par f n m ls p q h).first x y k E F sees)
  resume_alike (Par p q) f n m ls h (Second x) (Second y) k E F sees =
      both_map (StepsTheSame K C f (origin origins) ls q) (StepsTheSame K C f (origin origins) ls (Par p q))
      (λ a. beside (completes 0) a) (λ a. beside (completes 0) a)
      (step T q (Resume x) E) (step U (copy f (n + local_count p) (m + async_count p) q) (Resume y) F)
      (λ a c w. same_beside K C f (origin origins) ls p q (completes 0) (completes 0) a c
      (same_completes K C f (origin origins) ls p 0) w)
      (resume_alike q f (n + local_count p) (m + async_count p) ls
      (of_par f n m ls p q h).second x y k E F sees)
  resume_alike (Par p q) f n m ls h (Both x x') (Both y y') k E F sees =
      let d = of_par f n m ls p q h in
      alike_beside K C f (origin origins) ls p q (step T p (Resume x) E) (step T q (Resume x') E)
      (step U (copy f n m p) (Resume y) F)
      (step U (copy f (n + local_count p) (m + async_count p) q) (Resume y') F)
      (resume_alike p f n m ls d.first x y k.0 E F sees)
      (resume_alike q f (n + local_count p) (m + async_count p) ls d.second x' y' k.1 E F sees)
  resume_alike (Loop p) f n m ls h (Inside x) (Inside (First y)) k E F sees =
      let d = of_loop f n m ls p h in
      let w = h.placed.waits in
      let c = copy f n m p in
      let b = copy f (n + local_count p) (m + async_count p) p in
      subst (Alike f ls (Loop p) (then_start Inside Inside (step T p (Resume x) E) (step T p Start E)))
      (sym (double_first U c b y F (loops_wait f (n + local_count p) (m + async_count p) p w.1)
      (half_waits f (n + local_count p) (m + async_count p) p w.0 w.1)))
      (alike_then K C f (origin origins) ls p p (Loop p) Inside Inside (λ m. Inside (First m))
      (λ m. Inside (Second m)) (step T p (Resume x) E)
      (step T p Start E) (step U c (Resume y) F) (step U b Start F) (λ m c k. k) (λ m c k. k)
      (resume_alike p f n m ls d.first x y k E F sees)
      (start_alike p f (n + local_count p) (m + async_count p) ls d.second E F sees))
  resume_alike (Loop p) f n m ls h (Inside x) (Inside (Second y)) k E F sees =
      let d = of_loop f n m ls p h in
      let w = h.placed.waits in
      let c = copy f n m p in
      let b = copy f (n + local_count p) (m + async_count p) p in
      subst (Alike f ls (Loop p) (then_start Inside Inside (step T p (Resume x) E) (step T p Start E)))
      (sym (double_second U c b y F (loops_wait f n m p w.1) (half_waits f n m p w.0 w.1)))
      (alike_then K C f (origin origins) ls p p (Loop p) Inside Inside (λ m. Inside (Second m))
      (λ m. Inside (First m)) (step T p (Resume x) E)
      (step T p Start E) (step U b (Resume y) F) (step U c Start F) (λ m c k. k) (λ m c k. k)
      (resume_alike p f (n + local_count p) (m + async_count p) ls d.second x y k E F sees)
      (start_alike p f n m ls d.first E F sees))
  resume_alike (Trap p) f n m ls h (Inside x) (Inside y) k E F sees =
      both_map (StepsTheSame K C f (origin origins) ls p) (StepsTheSame K C f (origin origins) ls (Trap p))
      trap_step trap_step (step T p (Resume x) E)
      (step U (copy f n m p) (Resume y) F) (same_trap K C f (origin origins) ls p)
      (resume_alike p f n m ls (of_trap f n m ls p h) x y k E F sees)
  resume_alike (Local s p) f n m ls h (Scope x b v) (Scope y b' v') k E F sees =
      let d = inner K C same_interface same_bodies f n m ls s p h.placed in
      let g = with_number s n f in
      let c = copy g (suc n) m p in
      subst (λ z. Alike f ls (Local s p) (step T (Local s p) (Resume (Scope x b v)) E)
      (local_step U n (must_can U c (Resume y) Executed) (step U c (Resume y)) F z))
      (λ i. unsolved (k.1 i) (k.2 i))
      (alike_local K C (origin origins) f ls s n h.placed.low d.declared p (must_can T p (Resume x) Executed)
      (must_can U c (Resume y) Executed) (step T p (Resume x)) (step U c (Resume y))
      (λ E F l. resume K C same_interface same_bodies p g (suc n) m (s ∷ ls) d.body x y k.0 Executed E F l)
      (λ E F l. resume_alike p g (suc n) m (s ∷ ls) (record { placed = d.body; sites = h.sites })
      x y k.0 E F l) E F sees
      (unsolved b v))
  resume_alike _ f n m ls h x y k E F sees = absurd k

-- The copy of a statement must and can do what the statement must and can do.
use Rattle.std.proofs.Common.{◌≡◌, ℕ, zero, suc, ◌+◌, ◌<◌, Bool, true, false, cond, eqb, Option, Some, None, List, [], ◌∷◌, ◌++◌, length, map}
use Rattle.std.proofs.Common.{refl, sym, ap, subst, ◌∙◌, arith}
use Rattle.std.specs.Prelude.{◌||◌, ◌&&◌, slice_get, option_map, option_to_list, flat_map}
use Rattle.std.specs.List.{AllByRecursion}
use Rattle.std.proofs.lemmas.List.{append-nil}
use mathlib.Core.Path.{fun_ext}
use Rattle.hh_base.specs.declared.value.Value.{Value}
use Rattle.hh_base.specs.declared.value.Value.TheVariants as value
use Rattle.hh_base.specs.declared.value.Kind.{Kind}
use Rattle.hh_base.specs.declared.value.Kind.TheVariants as kind
use Rattle.hh_base.specs.declared.value.CombineWord.{CombineWord}
use Rattle.hh_base.specs.declared.item.Item.{Item}
use Rattle.hh_term.specs.declared.program.SignalDecl.{SignalDecl}
use Rattle.host_expr.specs.declared.cell.Cell.TheVariants as cell
use Rattle.host_expr.specs.Environment.{Env, unsolved}
use Rattle.host_expr.specs.Evaluation.{eval_of}
use Rattle.host_expr.specs.Expression.{Expression}
use Rattle.host_expr.specs.Measures.{signals_read}
use Rattle.hh_term.specs.Statement.{Statement, Nothing, Pause, Emit, If, Suspend, Seq, Par, Loop, Trap}
use Rattle.hh_term.specs.Statement.{Exit, Local, Async}
use Rattle.hh_term.specs.Selection.{Selection, AtPause, AtAsync, First, Second, Both, Inside, Scope, Start, Resume}
use Rattle.hh_term.specs.Kernel.{Kernel, AsyncSite}
use Rattle.hh_term.specs.Codes.{CodeSet, in_turn, static_codes}
use Rattle.hh_term.specs.Scopes.{IsInScope, UsesInScope, LoopsWait, optional_signals, signal_list}
use Rattle.hh_term.specs.MustCan.{Table, table_of, Index, Possible, MustCan, must_can, gives, is_end, go_on, sequence}
use Rattle.hh_term.specs.MustCan.{emitted, answered, answer_code, scoped}
use Rattle.hh_term.specs.Knows.{MustWithinCan, NothingSure}
use Rattle.hh_term.proofs.WithinCan.{end_known}
use Rattle.hh_term.proofs.MustCanLaws.{must_can_lawful}
use Rattle.hh_term.proofs.StaticCodes.{started_codes_are_static}
use Rattle.loop_copy.specs.Renaming.{renamed, renamed_site}
use Rattle.loop_copy.specs.Copies.{copy, copied_sites, copied_locals, local_count, async_count, items_at, with_number}
use Rattle.loop_copy.specs.Within.{LiesWithin}
use Rattle.loop_copy.specs.Stands.{Stands}
use Rattle.loop_copy.proofs.Lists.{both_all, all_map, got, Holds}
use Rattle.loop_copy.proofs.Shapes.{half_waits, loops_wait}
use Rattle.loop_copy.proofs.Scoping.{parts}
use Rattle.copy_laws.specs.Agreeing.{SeesTheSame, DoesTheSame}
use Rattle.copy_laws.proofs.Evaluating.{same_value}
use Rattle.copy_laws.proofs.Alike.{does_gives, does_chosen, does_held, does_sequence, does_parallel, does_trapped, does_scoped, outside}

-- ---- what does not end is not followed

or_nothing : (a : Bool) → (a || false) ≡ a
or_nothing true = refl
or_nothing false = refl

turn_alone : (C D : CodeSet) → C 0 ≡ false → (c : ℕ) → in_turn C D c ≡ C c
turn_alone C D z zero = ap (λ x. x && D 0) z ∙ sym z
turn_alone C D z (suc c) = ap (λ x. C (suc c) || (x && D (suc c))) z ∙ or_nothing (C (suc c))

code_alone : (m n : Option ℕ) → (m ≡ Some 0 → ⊥) → go_on m n ≡ m
code_alone None n h = refl
code_alone (Some zero) n h = absurd (h refl)
code_alone (Some (suc k)) n h = refl

not_followed : (a : MustCan) (g : Index → MustCan) → a.codes 0 ≡ false → MustWithinCan a → NothingSure (g Possible)
    → sequence a g ≡ a
not_followed a g z w q =
    let b = g (is_end a.code) in
    let none : b.must ≡ [] = ap (λ i. (g i).must) (end_known a.code a.codes w.code z) ∙ q.must in
    λ i. record {
      must = (ap (λ x. a.must ++ x) none ∙ append-nil a.must) i;
      code = code_alone a.code b.code (λ e. (let t : a.codes 0 ≡ true = w.code 0 e in let no : ⊥ = cc in no)) i;
      can = (ap (λ x. a.can ++ cond x b.can []) z ∙ append-nil a.can) i;
      codes = fun_ext (turn_alone a.codes b.codes z) i;
    }

not_true : (b : Bool) → (b ≡ true → ⊥) → b ≡ false
not_true true h = absurd (h refl)
not_true false h = refl

-- a statement that waits has not 0 among the codes with which it starts
pub waits : (U : Table) (p : Statement) (i : Index) (F : Env) → LoopsWait p → static_codes p 0 ≡ false
    → (must_can U p Start i F).codes 0 ≡ false
waits U p i F w z = not_true ((must_can U p Start i F).codes 0)
    (λ t. (let s = started_codes_are_static U p i F w 0 t in let no : ⊥ = cc in no))

no_end : (C D : CodeSet) → D 0 ≡ false → in_turn C D 0 ≡ false
no_end C D h = by_test (C 0) (D 0) h
  where
    by_test : (a b : Bool) → b ≡ false → (false || (a && b)) ≡ false
    by_test true b h = h
    by_test false b h = refl

-- two halves that wait, in a sequence, start as the first one does
starts_as_first : (U : Table) (c d : Statement) (i : Index) (F : Env) → LoopsWait c → static_codes c 0 ≡ false
    → must_can U (Seq c d) Start i F ≡ must_can U c Start i F
starts_as_first U c d i F w z =
    not_followed (must_can U c Start i F) (λ j. must_can U d Start j F) (waits U c i F w z) ((must_can_lawful U c Start).within i F)
    ((must_can_lawful U d Start).nothing F)

-- resumed in the first half, a doubled loop goes on with the second
first_half : (U : Table) (c d : Statement) (x : Selection) (i : Index) (F : Env) → LoopsWait d → static_codes d 0 ≡ false
    → must_can U (Loop (Seq c d)) (Resume (Inside (First x))) i F
    ≡ sequence (must_can U c (Resume x) i F) (λ j. must_can U d Start j F)
first_half U c d x i F w z =
    let a = must_can U c (Resume x) i F in
    let g : Index → MustCan = λ j. must_can U d Start j F in
    not_followed (sequence a g) (λ j. must_can U (Seq c d) Start j F)
    (no_end a.codes (g (is_end a.code)).codes (waits U d (is_end a.code) F w z))
    ((must_can_lawful U (Seq c d) (Resume (First x))).within i F) ((must_can_lawful U (Seq c d) Start).nothing F)

-- and in the second half with the first
second_half : (U : Table) (c d : Statement) (x : Selection) (i : Index) (F : Env) → LoopsWait c → static_codes c 0 ≡ false
    → must_can U (Loop (Seq c d)) (Resume (Inside (Second x))) i F
    ≡ sequence (must_can U d (Resume x) i F) (λ j. must_can U c Start j F)
second_half U c d x i F w z =
    ap (sequence (must_can U d (Resume x) i F)) (fun_ext (λ j. starts_as_first U c d j F w z))

-- what is declared of a signal
abbrev pub kind_of : Option SignalDecl → Kind
kind_of o = (elim o [ Some d ↦ d.kind | None ↦ kind.Pure ])

abbrev pub word_of : Option SignalDecl → Option CombineWord
word_of o = (elim o [ Some d ↦ d.combine | None ↦ None ])

abbrev pub first_of : Option SignalDecl → Value
first_of o = (elim o [ Some d ↦ d.first | None ↦ value.Unit ])

module _ (K C : Kernel) (same_interface : C.interface ≡ K.interface) (same_bodies : C.bodies ≡ K.bodies) where
  abbrev T : Table
  T = table_of K

  abbrev U : Table
  U = table_of C

  -- what is asked of a statement and of what its copy declares
  pub record Placed (f : ℕ → ℕ) (n m : ℕ) (ls : List ℕ) (p : Statement) : Type 0 where
    pub low : (t : ℕ) → IsInScope K ls t → f t < n
    pub signals : Holds C.signals n (items_at K.signals (copied_locals p))
    pub sites : Holds C.sites m (copied_sites K.sites f n p)
    pub within : LiesWithin (length K.signals) (length K.sites) p
    pub uses : UsesInScope K ls p
    pub waits : LoopsWait p

  -- the two parts of a statement
  pub record Parts (f : ℕ → ℕ) (n m : ℕ) (ls : List ℕ) (p q : Statement) : Type 0 where
    pub first : Placed f n m ls p
    pub second : Placed f (n + local_count p) (m + async_count p) ls q

  pub parted : (f : ℕ → ℕ) (n m : ℕ) (ls : List ℕ) (p q : Statement) → ((t : ℕ) → IsInScope K ls t → f t < n)
      → Holds C.signals n (items_at K.signals (copied_locals p ++ copied_locals q))
      → Holds C.sites m (copied_sites K.sites f n p ++ copied_sites K.sites f (n + local_count p) q)
      → LiesWithin (length K.signals) (length K.sites) p → LiesWithin (length K.signals) (length K.sites) q
      → UsesInScope K ls p → UsesInScope K ls q → LoopsWait p → LoopsWait q → Parts f n m ls p q
  parted f n m ls p q low ss ts w v u x y z =
      let d = parts K C same_interface same_bodies f n m p q ss ts w in
      record {
        first = record { low = low; signals = d.0.0; sites = d.0.1; within = w; uses = u; waits = y };
        second = record {
          low = λ t i. (let l = low t i in omega (arith, l));
          signals = d.1.0;
          sites = d.1.1;
          within = v;
          uses = x;
          waits = z;
        };
      }

  module _ (f : ℕ → ℕ) (ls : List ℕ) (E F : Env) (sees : SeesTheSame K f ls E F) where
    pub test_same : (e : Expression) → AllByRecursion (IsInScope K ls) (signals_read e)
        → eval_of (renamed f e) F [] ≡ eval_of e E []
    test_same e u = same_value f E F e [] (all_map (IsInScope K ls) (λ t. F (f t) ≡ E t) sees (signals_read e) u)

    pub emitted_same : (e : Option Expression) → AllByRecursion (IsInScope K ls) (optional_signals e)
        → emitted (option_map (renamed f) e) F ≡ emitted e E
    emitted_same None u = refl
    emitted_same (Some e) u = test_same e u

  does_answered : (f : ℕ → ℕ) (ls : List ℕ) (o : Option ℕ) (queue : List Item) (i : Index)
      → AllByRecursion (IsInScope K ls) (signal_list o) → DoesTheSame K f ls (answered o queue i) (answered (option_map f o) queue i)
  does_answered f ls o [] i u = does_gives K f ls [] [] 1 i tt
  does_answered f ls None (a ∷ queue) i u = does_gives K f ls [] [] (answer_code a.last) i tt
  does_answered f ls (Some s) (a ∷ queue) i u =
      does_gives K f ls ((s, cell.Known a.value) ∷ []) ((f s, cell.Known a.value) ∷ []) (answer_code a.last) i
      (((u.0, refl, refl)), tt)

  -- the signal that carries the answers of a site
  pub target_of : (f : ℕ → ℕ) (n m : ℕ) (ls : List ℕ) (a : ℕ) → Placed f n m ls (Async a)
      → (U.target m ≡ option_map f (T.target a)) × AllByRecursion (IsInScope K ls) (signal_list (T.target a))
  target_of f n m ls a h =
      let t = got K.sites a h.within in
      let here : slice_get C.sites m ≡ Some (renamed_site f t.0)
      = (subst (λ o. Holds C.sites m (map (renamed_site f) (option_to_list o))) t.1 h.sites).0 in (
        ap (λ (o : Option AsyncSite). elim o [ Some b ↦ b.signal | None ↦ None ]) here
            ∙ ap (λ (o : Option AsyncSite). option_map f (elim o [ Some b ↦ b.signal | None ↦ None ])) (sym t.1),
        (both_all (IsInScope K ls) (signal_list (T.target a)) (flat_map signals_read (T.args a)) h.uses).0,
      )

  -- the body of a local signal, and what is declared of the signal
  pub record Inner (f : ℕ → ℕ) (n m : ℕ) (ls : List ℕ) (s : ℕ) (p : Statement) : Type 0 where
    pub body : Placed (with_number s n f) (suc n) m (s ∷ ls) p
    pub declared : slice_get C.signals n ≡ slice_get K.signals s

  pub inner : (f : ℕ → ℕ) (n m : ℕ) (ls : List ℕ) (s : ℕ) (p : Statement) → Placed f n m ls (Local s p) → Inner f n m ls s p
  inner f n m ls s p h =
      let d = got K.signals s h.within.0 in
      let these : Holds C.signals n (d.0 ∷ items_at K.signals (copied_locals p))
      = subst (λ o. Holds C.signals n (option_to_list o ++ items_at K.signals (copied_locals p))) d.1 h.signals in
      record {
        body = record { low = low; signals = these.1; sites = h.sites; within = h.within.1; uses = h.uses; waits = h.waits };
        declared = these.0 ∙ sym d.1;
      }
    where
      low : (t : ℕ) → IsInScope K (s ∷ ls) t → with_number s n f t < suc n
      low t i = at (eqb t s) refl
        where
          at : (b : Bool) → eqb t s ≡ b → cond b n (f t) < suc n
          at true x = omega arith
          at false x = let l = h.low t (outside K f ls s n h.low t x i) in omega (arith, l)

  pub start : (p : Statement) (f : ℕ → ℕ) (n m : ℕ) (ls : List ℕ) → Placed f n m ls p → (i : Index) (E F : Env)
      → SeesTheSame K f ls E F → DoesTheSame K f ls (must_can T p Start i E) (must_can U (copy f n m p) Start i F)
  start Nothing f n m ls h i E F sees = does_gives K f ls [] [] 0 i tt
  start Pause f n m ls h i E F sees = does_gives K f ls [] [] 1 i tt
  start (Emit s e) f n m ls h i E F sees =
      does_gives K f ls ((s, emitted e E) ∷ []) ((f s, emitted (option_map (renamed f) e) F) ∷ []) 0 i
      ((h.uses.0, refl, emitted_same f ls E F sees e h.uses.1), tt)
  start (Exit k) f n m ls h i E F sees = does_gives K f ls [] [] (k + 2) i tt
  start (If e p q) f n m ls h i E F sees =
      let d = parted f n m ls p q h.low h.signals h.sites h.within.0 h.within.1 h.uses.1 h.uses.2 h.waits.0 h.waits.1 in
      does_chosen K f ls (eval_of e E []) (eval_of (renamed f e) F []) i (λ j. must_can T p Start j E) (λ j. must_can T q Start j E)
      (λ j. must_can U (copy f n m p) Start j F) (λ j. must_can U (copy f (n + local_count p) (m + async_count p) q) Start j F)
      (test_same f ls E F sees e h.uses.0) (λ j. start p f n m ls d.first j E F sees)
      (λ j. start q f (n + local_count p) (m + async_count p) ls d.second j E F sees)
  start (Suspend e p) f n m ls h i E F sees =
      start p f n m ls (record { low = h.low; signals = h.signals; sites = h.sites; within = h.within; uses = h.uses.1; waits = h.waits })
      i E F sees
  start (Seq p q) f n m ls h i E F sees =
      let d = parted f n m ls p q h.low h.signals h.sites h.within.0 h.within.1 h.uses.0 h.uses.1 h.waits.0 h.waits.1 in
      does_sequence K f ls (must_can T p Start i E) (must_can U (copy f n m p) Start i F) (λ j. must_can T q Start j E)
      (λ j. must_can U (copy f (n + local_count p) (m + async_count p) q) Start j F) (start p f n m ls d.first i E F sees)
      (λ j. start q f (n + local_count p) (m + async_count p) ls d.second j E F sees)
  start (Par p q) f n m ls h i E F sees =
      let d = parted f n m ls p q h.low h.signals h.sites h.within.0 h.within.1 h.uses.0 h.uses.1 h.waits.0 h.waits.1 in
      does_parallel K f ls (must_can T p Start i E) (must_can T q Start i E) (must_can U (copy f n m p) Start i F)
      (must_can U (copy f (n + local_count p) (m + async_count p) q) Start i F) (start p f n m ls d.first i E F sees)
      (start q f (n + local_count p) (m + async_count p) ls d.second i E F sees)
  start (Loop p) f n m ls h i E F sees =
      let d = parted f n m ls p p h.low h.signals h.sites h.within h.within h.uses h.uses h.waits.1 h.waits.1 in
      subst (DoesTheSame K f ls (must_can T p Start i E))
      (sym (starts_as_first U (copy f n m p) (copy f (n + local_count p) (m + async_count p) p) i F (loops_wait f n m p h.waits.1)
      (half_waits f n m p h.waits.0 h.waits.1))) (start p f n m ls d.first i E F sees)
  start (Trap p) f n m ls h i E F sees =
      does_trapped K f ls (must_can T p Start i E) (must_can U (copy f n m p) Start i F)
      (start p f n m ls (record { low = h.low; signals = h.signals; sites = h.sites; within = h.within; uses = h.uses; waits = h.waits })
      i E F sees)
  start (Local s p) f n m ls h i E F sees =
      let d = inner f n m ls s p h in
      let g = with_number s n f in
      subst (λ v. DoesTheSame K f ls (must_can T (Local s p) Start i E)
      (scoped U n (must_can U (copy g (suc n) m p) Start i) F (unsolved false v))) (ap first_of (sym d.declared))
      (does_scoped K f ls s n h.low T U (ap kind_of d.declared) (ap word_of d.declared) (must_can T p Start i)
      (must_can U (copy g (suc n) m p) Start i) (λ E F k. start p g (suc n) m (s ∷ ls) d.body i E F k) E F sees
      (unsolved false (T.first s)))
  start (Async a) f n m ls h i E F sees = does_gives K f ls [] [] 1 i tt

  pub resume : (p : Statement) (f : ℕ → ℕ) (n m : ℕ) (ls : List ℕ) → Placed f n m ls p → (x c : Selection) → Stands p x c
      → (i : Index) (E F : Env) → SeesTheSame K f ls E F
      → DoesTheSame K f ls (must_can T p (Resume x) i E) (must_can U (copy f n m p) (Resume c) i F)
  resume Pause f n m ls h AtPause AtPause k i E F sees = does_gives K f ls [] [] 0 i tt
  resume (Async a) f n m ls h (AtAsync id args queue o) (AtAsync id' args' queue' o') k i E F sees =
      let t = target_of f n m ls a h in
      subst (λ q. DoesTheSame K f ls (answered (T.target a) queue i) (answered (U.target m) q i)) k.2
      (subst (λ s. DoesTheSame K f ls (answered (T.target a) queue i) (answered s queue i)) (sym t.0)
      (does_answered f ls (T.target a) queue i t.1))
  resume (If e p q) f n m ls h (First x) (First c) k i E F sees =
      let d = parted f n m ls p q h.low h.signals h.sites h.within.0 h.within.1 h.uses.1 h.uses.2 h.waits.0 h.waits.1 in
      resume p f n m ls d.first x c k i E F sees
  resume (If e p q) f n m ls h (Second x) (Second c) k i E F sees =
      let d = parted f n m ls p q h.low h.signals h.sites h.within.0 h.within.1 h.uses.1 h.uses.2 h.waits.0 h.waits.1 in
      resume q f (n + local_count p) (m + async_count p) ls d.second x c k i E F sees
  resume (Suspend e p) f n m ls h (Inside x) (Inside c) k i E F sees =
      does_held K f ls (eval_of e E []) (eval_of (renamed f e) F []) i (λ j. must_can T p (Resume x) j E)
      (λ j. must_can U (copy f n m p) (Resume c) j F) (test_same f ls E F sees e h.uses.0)
      (λ j. resume p f n m ls (record { low = h.low; signals = h.signals; sites = h.sites; within = h.within; uses = h.uses.1; waits = h.waits })
      x c k j E F sees)
  resume (Seq p q) f n m ls h (First x) (First c) k i E F sees =
      let d = parted f n m ls p q h.low h.signals h.sites h.within.0 h.within.1 h.uses.0 h.uses.1 h.waits.0 h.waits.1 in
      does_sequence K f ls (must_can T p (Resume x) i E) (must_can U (copy f n m p) (Resume c) i F) (λ j. must_can T q Start j E)
      (λ j. must_can U (copy f (n + local_count p) (m + async_count p) q) Start j F) (resume p f n m ls d.first x c k i E F sees)
      (λ j. start q f (n + local_count p) (m + async_count p) ls d.second j E F sees)
  resume (Seq p q) f n m ls h (Second x) (Second c) k i E F sees =
      let d = parted f n m ls p q h.low h.signals h.sites h.within.0 h.within.1 h.uses.0 h.uses.1 h.waits.0 h.waits.1 in
      resume q f (n + local_count p) (m + async_count p) ls d.second x c k i E F sees
  resume (Par p q) f n m ls h (First x) (First c) k i E F sees =
      let d = parted f n m ls p q h.low h.signals h.sites h.within.0 h.within.1 h.uses.0 h.uses.1 h.waits.0 h.waits.1 in
      does_parallel K f ls (must_can T p (Resume x) i E) (gives [] 0 i) (must_can U (copy f n m p) (Resume c) i F) (gives [] 0 i)
      (resume p f n m ls d.first x c k i E F sees) (does_gives K f ls [] [] 0 i tt)
  resume (Par p q) f n m ls h (Second x) (Second c) k i E F sees =
      let d = parted f n m ls p q h.low h.signals h.sites h.within.0 h.within.1 h.uses.0 h.uses.1 h.waits.0 h.waits.1 in
      does_parallel K f ls (gives [] 0 i) (must_can T q (Resume x) i E) (gives [] 0 i)
      (must_can U (copy f (n + local_count p) (m + async_count p) q) (Resume c) i F) (does_gives K f ls [] [] 0 i tt)
      (resume q f (n + local_count p) (m + async_count p) ls d.second x c k i E F sees)
  resume (Par p q) f n m ls h (Both x y) (Both c e) k i E F sees =
      let d = parted f n m ls p q h.low h.signals h.sites h.within.0 h.within.1 h.uses.0 h.uses.1 h.waits.0 h.waits.1 in
      does_parallel K f ls (must_can T p (Resume x) i E) (must_can T q (Resume y) i E) (must_can U (copy f n m p) (Resume c) i F)
      (must_can U (copy f (n + local_count p) (m + async_count p) q) (Resume e) i F) (resume p f n m ls d.first x c k.0 i E F sees)
      (resume q f (n + local_count p) (m + async_count p) ls d.second y e k.1 i E F sees)
  resume (Loop p) f n m ls h (Inside x) (Inside (First c)) k i E F sees =
      let d = parted f n m ls p p h.low h.signals h.sites h.within h.within h.uses h.uses h.waits.1 h.waits.1 in
      let second = copy f (n + local_count p) (m + async_count p) p in
      subst (DoesTheSame K f ls (must_can T (Loop p) (Resume (Inside x)) i E))
      (sym (first_half U (copy f n m p) second c i F (loops_wait f (n + local_count p) (m + async_count p) p h.waits.1) (half_waits f (n + local_count p) (m + async_count p) p h.waits.0 h.waits.1)))
      (does_sequence K f ls (must_can T p (Resume x) i E) (must_can U (copy f n m p) (Resume c) i F) (λ j. must_can T p Start j E)
      (λ j. must_can U second Start j F) (resume p f n m ls d.first x c k i E F sees)
      (λ j. start p f (n + local_count p) (m + async_count p) ls d.second j E F sees))
  resume (Loop p) f n m ls h (Inside x) (Inside (Second c)) k i E F sees =
      let d = parted f n m ls p p h.low h.signals h.sites h.within h.within h.uses h.uses h.waits.1 h.waits.1 in
      let second = copy f (n + local_count p) (m + async_count p) p in
      subst (DoesTheSame K f ls (must_can T (Loop p) (Resume (Inside x)) i E))
      (sym (second_half U (copy f n m p) second c i F (loops_wait f n m p h.waits.1) (half_waits f n m p h.waits.0 h.waits.1)))
      (does_sequence K f ls (must_can T p (Resume x) i E) (must_can U second (Resume c) i F) (λ j. must_can T p Start j E)
      (λ j. must_can U (copy f n m p) Start j F) (resume p f (n + local_count p) (m + async_count p) ls d.second x c k i E F sees)
      (λ j. start p f n m ls d.first j E F sees))
  resume (Trap p) f n m ls h (Inside x) (Inside c) k i E F sees =
      does_trapped K f ls (must_can T p (Resume x) i E) (must_can U (copy f n m p) (Resume c) i F)
      (resume p f n m ls (record { low = h.low; signals = h.signals; sites = h.sites; within = h.within; uses = h.uses; waits = h.waits })
      x c k i E F sees)
  resume (Local s p) f n m ls h (Scope x b v) (Scope c b' v') k i E F sees =
      let d = inner f n m ls s p h in
      let g = with_number s n f in
      subst (λ z. DoesTheSame K f ls (must_can T (Local s p) (Resume (Scope x b v)) i E)
      (scoped U n (must_can U (copy g (suc n) m p) (Resume c) i) F z)) (λ j. unsolved (k.1 j) (k.2 j))
      (does_scoped K f ls s n h.low T U (ap kind_of d.declared) (ap word_of d.declared) (must_can T p (Resume x) i)
      (must_can U (copy g (suc n) m p) (Resume c) i) (λ E F l. resume p g (suc n) m (s ∷ ls) d.body x c k.0 i E F l) E F sees
      (unsolved b v))
  resume _ f n m ls h x c k i E F sees = absurd k

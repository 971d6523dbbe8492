-- Each combinator of Step does the same of what does the same.
use Rattle.std.proofs.Common.{◌≡◌, ℕ, ◌<◌, Bool, true, false, cond, eqb, max, Option, Some, None, List, []}
use Rattle.std.proofs.Common.{◌∷◌, ◌++◌, map}
use Rattle.std.proofs.Common.{refl, sym, ap, subst, ◌∙◌}
use Rattle.std.specs.Prelude.{◌&&◌, zip, slice_get}
use Rattle.std.proofs.lemmas.List.{map-append}
use Rattle.hh_base.specs.declared.value.Pos.{Pos}
use Rattle.hh_base.specs.declared.value.Kind.{Kind}
use Rattle.hh_base.specs.declared.value.Value.{Value}
use Rattle.hh_base.specs.declared.value.FaultKind.TheVariants.{Overflow}
use Rattle.hh_base.specs.declared.item.Item.{Item}
use Rattle.hh_term.specs.declared.program.SignalDecl.{SignalDecl}
use Rattle.host_expr.specs.declared.cell.Cell.{Cell}
use Rattle.host_expr.specs.declared.cell.Cell.TheVariants as cell
use Rattle.host_expr.specs.declared.cell.SigCell.{SigCell}
use Rattle.host_expr.specs.Environment.{Env, is_known, is_decided, put}
use Rattle.host_expr.specs.Evaluation.{truth}
use Rattle.host_expr.specs.Combination.{counts_as, is_several, is_overflowed}
use Rattle.hh_term.specs.Statement.{Statement, Par, Trap, Local, Async}
use Rattle.hh_term.specs.Selection.{Selection, Inside}
use Rattle.hh_term.specs.Kernel.{Kernel}
use Rattle.hh_term.specs.Scopes.{IsInScope}
use Rattle.hh_term.specs.MustCan.{Table, table_of, MustCan, solve, all_known, answer_bag, lower}
use Rattle.hh_term.specs.Touches.{Touch, stopped}
use Rattle.hh_term.specs.Step.{Stepped, ◌>>=◌, completes, closed, mark_map, wrapped, wrap, with_fault}
use Rattle.hh_term.specs.Step.{joined, both_marks}
use Rattle.hh_term.specs.Step.{beside, trap_step, on_test, emit_step, then_start, doubled_by, overflow_by}
use Rattle.hh_term.specs.Step.{values_of, leave}
use Rattle.hh_term.specs.Step.{scope_mark, local_step, add_faults, argument_value, start_async}
use Rattle.hh_term.specs.Step.{answer_step, resume_async}
use Rattle.loop_copy.specs.Copies.{with_number}
use Rattle.loop_copy.specs.Stands.{Stands}
use Rattle.copy_laws.specs.Agreeing.{SeesTheSame, EmitsTheSame, DoesTheSame}
use Rattle.copy_laws.specs.Stepping.{BothOrNone, StepsTheSame, counted_at, declared_in}
use Rattle.copy_laws.proofs.Alike.{emits_both, same_cells, emits_without, sees_inside, same_solve}
use Rattle.copy_laws.proofs.Doing.{kind_of, word_of}

pub both_map : {A B : Type 0} (R : A → A → Type 0) (S : B → B → Type 0) (g k : A → B) (x y : Option A)
    → ((a c : A) → R a c → S (g a) (k c)) → BothOrNone R x y
    → BothOrNone S (x >>= (λ a. Some (g a))) (y >>= (λ c. Some (k c)))
both_map R S g k None None f h = tt
both_map R S g k (Some a) (Some c) f h = f a c h
both_map R S g k None (Some c) f h = absurd h
both_map R S g k (Some a) None f h = absurd h

-- these wrappings of marks keep that they stand for each other
abbrev pub Turns : Statement → Statement → (Selection → Selection) → (Selection → Selection) → Type 0
Turns p r g k = (m c : Selection) → Stands p m c → Stands r (g m) (k c)

pub next_turned : (p r : Statement) (g k : Selection → Selection) → Turns p r g k → (o u : Option Selection)
    → BothOrNone (Stands p) o u → BothOrNone (Stands r) (mark_map g o) (mark_map k u)
next_turned p r g k w None None h = tt
next_turned p r g k w (Some m) (Some c) h = w m c h
next_turned p r g k w None (Some c) h = absurd h
next_turned p r g k w (Some m) None h = absurd h

next_both : (p q : Statement) (o u o' u' : Option Selection) → BothOrNone (Stands p) o o'
    → BothOrNone (Stands q) u u'
    → BothOrNone (Stands (Par p q)) (both_marks o u) (both_marks o' u')
next_both p q None None None None h g = tt
next_both p q (Some m) None (Some c) None h g = h
next_both p q None (Some n) None (Some d) h g = g
next_both p q (Some m) (Some n) (Some c) (Some d) h g = (h, g)
next_both p q None u (Some c) u' h g = absurd h
next_both p q (Some m) u None u' h g = absurd h
next_both p q None None None (Some d) h g = absurd g
next_both p q None (Some n) None None h g = absurd g
next_both p q (Some m) None (Some c) (Some d) h g = absurd g
next_both p q (Some m) (Some n) (Some c) None h g = absurd g

module _ (original : ℕ → ℕ) where
  pub counted_both : (xs ys us vs : List Touch) → map (counted_at original) us ≡ xs
      → map (counted_at original) vs ≡ ys
      → map (counted_at original) (us ++ vs) ≡ xs ++ ys
  counted_both xs ys us vs h k = map-append (counted_at original) us vs ∙ (λ i. h i ++ k i)

  stopped_counted : (ts : List Touch) → map (counted_at original) (map stopped ts)
      ≡ map stopped (map (counted_at original) ts)
  stopped_counted [] = refl
  stopped_counted (t ∷ ts) = ap (λ us. stopped (counted_at original t) ∷ us) (stopped_counted ts)

pub declared_both : (K C : Kernel) (xs ys us vs : List ℕ) → map (declared_in C) us ≡ map (declared_in K) xs
    → map (declared_in C) vs ≡ map (declared_in K) ys → map (declared_in C) (us ++ vs)
    ≡ map (declared_in K) (xs ++ ys)
declared_both K C xs ys us vs h k =
    map-append (declared_in C) us vs ∙ (λ i. h i ++ k i) ∙ sym (map-append (declared_in K) xs ys)

module _ (K C : Kernel) (f original : ℕ → ℕ) (ls : List ℕ) where
  abbrev Same : Statement → Stepped → Stepped → Type 0
  Same p = StepsTheSame K C f original ls p

  abbrev Alike : Statement → Option Stepped → Option Stepped → Type 0
  Alike p = BothOrNone (Same p)

  same_wrapped : (p r : Statement) (g k : Selection → Selection) (a c : Stepped) → Turns p r g k → Same p a c
      → Same r (wrapped g a) (wrapped k c)
  same_wrapped p r g k a c w h =
      record {
        bag = h.bag;
        code = h.code;
        next = next_turned p r g k w a.next c.next h.next;
        touches = h.touches;
        faults = h.faults;
        doubled = h.doubled;
      }

  pub alike_wrap : (p r : Statement) (g k : Selection → Selection) (x y : Option Stepped) → Turns p r g k
      → Alike p x y
      → Alike r (wrap g x) (wrap k y)
  alike_wrap p r g k None None w h = tt
  alike_wrap p r g k (Some a) (Some c) w h = same_wrapped p r g k a c w h
  alike_wrap p r g k None (Some c) w h = absurd h
  alike_wrap p r g k (Some a) None w h = absurd h

  same_fault : (p : Statement) (x : Cell) (a c : Stepped) → Same p a c
      → Same p (with_fault x a) (with_fault x c)
  same_fault p cell.Unknown a c h = h
  same_fault p (cell.Known v) a c h = h
  same_fault p (cell.Faulted o k) a c h =
      record {
        bag = h.bag;
        code = h.code;
        next = h.next;
        touches = h.touches;
        faults = ap (λ z. (o, k) ∷ z) h.faults;
        doubled = h.doubled;
      }

  pub alike_test : (r : Statement) (x y : Cell) (P Q R S : Option Stepped) → y ≡ x → Alike r P R → Alike r Q S
      → Alike r (on_test x P Q) (on_test y R S)
  alike_test r x y P Q R S e h g = subst (λ z. Alike r (on_test x P Q) (on_test z R S)) (sym e) (by_cell x)
    where
      by_truth : (b : Bool) → Alike r (cond b P Q) (cond b R S)
      by_truth true = h
      by_truth false = g

      by_cell : (z : Cell) → Alike r (on_test z P Q) (on_test z R S)
      by_cell cell.Unknown = tt
      by_cell (cell.Known v) = by_truth (truth v)
      by_cell (cell.Faulted o k) =
          both_map (Same r) (Same r) (with_fault (cell.Faulted o k)) (with_fault (cell.Faulted o k)) Q S
          (λ a c. same_fault r (cell.Faulted o k) a c) g

  same_joined : (p q r : Statement) (g k : Selection → Selection) (a c x y : Stepped) → Turns q r g k
      → Same p a c → Same q x y
      → Same r (joined a (wrapped g x)) (joined c (wrapped k y))
  same_joined p q r g k a c x y w h j =
      record {
        bag = emits_both K f ls a.bag x.bag c.bag y.bag h.bag j.bag;
        code = j.code;
        next = next_turned q r g k w x.next y.next j.next;
        touches = counted_both original a.touches x.touches c.touches y.touches h.touches j.touches;
        faults = λ i. h.faults i ++ j.faults i;
        doubled = declared_both K C a.doubled x.doubled c.doubled y.doubled h.doubled j.doubled;
      }

  pub alike_then : (p q r : Statement) (g k g' k' : Selection → Selection) (P Q R S : Option Stepped)
      → Turns p r g g'
      → Turns q r k k' → Alike p P R → Alike q Q S → Alike r (then_start g k P Q) (then_start g' k' R S)
  alike_then p q r g k g' k' None Q None S v w h j = tt
  alike_then p q r g k g' k' None Q (Some c) S v w h j = absurd h
  alike_then p q r g k g' k' (Some a) Q None S v w h j = absurd h
  alike_then p q r g k g' k' (Some a) Q (Some c) S v w h j =
      subst (λ n. Alike r (then_start g k (Some a) Q)
      (cond (eqb n 0) (S >>= (λ y. Some (joined c (wrapped k' y)))) (Some (wrapped g' c)))) (sym h.code)
      (at_test (eqb a.code 0))
    where
      at_test : (t : Bool)
          → Alike r (cond t (Q >>= (λ x. Some (joined a (wrapped k x)))) (Some (wrapped g a)))
          (cond t (S >>= (λ y. Some (joined c (wrapped k' y)))) (Some (wrapped g' c)))
      at_test true =
          both_map (Same q) (Same r) (λ x. joined a (wrapped k x)) (λ y. joined c (wrapped k' y)) Q S
          (λ x y. same_joined p q r k k' a c x y w h) j
      at_test false = same_wrapped p r g g' a c v h

  same_closed : (r : Statement) (a c : Stepped) → Same r a c → Same r (closed a) (closed c)
  same_closed r a c h =
      subst (λ n. Same r (closed a)
      (cond (eqb n 1) c (record c { next = None; touches = map stopped c.touches }))) (sym h.code)
      (at_test (eqb a.code 1))
    where
      at_test : (t : Bool) → Same r (cond t a (record a { next = None; touches = map stopped a.touches }))
          (cond t c (record c { next = None; touches = map stopped c.touches }))
      at_test true = h
      at_test false =
          record {
            bag = h.bag;
            code = h.code;
            next = tt;
            touches = stopped_counted original c.touches ∙ ap (map stopped) h.touches;
            faults = h.faults;
            doubled = h.doubled;
          }

  pub same_beside : (p q : Statement) (a c x y : Stepped) → Same p a c → Same q x y
      → Same (Par p q) (beside a x) (beside c y)
  same_beside p q a c x y h j =
      same_closed (Par p q) (record (joined a x) {
        code = max a.code x.code;
        next =
            both_marks a.next x.next;
      })
      (record (joined c y) { code = max c.code y.code; next = both_marks c.next y.next })
      (record {
        bag = emits_both K f ls a.bag x.bag c.bag y.bag h.bag j.bag;
        code = λ i. max (h.code i) (j.code i);
        next = next_both p q a.next x.next c.next y.next h.next j.next;
        touches = counted_both original a.touches x.touches c.touches y.touches h.touches j.touches;
        faults = λ i. h.faults i ++ j.faults i;
        doubled = declared_both K C a.doubled x.doubled c.doubled y.doubled h.doubled j.doubled;
      })

  pub alike_beside : (p q : Statement) (P Q R S : Option Stepped) → Alike p P R → Alike q Q S
      → Alike (Par p q) (P >>= (λ a. Q >>= (λ b. Some (beside a b))))
      (R >>= (λ a. S >>= (λ b. Some (beside a b))))
  alike_beside p q None Q None S h j = tt
  alike_beside p q (Some a) Q (Some c) S h j =
      both_map (Same q) (Same (Par p q)) (beside a) (beside c) Q S (λ x y w. same_beside p q a c x y h w) j
  alike_beside p q None Q (Some c) S h j = absurd h
  alike_beside p q (Some a) Q None S h j = absurd h

  pub same_completes : (p : Statement) (k : ℕ) → Same p (completes k) (completes k)
  same_completes p k = record {
    bag = tt;
    code = refl;
    next = tt;
    touches = refl;
    faults = refl;
    doubled =
        refl;
  }

  pub same_trap : (p : Statement) (a c : Stepped) → Same p a c → Same (Trap p) (trap_step a) (trap_step c)
  same_trap p a c h =
      record {
        bag = h.bag;
        code = ap lower h.code;
        next = next_turned p (Trap p) Inside Inside (λ m c w. w) a.next c.next h.next;
        touches = h.touches;
        faults = h.faults;
        doubled = h.doubled;
      }

  pub alike_emit : (r : Statement) (s : ℕ) (x y : Cell) → IsInScope K ls s → y ≡ x
      → Alike r (emit_step s x) (emit_step (f s) y)
  alike_emit r s x y i e = subst (λ z. Alike r (emit_step s x) (emit_step (f s) z)) (sym e) (by_cell x)
    where
      by_cell : (z : Cell) → Alike r (emit_step s z) (emit_step (f s) z)
      by_cell cell.Unknown = tt
      by_cell (cell.Known v) =
          record {
            bag = ((i, refl, refl), tt);
            code = refl;
            next = tt;
            touches = refl;
            faults = refl;
            doubled = refl;
          }
      by_cell (cell.Faulted p k) =
          record {
            bag = ((i, refl, refl), tt);
            code = refl;
            next = tt;
            touches = refl;
            faults = refl;
            doubled = refl;
          }

  -- ---- async

  same_touch : (n m : ℕ) (t : Touch) → original m ≡ n
      → map (counted_at original) ((record t { site = m }) ∷ []) ≡ (record t { site = n }) ∷ []
  same_touch n m t e = ap (λ (k : ℕ). (record t { site = k }) ∷ []) e

  same_faults : (r : Statement) (cs : List Cell) (a c : Stepped) → Same r a c
      → Same r (add_faults cs a) (add_faults cs c)
  same_faults r [] a c h = h
  same_faults r (x ∷ cs) a c h = same_fault r x (add_faults cs a) (add_faults cs c) (same_faults r cs a c h)

  pub alike_start : (n m : ℕ) (ks : List Kind) (cs : List Cell) → original m ≡ n
      → Alike (Async n) (cond (all_known cs)
      (Some (add_faults cs (start_async n (map argument_value (zip ks cs))))) None)
      (cond (all_known cs) (Some (add_faults cs (start_async m (map argument_value (zip ks cs))))) None)
  alike_start n m ks cs e = at_test (all_known cs)
    where
      args : List Value
      args = map argument_value (zip ks cs)

      at_test : (b : Bool) → Alike (Async n) (cond b (Some (add_faults cs (start_async n args))) None)
          (cond b (Some (add_faults cs (start_async m args))) None)
      at_test true =
          same_faults (Async n) cs (start_async n args) (start_async m args)
          (record {
            bag = tt;
            code = refl;
            next = (refl, refl, refl, refl);
            touches = same_touch n m (record {
              site = n;
              id = 0;
              started = Some args;
              used = false;
              ended = false;
              held = false;
              resumed = false;
              runs_after = true;
            }) e;
            faults = refl;
            doubled = refl;
          })
      at_test false = tt

  module _ (T U : Table) (n m : ℕ) (e : original m ≡ n)
      (answers : (v : Value) → EmitsTheSame K f ls (answer_bag (T.target n) v) (answer_bag (U.target m) v))
    where
      same_answer : (id : ℕ) (args : List Value) (v : Value) (last : Bool) (queue : List Item)
          → Same (Async n) (record (answer_step T n id args last queue) { bag = answer_bag (T.target n) v })
          (record (answer_step U m id args last queue) { bag = answer_bag (U.target m) v })
      same_answer id args v true queue =
          record {
            bag = answers v;
            code = refl;
            next = tt;
            touches = same_touch n m (record {
              site = n;
              id = id;
              started = None;
              used = false;
              ended = true;
              held = false;
              resumed = true;
              runs_after = false;
            }) e;
            faults = refl;
            doubled = refl;
          }
      same_answer id args v false queue =
          record {
            bag = answers v;
            code = refl;
            next = (refl, refl, refl, refl);
            touches = same_touch n m (record {
              site = n;
              id = id;
              started = None;
              used = true;
              ended = false;
              held = false;
              resumed = true;
              runs_after = true;
            }) e;
            faults = refl;
            doubled = refl;
          }

      pub same_resumed : (id : ℕ) (args : List Value) (queue : List Item)
          → Same (Async n) (resume_async T n id args queue) (resume_async U m id args queue)
      same_resumed id args [] =
          record {
            bag = tt;
            code = refl;
            next = (refl, refl, refl, refl);
            touches = same_touch n m (record {
              site = n;
              id = id;
              started = None;
              used = false;
              ended = false;
              held = false;
              resumed = true;
              runs_after = true;
            }) e;
            faults = refl;
            doubled = refl;
          }
      same_resumed id args (a ∷ queue) = same_answer id args a.value a.last queue

-- ---- the scope of a local signal, whose number in the copy is above those of all signals in scope

listed : {A : Type 0} (d : ℕ → A) (s : ℕ) (b : Bool) → map d (cond b (s ∷ []) []) ≡ cond b (d s ∷ []) []
listed d s true = refl
listed d s false = refl

abbrev pub position_of : Option SignalDecl → Pos
position_of o = (elim o [ Some d ↦ d.pos | None ↦ record { 0 = 0 } ])

-- a signal that is declared the same is left the same where the same was emitted
module _ (K C : Kernel) (s n : ℕ) (declared : slice_get C.signals n ≡ slice_get K.signals s) where
  abbrev T : Table
  T = table_of K

  abbrev U : Table
  U = table_of C

  pub same_overflow : (vs : List Value) → overflow_by U n vs ≡ overflow_by T s vs
  same_overflow vs = λ i. cond (is_overflowed (word_of (declared i)) vs)
      ((position_of (declared i), Overflow) ∷ []) []

  pub same_doubled : (vs : List Value) → map (declared_in C) (doubled_by U n vs)
      ≡ map (declared_in K) (doubled_by T s vs)
  same_doubled vs =
      listed (declared_in C) n (is_several (U.kind n) (U.word n) vs)
      ∙ (λ i. cond (is_several (kind_of (declared i)) (word_of (declared i)) vs) (declared i ∷ []) [])
      ∙ sym (listed (declared_in K) s (is_several (T.kind s) (T.word s) vs))

module _ (K C : Kernel) (original f : ℕ → ℕ) (ls : List ℕ) (s n : ℕ) (low : (t : ℕ) → IsInScope K ls t
    → f t < n)
    (declared : slice_get C.signals n ≡ slice_get K.signals s) where
  abbrev g : ℕ → ℕ
  g = with_number s n f

  abbrev Before : Table
  Before = table_of K

  abbrev After : Table
  After = table_of C

  same_values : (a c : Stepped) → EmitsTheSame K g (s ∷ ls) a.bag c.bag → values_of After n c.bag
      ≡ values_of Before s a.bag
  same_values a c h = λ i. map (counts_as (kind_of (declared i))) (same_cells K f ls s n low a.bag c.bag h i)

  same_leave : (p : Statement) (d : SigCell) (a c : Stepped) → StepsTheSame K C g original (s ∷ ls) p a c
      → StepsTheSame K C f original ls (Local s p) (leave Before s (wrapped (scope_mark d) a))
      (leave After n (wrapped (scope_mark d) c))
  same_leave p d a c h =
      let vs = same_values a c h.bag in
      record {
        bag = emits_without K f ls s n low a.bag c.bag h.bag;
        code = h.code;
        next = next_turned p (Local s p) (scope_mark d) (scope_mark d) (λ m c w. (w, refl, refl))
            a.next c.next h.next;
        touches = h.touches;
        faults = ap (λ z. overflow_by After n z ++ c.faults) vs
            ∙ (λ i. same_overflow K C s n declared (values_of Before s a.bag) i ++ h.faults i);
        doubled = ap (λ z. map (declared_in C) (doubled_by After n z ++ c.doubled)) vs
            ∙ declared_both K C (doubled_by Before s (values_of Before s a.bag)) a.doubled
            (doubled_by After n (values_of Before s a.bag)) c.doubled
            (same_doubled K C s n declared (values_of Before s a.bag)) h.doubled;
      }

  pub alike_local : (p : Statement) (P Q : Env → MustCan) (X Y : Env → Option Stepped)
      → ((E F : Env) → SeesTheSame K g (s ∷ ls) E F → DoesTheSame K g (s ∷ ls) (P E) (Q F))
      → ((E F : Env) → SeesTheSame K g (s ∷ ls) E F
      → BothOrNone (StepsTheSame K C g original (s ∷ ls) p) (X E) (Y F))
      → (E F : Env) → SeesTheSame K f ls E F → (c : SigCell)
      → BothOrNone (StepsTheSame K C f original ls (Local s p)) (local_step Before s P X E c)
      (local_step After n Q Y F c)
  alike_local p P Q X Y does steps E F sees c =
      subst (λ z. BothOrNone (StepsTheSame K C f original ls (Local s p)) (local_step Before s P X E c)
      (cond (is_decided z.status && is_known z.value)
      (Y (put F n z) >>= (λ a. Some (leave After n (wrapped (scope_mark z) a)))) None))
      (sym (same_solve K f ls s n low Before After (ap kind_of declared) (ap word_of declared)
      P Q does E F sees c))
      (at_test (is_decided d.status && is_known d.value))
    where
      d : SigCell
      d = solve Before s P E c

      at_test : (b : Bool) → BothOrNone (StepsTheSame K C f original ls (Local s p))
          (cond b (X (put E s d) >>= (λ a. Some (leave Before s (wrapped (scope_mark d) a)))) None)
          (cond b (Y (put F n d) >>= (λ a. Some (leave After n (wrapped (scope_mark d) a)))) None)
      at_test true =
          both_map (StepsTheSame K C g original (s ∷ ls) p) (StepsTheSame K C f original ls (Local s p))
          (λ a. leave Before s (wrapped (scope_mark d) a)) (λ c. leave After n (wrapped (scope_mark d) c))
          (X (put E s d)) (Y (put F n d))
          (λ a c. same_leave p d a c) (steps (put E s d) (put F n d) (sees_inside K f ls s n low E F d sees))
      at_test false = tt

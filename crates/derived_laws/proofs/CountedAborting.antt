-- `abort count`: a body that is suspended by the signal that counts.
use Rattle.std.proofs.Common.{◌≡◌, refl, sym, ap, subst, ◌∙◌, ℕ, Bool, true, false, cond, Option, Some, None}
use Rattle.std.proofs.Common.{List, [], ◌∷◌, ◌++◌, map, length, append-nil}
use Rattle.std.specs.Prelude.{option_map}
use Rattle.hh_base.specs.declared.value.Pos.{Pos}
use Rattle.hh_base.specs.declared.value.Value.TheVariants as value
use Rattle.host_expr.specs.declared.cell.Cell.{Cell}
use Rattle.host_expr.specs.declared.cell.Cell.TheVariants as cell
use Rattle.host_expr.specs.declared.cell.SigCell.{SigCell}
use Rattle.host_expr.specs.declared.expr.Expr.{Expr}
use Rattle.host_expr.specs.Expression.{Now}
use Rattle.host_expr.specs.Environment.{Env, unsolved, put}
use Rattle.host_expr.specs.Evaluation.{eval_of, truth}
use Rattle.host_expr.specs.Combination.{counts_as}
use Rattle.host_expr.proofs.Trees.{expr-Now}
use Rattle.hh_base.specs.declared.item.Item.{Item}
use Rattle.hh_term.specs.Statement.{Statement, Nothing, Emit, Suspend, Seq, Par, Trap, Exit, Local}
use Rattle.hh_term.specs.Selection.{Selection, First, Second, Both, Inside, Scope, Task, Start, Resume}
use Rattle.hh_term.specs.MustCan.{Table, MustCan, Executed, must_can, parallel, cells_of}
use Rattle.hh_term.specs.MustCan.{held as held_by}
use Rattle.hh_term.specs.Step.{Stepped, ◌>>=◌, completes, rests, mark_map, wrapped, wrap, beside, trap_step, on_test}
use Rattle.hh_term.specs.Step.{then_start, leave, scope_mark, local_step, doubled_by, overflow_by, step}
use Rattle.hh_term.specs.Touches.{Touch, stopped, held_mark, held_touches}
use Rattle.hh_term.specs.Entering.{with_item, of_either}
use Rattle.hh_term.specs.Placed.{unplaced}
use Rattle.hh_term.proofs.Stepping.{step_has_the_bag_of_must, step_has_the_code_of_must}
use Rattle.hh_term.proofs.OnlyCode.{must_code_is_the_only_code}
use Rattle.kernel_expand.specs.Numbering.{Piece, Around, Numbered, numbering, in_numbers, with_signal}
use Rattle.kernel_expand.specs.Numbering.{counter_signal}
use Rattle.kernel_expand.specs.Rows as row
use Rattle.kernel_expand.proofs.Balanced.{three_items}
use Rattle.derived_laws.specs.Statements.{kernel, plain, test}
use Rattle.derived_laws.specs.Reactions.{inside, killed, then_fault, by_test}
use Rattle.derived_laws.specs.Resting.{RestsAt, held}
use Rattle.derived_laws.specs.Counts.{turns, Turn, now, goes_to, CountRests, at_turn}
use Rattle.derived_laws.specs.CountedAborts.{AbortCountObeys, IsOwn, counting_down, counted_down, in_counter}
use Rattle.derived_laws.specs.CountedAborts.{counted_body, StandsBelow}
use Rattle.derived_laws.proofs.Marks.{AnyMark, NextMark, kept, keeps}
use Rattle.derived_laws.proofs.Aborting.{by_test_next}
use Rattle.derived_laws.proofs.Unemitted.{its_own}
use Rattle.derived_laws.proofs.Counting.{inside_next, watched_next, mark_counts}
use Rattle.derived_laws.proofs.Closing.{Closed, closes_wrapped, closed}
use Rattle.derived_laws.proofs.Watching.{Faults, same_steps, exited, watching, then_exit, gone_on, goes_on, weakly}
use Rattle.derived_laws.proofs.Watching.{marks_twice}
use Rattle.derived_laws.proofs.Turns.{Waits, count_waits, count_stands, turn_behind}
use Rattle.derived_laws.proofs.Silence.{count_silent}
use Rattle.derived_laws.proofs.Solving.{same_number, cells_append, without_none, NoCells, first_of, second_of, unit}
use Rattle.derived_laws.proofs.Solving.{first_none, held_none, Counts, goes_none, ends_one, solved_cell, Steady, solves}
use Rattle.derived_laws.proofs.Solving.{local_by, local_none, now_is, nothing_over, one_over, nothing_doubled}
use Rattle.derived_laws.proofs.Solving.{one_doubled, no_step}

-- ---- the two branches, and their scope and trap

abbrev branches : ℕ → Statement → Statement → Statement
branches c p q = Par (Seq (Suspend (Now c) p) (Exit 0)) (Seq (Seq q (Emit c None)) (Exit 0))

abbrev watch : ℕ → Option Stepped → Option Stepped
watch c o =
    then_start First Second
    (then_start First Second o (Some (record (completes 0) { bag = (c, unit) ∷ [] }))) (Some (completes 2))

abbrev pair : Option Stepped → Option Stepped → Option Stepped
pair p q = then_start First Second p (Some (completes 2)) >>= (λ a. q >>= (λ b. Some (beside a b)))

abbrev outer : Table → ℕ → SigCell → Option Stepped → Option Stepped
outer T c d o =
    (o >>= (λ a. Some (leave T c (wrapped (scope_mark d) a)))) >>= (λ a. Some (trap_step a))

abbrev absent : Table → ℕ → SigCell
absent T c = solved_cell T c false value.Unit [] []

abbrev present : Table → ℕ → SigCell
present T c = solved_cell T c false value.Unit (unit ∷ []) (unit ∷ [])

pair_none : (o : Option Stepped) → pair o None ≡ None
pair_none o = at (then_start First Second o (Some (completes 2)))
  where
    at : (u : Option Stepped) → (u >>= (λ a. no_step >>= (λ b. Some (beside a b)))) ≡ None
    at (Some a) = refl
    at None = refl

abbrev strip : Selection → Selection
strip (Inside m) = m
strip m = m

-- a scope between the two branches and their trap, where its signal is not emitted
scoped_on : (T : Table) (c : ℕ) (f : Selection → Selection) (x y : Stepped) → trap_step x ≡ y
    → cells_of c x.bag ≡ []
    → trap_step (leave T c (wrapped f x)) ≡ record y { next = mark_map (λ m. Inside (f (strip m))) y.next }
scoped_on T c f x y e h =
    same_steps (trap_step (leave T c (wrapped f x))) (record y { next = mark_map (λ m. Inside (f (strip m))) y.next })
    (without_none c x.bag h ∙ ap (λ (s : Stepped). s.bag) e) (ap (λ (s : Stepped). s.code) e)
    (marks_twice Inside f x.next ∙ sym (marks_twice (λ m. Inside (f (strip m))) Inside x.next)
    ∙ ap (λ (s : Stepped). mark_map (λ m. Inside (f (strip m))) s.next) e)
    (ap (λ (s : Stepped). s.touches) e)
    (ap (λ z. overflow_by T c (map (counts_as (T.kind c)) z) ++ x.faults) h
    ∙ ap (λ z. z ++ x.faults) (nothing_over T c) ∙ ap (λ (s : Stepped). s.faults) e)
    (ap (λ z. doubled_by T c (map (counts_as (T.kind c)) z) ++ x.doubled) h
    ∙ ap (λ z. z ++ x.doubled) (nothing_doubled T c) ∙ ap (λ (s : Stepped). s.doubled) e)

abbrev pub Emits : ℕ → Option Stepped → Type 0
Emits c (Some a) = cells_of c a.bag ≡ []
Emits c None = Unit {0}

goes : (T : Table) (c : ℕ) (w : Selection) (fs : Faults) (s : Option Stepped) → Closed s → Emits c s
    → outer T c (absent T c) (pair (wrap Inside s) (Some (watching (First (First w)) fs)))
    ≡ option_map (λ a. record (inside (counting_down w) a) { faults = a.faults ++ fs }) s
goes T c w fs None h g = refl
goes T c w fs (Some a) h g =
    ap (λ o. outer T c (absent T c) (o >>= (λ a. Some (beside a (watching v fs))))) (then_exit (wrapped Inside a))
    ∙ ap (λ (y : Stepped). Some y) (scoped_on T c f x y e none ∙ same)
  where
    v : Selection
    v = First (First w)

    f : Selection → Selection
    f m = Scope m false value.Unit

    x : Stepped
    x = beside (exited (wrapped Inside a)) (watching v fs)

    y : Stepped
    y = gone_on v fs (wrapped Inside a)

    e : trap_step x ≡ y
    e = goes_on v fs (wrapped Inside a) (closes_wrapped Inside a h)

    none : cells_of c x.bag ≡ []
    none = ap (cells_of c) (ap (λ (s : Stepped). s.bag) e) ∙ g

    same : record y { next = mark_map (λ m. Inside (f (strip m))) y.next }
        ≡ record (inside (counting_down w) a) { faults = a.faults ++ fs }
    same =
        same_steps (record y { next = mark_map (λ m. Inside (f (strip m))) y.next })
        (record (inside (counting_down w) a) { faults = a.faults ++ fs }) refl refl
        (ap (mark_map (λ m. Inside (f (strip m)))) (marks_twice (weakly v) Inside a.next)
        ∙ marks_twice (λ m. Inside (f (strip m))) (λ m. weakly v (Inside m)) a.next)
        refl refl refl

kills : (T : Table) (c : ℕ) (n : Selection) (ts : List Touch)
    → outer T c (present T c) (pair (Some (rests n ts)) (watch c (Some (completes 0))))
    ≡ Some (record (completes 0) { touches = map stopped ts })
kills T c n ts =
    ap (λ (y : Stepped). Some y)
    (same_steps _ _ (ap (λ b. cond b [] ((c, unit) ∷ [])) (same_number c)) refl refl
    (ap (map stopped) (append-nil ts))
    (ap (λ b. overflow_by T c (map (counts_as (T.kind c)) (cond b (unit ∷ []) [])) ++ []) (same_number c)
    ∙ ap (λ z. z ++ []) (one_over T c value.Unit))
    (ap (λ b. doubled_by T c (map (counts_as (T.kind c)) (cond b (unit ∷ []) [])) ++ []) (same_number c)
    ∙ ap (λ z. z ++ []) (one_doubled T c value.Unit)))

-- ---- the scope, by what is emitted in it

goes_in : (T : Table) (c : ℕ) (E : Env) (p : Env → MustCan) (q : Env → Option Stepped) (w : Selection) (fs : Faults)
    (s : Option Stepped) → Steady c p E [] [] → Closed s → Emits c s
    → q (put E c (absent T c)) ≡ pair (wrap Inside s) (Some (watching (First (First w)) fs))
    → (local_step T c p q E (unsolved false value.Unit)) >>= (λ a. Some (trap_step a))
    ≡ option_map (λ a. record (inside (counting_down w) a) { faults = a.faults ++ fs }) s
goes_in T c E p q w fs s steady h g e =
    ap (λ o. o >>= (λ a. Some (trap_step a)))
    (local_by T c p q E (unsolved false value.Unit) (absent T c) (solves T c p E [] [] steady false value.Unit) refl)
    ∙ ap (outer T c (absent T c)) e ∙ goes T c w fs s h g

kills_in : (T : Table) (c : ℕ) (E : Env) (p : Env → MustCan) (q : Env → Option Stepped) (n : Selection)
    (ts : List Touch) → Steady c p E (unit ∷ []) (unit ∷ [])
    → q (put E c (present T c)) ≡ pair (Some (rests n ts)) (watch c (Some (completes 0)))
    → (local_step T c p q E (unsolved false value.Unit)) >>= (λ a. Some (trap_step a))
    ≡ Some (record (completes 0) { touches = map stopped ts })
kills_in T c E p q n ts steady e =
    ap (λ o. o >>= (λ a. Some (trap_step a)))
    (local_by T c p q E (unsolved false value.Unit) (present T c)
    (solves T c p E (unit ∷ []) (unit ∷ []) steady false value.Unit) refl)
    ∙ ap (outer T c (present T c)) e ∙ kills T c n ts

-- ---- what is emitted

both_none : (c : ℕ) (a b : MustCan) → NoCells c a → NoCells c b → NoCells c (parallel a b)
both_none c a b h g = (
  cells_append c a.must b.must ∙ ap (λ z. z ++ cells_of c b.must) h.0 ∙ g.0,
  cells_append c a.can b.can ∙ ap (λ z. z ++ cells_of c b.can) h.1 ∙ g.1,
)

both_one : (c : ℕ) (a b : MustCan) → NoCells c a
    → (cells_of c b.must ≡ unit ∷ []) × (cells_of c b.can ≡ unit ∷ [])
    → (cells_of c (parallel a b).must ≡ unit ∷ []) × (cells_of c (parallel a b).can ≡ unit ∷ [])
both_one c a b h g = (
  cells_append c a.must b.must ∙ ap (λ z. z ++ cells_of c b.must) h.0 ∙ g.0,
  cells_append c a.can b.can ∙ ap (λ z. z ++ cells_of c b.can) h.1 ∙ g.1,
)

counts_by : (T : Table) (q : Statement) (t : Task) (F : Env) (a : Stepped) → step T q t F ≡ Some a → a.bag ≡ []
    → (must_can T q t Executed F).can ≡ [] → Counts (must_can T q t Executed F) a.code
counts_by T q t F a e bag can =
    let code = step_has_the_code_of_must T q t F a e in
    record {
      must = step_has_the_bag_of_must T q t F a e ∙ bag;
      can = can;
      code = code;
      ends = must_code_is_the_only_code T q t Executed F a.code code 0;
    }

emits_none : (T : Table) (c : ℕ) (d : Expr ℕ) (p : Statement) → IsOwn T c d p → (t : Task) (E : Env)
    → Emits c (step T p t E)
emits_none T c d p own t E = at (step T p t E) refl
  where
    at : (o : Option Stepped) → step T p t E ≡ o → Emits c o
    at (Some a) e = ap (cells_of c) (sym (step_has_the_bag_of_must T p t E a e)) ∙ own.must t Executed E
    at None e = tt

-- ---- the rule

abbrev statement : ℕ → ℕ → Expr ℕ → Statement → Statement
statement c n d p = Trap (Local c (branches c p (row.await_count plain n d)))

row_is : (c n : ℕ) (d : Expr ℕ) (p : Statement) → row.abort_count (kernel c) n d p ≡ statement c n d p
row_is c n d p =
    ap (λ x. Trap (Local c (Par (Seq (Suspend (Now c) p) (Exit 0)) x)))
    (three_items (λ p q. Seq p q) Nothing (row.await_count plain n d) (Emit c None) (Exit 0))

-- what counts, in a reaction where it goes on, and where it ends
steady_goes : (T : Table) (E : Env) (c : ℕ) (q : Statement) (t : Task) (p : Env → MustCan) (v : Selection) (fs : Faults)
    → ((x : SigCell) → NoCells c (p (put E c x)))
    → ((x : SigCell) → step T q t (put E c x) ≡ Some (watching v fs))
    → ((x : SigCell) → (must_can T q t Executed (put E c x)).can ≡ [])
    → Steady c (λ F. parallel (first_of (p F)) (second_of c (must_can T q t Executed F))) E [] []
steady_goes T E c q t p v fs h e can = record { must = λ x. (all x).0; can = λ x. (all x).1 }
  where
    all : (x : SigCell) → NoCells c (parallel (first_of (p (put E c x))) (second_of c (must_can T q t Executed (put E c x))))
    all x =
        both_none c (first_of (p (put E c x))) (second_of c (must_can T q t Executed (put E c x)))
        (first_none c (p (put E c x)) (h x))
        (goes_none c (must_can T q t Executed (put E c x))
        (counts_by T q t (put E c x) (watching v fs) (e x) refl (can x)))

steady_ends : (T : Table) (E : Env) (c : ℕ) (q : Statement) (t : Task) (p : Env → MustCan)
    → ((x : SigCell) → NoCells c (p (put E c x)))
    → ((x : SigCell) → step T q t (put E c x) ≡ Some (completes 0))
    → ((x : SigCell) → (must_can T q t Executed (put E c x)).can ≡ [])
    → Steady c (λ F. parallel (first_of (p F)) (second_of c (must_can T q t Executed F))) E (unit ∷ []) (unit ∷ [])
steady_ends T E c q t p h e can = record { must = λ x. (all x).0; can = λ x. (all x).1 }
  where
    all : (x : SigCell)
        → (cells_of c (parallel (first_of (p (put E c x))) (second_of c (must_can T q t Executed (put E c x)))).must
        ≡ unit ∷ [])
        × (cells_of c (parallel (first_of (p (put E c x))) (second_of c (must_can T q t Executed (put E c x)))).can
        ≡ unit ∷ [])
    all x =
        both_one c (first_of (p (put E c x))) (second_of c (must_can T q t Executed (put E c x)))
        (first_none c (p (put E c x)) (h x))
        (ends_one c (must_can T q t Executed (put E c x))
        (counts_by T q t (put E c x) (completes 0) (e x) refl (can x)))

starts : (T : Table) (E : Env) (c n : ℕ) (d : Expr ℕ) (p : Statement) (w : Selection) (ws : List Selection)
    → IsOwn T c d p → turns n ≡ w ∷ ws
    → step T (statement c n d p) Start E ≡ option_map (inside (counting_down w)) (step T p Start E)
starts T E c n d p w ws own turned =
    ap (λ v. (local_step T c (must_can T (branches c p q) Start Executed) (step T (branches c p q) Start) E
    (unsolved false v)) >>= (λ a. Some (trap_step a))) own.first
    ∙ goes_in T c E (must_can T (branches c p q) Start Executed) (step T (branches c p q) Start) w [] s
    (steady_goes T E c q Start (must_can T p Start Executed) w [] (λ x. (
      own.must Start Executed (put E c x),
      own.can Start Executed (put E c x),
    )) counts (λ x. (count_silent T n d).start Executed (put E c x)))
    (closed T p Start E) (emits_none T c d p own Start E) steps
    ∙ without_faults s
  where
    q : Statement
    q = row.await_count plain n d

    s : Option Stepped
    s = step T p Start E

    counts : (x : SigCell) → step T q Start (put E c x) ≡ Some (rests w [])
    counts x = (count_waits T n d).start (put E c x) ∙ ap goes_to turned

    steps : step T (branches c p q) Start (put E c (absent T c))
        ≡ pair (wrap Inside s) (Some (watching (First (First w)) []))
    steps =
        ap (λ o. pair (wrap Inside o) (watch c (step T q Start (put E c (absent T c))))) (own.step Start E (absent T c))
        ∙ ap (λ o. pair (wrap Inside s) (watch c o)) (counts (absent T c))

    without_faults : (o : Option Stepped)
        → option_map (λ a. record (inside (counting_down w) a) { faults = a.faults ++ [] }) o
        ≡ option_map (inside (counting_down w)) o
    without_faults None = refl
    without_faults (Some a) =
        ap (λ (y : Stepped). Some y)
        (same_steps (record (inside (counting_down w) a) { faults = a.faults ++ [] }) (inside (counting_down w) a) refl
        refl refl refl (append-nil a.faults) refl)

-- ---- a later reaction

abbrev mark_in : Selection → Selection → Selection
mark_in w m = Both (First (Inside m)) (First (First w))

suspended_none : (T : Table) (E : Env) (c : ℕ) (d : Expr ℕ) (p : Statement) (m : Selection) → IsOwn T c d p
    → (x : SigCell)
    → NoCells c (held_by (eval_of (Now c) (put E c x) []) Executed (λ j. must_can T p (Resume m) j (put E c x)))
suspended_none T E c d p m own x =
    held_none c (eval_of (Now c) (put E c x) []) Executed (λ j. must_can T p (Resume m) j (put E c x))
    (λ j. (own.must (Resume m) j (put E c x), own.can (Resume m) j (put E c x)))

resume_goes : (T : Table) (E : Env) (c n : ℕ) (d : Expr ℕ) (p : Statement) (w : Selection) (rest : List Selection)
    (m v : Selection) (fs : Faults) → IsOwn T c d p → Turn (turns n) w rest
    → ((x : SigCell) → step T (row.await_count plain n d) (Resume w) (put E c x) ≡ Some (watching v fs))
    → step T (statement c n d p) (Resume (counting_down w m)) E
    ≡ option_map (λ a. record (inside (counting_down v) a) { faults = a.faults ++ fs }) (step T p (Resume m) E)
resume_goes T E c n d p w rest m v fs own t counts =
    goes_in T c E (must_can T (branches c p q) (Resume (mark_in w m)) Executed)
    (step T (branches c p q) (Resume (mark_in w m))) v fs s
    (steady_goes T E c q (Resume w)
    (λ F. held_by (eval_of (Now c) F []) Executed (λ j. must_can T p (Resume m) j F)) v fs
    (suspended_none T E c d p m own) counts (λ x. (count_silent T n d).resume Executed (put E c x) w rest t))
    (closed T p (Resume m) E) (emits_none T c d p own (Resume m) E) steps
  where
    q : Statement
    q = row.await_count plain n d

    s : Option Stepped
    s = step T p (Resume m) E

    F : Env
    F = put E c (absent T c)

    steps : step T (branches c p q) (Resume (mark_in w m)) (put E c (absent T c))
        ≡ pair (wrap Inside s) (Some (watching (First (First v)) fs))
    steps =
        ap (λ z. pair (on_test z (Some (rests (Inside (held_mark m)) (held_touches p m)))
        (wrap Inside (step T p (Resume m) F))) (watch c (step T q (Resume w) F))) (now_is c E (absent T c))
        ∙ ap (λ o. pair (wrap Inside o) (watch c (step T q (Resume w) F))) (own.step (Resume m) E (absent T c))
        ∙ ap (λ o. pair (wrap Inside s) (watch c o)) (counts (absent T c))

resume_ends : (T : Table) (E : Env) (c n : ℕ) (d : Expr ℕ) (p : Statement) (w : Selection) (rest : List Selection)
    (m : Selection) → IsOwn T c d p → Turn (turns n) w rest
    → ((x : SigCell) → step T (row.await_count plain n d) (Resume w) (put E c x) ≡ Some (completes 0))
    → step T (statement c n d p) (Resume (counting_down w m)) E ≡ Some (killed p m)
resume_ends T E c n d p w rest m own t counts =
    kills_in T c E (must_can T (branches c p q) (Resume (mark_in w m)) Executed)
    (step T (branches c p q) (Resume (mark_in w m))) (Inside (held_mark m)) (held_touches p m)
    (steady_ends T E c q (Resume w)
    (λ F. held_by (eval_of (Now c) F []) Executed (λ j. must_can T p (Resume m) j F))
    (suspended_none T E c d p m own) counts (λ x. (count_silent T n d).resume Executed (put E c x) w rest t)) steps
  where
    q : Statement
    q = row.await_count plain n d

    F : Env
    F = put E c (present T c)

    steps : step T (branches c p q) (Resume (mark_in w m)) (put E c (present T c))
        ≡ pair (Some (rests (Inside (held_mark m)) (held_touches p m))) (watch c (Some (completes 0)))
    steps =
        ap (λ z. pair (on_test z (Some (rests (Inside (held_mark m)) (held_touches p m)))
        (wrap Inside (step T p (Resume m) F))) (watch c (step T q (Resume w) F))) (now_is c E (present T c))
        ∙ ap (λ o. pair (Some (rests (Inside (held_mark m)) (held_touches p m))) (watch c o)) (counts (present T c))

resume_none : (T : Table) (E : Env) (c n : ℕ) (d : Expr ℕ) (p : Statement) (w m : Selection)
    → ((x : SigCell) → step T (row.await_count plain n d) (Resume w) (put E c x) ≡ None)
    → step T (statement c n d p) (Resume (counting_down w m)) E ≡ None
resume_none T E c n d p w m counts =
    ap (λ o. o >>= (λ a. Some (trap_step a)))
    (local_none T c (must_can T (branches c p q) (Resume (mark_in w m)) Executed)
    (step T (branches c p q) (Resume (mark_in w m))) E (unsolved false value.Unit) none)
  where
    q : Statement
    q = row.await_count plain n d

    none : (x : SigCell) → step T (branches c p q) (Resume (mark_in w m)) (put E c x) ≡ None
    none x =
        let F : Env = put E c x in
        let o = on_test (eval_of (Now c) F []) (Some (rests (Inside (held_mark m)) (held_touches p m)))
        (wrap Inside (step T p (Resume m) F)) in
        ap (λ u. pair o (watch c u)) (counts x) ∙ pair_none o

-- where the test holds, by what is left
holds : (T : Table) (E : Env) (c n : ℕ) (d : Expr ℕ) (p : Statement) (w : Selection) (rest : List Selection)
    (m : Selection) → IsOwn T c d p → Turn (turns n) w rest
    → ((x : SigCell) → step T (row.await_count plain n d) (Resume w) (put E c x) ≡ goes_to rest)
    → step T (statement c n d p) (Resume (counting_down w m)) E
    ≡ counted_down rest (killed p m) (step T p (Resume m) E)
holds T E c n d p w [] m own t counts = resume_ends T E c n d p w [] m own t counts
holds T E c n d p w (v ∷ rest) m own t counts =
    resume_goes T E c n d p w (v ∷ rest) m v [] own t counts ∙ without_faults (step T p (Resume m) E)
  where
    without_faults : (o : Option Stepped)
        → option_map (λ a. record (inside (counting_down v) a) { faults = a.faults ++ [] }) o
        ≡ option_map (inside (counting_down v)) o
    without_faults None = refl
    without_faults (Some a) =
        ap (λ (y : Stepped). Some y)
        (same_steps (record (inside (counting_down v) a) { faults = a.faults ++ [] }) (inside (counting_down v) a) refl
        refl refl refl (append-nil a.faults) refl)

by_flag : (T : Table) (E : Env) (c n : ℕ) (d : Expr ℕ) (p : Statement) (w : Selection) (rest : List Selection)
    (m : Selection) (b : Bool) → IsOwn T c d p → Turn (turns n) w rest
    → ((x : SigCell) → step T (row.await_count plain n d) (Resume w) (put E c x)
    ≡ cond b (goes_to rest) (Some (rests w [])))
    → step T (statement c n d p) (Resume (counting_down w m)) E
    ≡ cond b (counted_down rest (killed p m) (step T p (Resume m) E))
    (option_map (λ a. record (inside (counting_down w) a) { faults = a.faults ++ [] }) (step T p (Resume m) E))
by_flag T E c n d p w rest m true own t counts = holds T E c n d p w rest m own t counts
by_flag T E c n d p w rest m false own t counts = resume_goes T E c n d p w rest m w [] own t counts

by_cell : (T : Table) (E : Env) (c n : ℕ) (d : Expr ℕ) (p : Statement) (w : Selection) (rest : List Selection)
    (m : Selection) (z : Cell) → IsOwn T c d p → Turn (turns n) w rest
    → ((x : SigCell) → step T (row.await_count plain n d) (Resume w) (put E c x)
    ≡ on_test z (goes_to rest) (Some (rests w [])))
    → step T (statement c n d p) (Resume (counting_down w m)) E
    ≡ by_test z (counted_down rest (killed p m) (step T p (Resume m) E))
    (option_map (λ a. then_fault z (inside (counting_down w) a)) (step T p (Resume m) E))
by_cell T E c n d p w rest m cell.Unknown own t counts = resume_none T E c n d p w m counts
by_cell T E c n d p w rest m (cell.Known v) own t counts = by_flag T E c n d p w rest m (truth v) own t counts
by_cell T E c n d p w rest m (cell.Faulted o k) own t counts =
    resume_goes T E c n d p w rest m w ((o, k) ∷ []) own t counts

resumes : (T : Table) (E : Env) (c n : ℕ) (d : Expr ℕ) (p : Statement) (w : Selection) (rest : List Selection)
    (m : Selection) → IsOwn T c d p → Turn (turns n) w rest
    → step T (statement c n d p) (Resume (counting_down w m)) E
    ≡ by_test (test d E) (counted_down rest (killed p m) (step T p (Resume m) E))
    (option_map (λ a. then_fault (test d E) (inside (counting_down w) a)) (step T p (Resume m) E))
resumes T E c n d p w rest m own t =
    by_cell T E c n d p w rest m (test d E) own t
    (λ x. (count_waits T n d).resume (put E c x) w rest t
    ∙ ap (λ z. on_test z (goes_to rest) (Some (rests w []))) (own.unread E x))

-- ---- its marks

pub at_start : (T : Table) (E : Env) (c n : ℕ) (d : Expr ℕ) (p : Statement) (w : Selection) (ws : List Selection)
    → IsOwn T c d p → turns n ≡ w ∷ ws → step T (row.abort_count (kernel c) n d p) Start E
    ≡ option_map (inside (counting_down w)) (step T p Start E)
at_start T E c n d p w ws own turned =
    ap (λ q. step T q Start E) (row_is c n d p) ∙ starts T E c n d p w ws own turned

pub later : (T : Table) (E : Env) (c n : ℕ) (d : Expr ℕ) (p : Statement) (w : Selection) (rest : List Selection)
    (m : Selection) → IsOwn T c d p → Turn (turns n) w rest
    → step T (row.abort_count (kernel c) n d p) (Resume (counting_down w m)) E
    ≡ by_test (test d E) (counted_down rest (killed p m) (step T p (Resume m) E))
    (option_map (λ a. then_fault (test d E) (inside (counting_down w) a)) (step T p (Resume m) E))
later T E c n d p w rest m own t =
    ap (λ q. step T q (Resume (counting_down w m)) E) (row_is c n d p) ∙ resumes T E c n d p w rest m own t

counted_next : (ws left : List Selection) (T : Table) (p : Statement) (m : Selection)
    → ((w : Selection) (rest : List Selection) → Turn left w rest → Turn ws w rest) → (o : Option Stepped)
    → NextMark (RestsAt T p) o → NextMark (CountRests counting_down ws T p) (counted_down left (killed p m) o)
counted_next ws [] T p m f o h = tt
counted_next ws (w ∷ left) T p m f o h = inside_next counting_down ws T p w left (f w left (now w left)) o h

pub enter_counts : (w m : Selection) (o u : Option Selection) → u ≡ None
    → option_map Inside (option_map (λ k. Scope k false value.Unit)
    (of_either (First (Inside m)) (option_map First (option_map Inside o)) (First (First w))
    (option_map First (option_map First u))))
    ≡ mark_map (counting_down w) o
enter_counts w m (Some n) u e = refl
enter_counts w m None u e =
    ap (λ x. option_map Inside (option_map (λ k. Scope k false value.Unit)
    (option_map (Both (First (Inside m))) (option_map First (option_map First x))))) e

rests_at : (T : Table) (c n : ℕ) (d : Expr ℕ) (p : Statement) (w : Selection) (ws : List Selection) (m : Selection)
    → IsOwn T c d p → turns n ≡ w ∷ ws → RestsAt T (row.abort_count (kernel c) n d p) m
    → CountRests counting_down (turns n) T p m
rests_at T c n d p w ws m own turned =
    kept T (row.abort_count (kernel c) n d p) (CountRests counting_down (turns n) T p)
    (record { start = start; resume = resume; hold = hold; enter = enter }) m
  where
    counts : Waits T d (row.await_count plain n d) (turns n)
    counts = count_waits T n d

    start : (E : Env)
        → NextMark (CountRests counting_down (turns n) T p) (step T (row.abort_count (kernel c) n d p) Start E)
    start E =
        subst (NextMark (CountRests counting_down (turns n) T p)) (sym (at_start T E c n d p w ws own turned))
        (inside_next counting_down (turns n) T p w ws (subst (λ vs. Turn vs w ws) (sym turned) (now w ws))
        (step T p Start E) ((keeps T p).start E))

    resume : (k : Selection) → CountRests counting_down (turns n) T p k → (E : Env)
        → NextMark (CountRests counting_down (turns n) T p) (step T (row.abort_count (kernel c) n d p) (Resume k) E)
    resume k (at_turn w rest m t h) E =
        let s = step T p (Resume m) E in
        let g = (keeps T p).resume m h E in
        subst (NextMark (CountRests counting_down (turns n) T p)) (sym (later T E c n d p w rest m own t))
        (by_test_next (CountRests counting_down (turns n) T p) (test d E) (counted_down rest (killed p m) s)
        (option_map (λ a. then_fault (test d E) (inside (counting_down w) a)) s)
        (counted_next (turns n) rest T p m (turn_behind (turns n) w rest t) s g)
        (watched_next counting_down (turns n) T p w rest t (test d E) s g))

    hold : (k : Selection) → CountRests counting_down (turns n) T p k
        → CountRests counting_down (turns n) T p (held_mark k)
    hold k (at_turn w rest m t h) =
        subst (λ (v : Selection). CountRests counting_down (turns n) T p (counting_down v (held_mark m)))
        (sym (counts.hold w rest t)) (at_turn w rest (held_mark m) t (held m h))

    enter : (k : Selection) → CountRests counting_down (turns n) T p k → (id : ℕ) (a : Item)
        → AnyMark (CountRests counting_down (turns n) T p) (with_item id a k)
    enter k (at_turn w rest m t h) id a =
        subst (AnyMark (CountRests counting_down (turns n) T p))
        (sym (enter_counts w m (with_item id a m) (with_item id a w) (counts.enter w rest t id a)))
        (mark_counts counting_down (turns n) T p w rest t (with_item id a m) ((keeps T p).enter m h id a))

-- ---- its row in numbers

pub counted_expands : (modules : ℕ → Piece) (pos : Pos) (i : ℕ) (d : Expr ℕ) (p : Piece) (a : Around) (n : Numbered)
    → StandsBelow pos p d a n
    → unplaced (row.abort_count (numbering modules pos) i d p a n).0
    ≡ row.abort_count (kernel (length n.signals)) i (in_numbers n d) (counted_body pos p a n)
counted_expands modules pos i d p a n s =
    let k = numbering modules pos in
    let c = length n.signals in
    let b = counted_body pos p a n in
    let behind = (p (in_counter a n) (with_signal (counter_signal pos) n)).1 in
    ap (λ (x : Piece). unplaced (k.trap (k.counter (k.par (k.seq (k.suspend_counted p) k.exit) x)) a n).0)
    (three_items k.seq k.nothing (row.await_count k i d) k.emit_counter k.exit)
    ∙ ap (λ e. Trap (Local c (Par (Seq (Suspend e b) (Exit 0))
    (Seq (Seq (unplaced (row.await_count k i d (in_counter a n) behind).0) (Emit c None)) (Exit 0)))))
    (expr-Now pos c)
    ∙ ap (λ x. Trap (Local c (branches c b x))) (count_stands modules pos i d (in_counter a n) behind).same
    ∙ ap (λ e. statement c i e b) s.kept
    ∙ sym (row_is c i (in_numbers n d) b)

pub abort_count_obeys : AbortCountObeys
abort_count_obeys =
    record { own = its_own; at_start = at_start; later = later; marks = rests_at; expands = counted_expands }

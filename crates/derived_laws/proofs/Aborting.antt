-- `abort` and `weakabort`, from what a body does beside what watches.
use Rattle.std.proofs.Common.{◌≡◌, refl, sym, ap, subst, ◌∙◌, ℕ, Bool, true, false, cond, Option, Some, None}
use Rattle.std.specs.Prelude.{option_map}
use Rattle.hh_base.specs.declared.value.Pos.{Pos}
use Rattle.hh_base.specs.declared.value.FaultKind.{FaultKind}
use Rattle.hh_base.specs.declared.item.Item.{Item}
use Rattle.host_expr.specs.declared.cell.Cell.{Cell}
use Rattle.host_expr.specs.declared.cell.Cell.TheVariants as cell
use Rattle.host_expr.specs.declared.expr.Expr.{Expr}
use Rattle.host_expr.specs.Environment.{Env}
use Rattle.host_expr.specs.Evaluation.{truth}
use Rattle.host_expr.specs.Expression.{expression_of}
use Rattle.hh_term.specs.Statement.{Statement, Nothing, If, Suspend, Seq, Par, Trap, Exit}
use Rattle.hh_term.specs.Selection.{Selection, First, Second, Both, Inside, Start, Resume}
use Rattle.hh_term.specs.Entering.{with_item, of_either}
use Rattle.hh_term.specs.MustCan.{Table}
use Rattle.hh_term.specs.Step.{Stepped, ◌>>=◌, completes, rests, mark_map, wrap, with_fault, on_test, step}
use Rattle.hh_term.specs.Touches.{held_mark, held_touches}
use Rattle.kernel_expand.specs.Numbering.{in_numbers, in_trap}
use Rattle.kernel_expand.specs.Rows as row
use Rattle.derived_laws.specs.Statements.{plain, test}
use Rattle.derived_laws.specs.Reactions.{inside, cut, then_fault, by_test, killed, preempts, cuts}
use Rattle.derived_laws.specs.Resting.{RestsAt, held, Round, round}
use Rattle.derived_laws.specs.Waits.{waiting, waiting_now}
use Rattle.derived_laws.specs.Aborts.{AbortObeys, AbortImmediateObeys, WeakAbortObeys, WeakAbortImmediateObeys}
use Rattle.derived_laws.specs.Aborts.{aborting, aborting_now, weakly_aborting, weakly_aborting_now, body}
use Rattle.derived_laws.proofs.Marks.{AnyMark, NextMark, kept, keeps}
use Rattle.derived_laws.proofs.Closing.{closed}
use Rattle.derived_laws.proofs.Waiting.{through_test, wait_resumes, wait_now_starts, wait_now_resumes}
use Rattle.derived_laws.proofs.Watching.{together, strong_step, strong_start, weak_step, weak_start}

-- ---- the next marks

mark_round : (f : Selection → Selection) (T : Table) (p : Statement) (o : Option Selection)
    → AnyMark (RestsAt T p) o → AnyMark (Round f T p) (mark_map f o)
mark_round f T p (Some m) h = round m h
mark_round f T p None h = tt

pub inside_next : (f : Selection → Selection) (T : Table) (p : Statement) (o : Option Stepped)
    → NextMark (RestsAt T p) o → NextMark (Round f T p) (option_map (inside f) o)
inside_next f T p (Some a) h = mark_round f T p a.next h
inside_next f T p None h = tt

watched_next : (f : Selection → Selection) (c : Cell) (T : Table) (p : Statement) (o : Option Stepped)
    → NextMark (RestsAt T p) o → NextMark (Round f T p) (option_map (λ a. then_fault c (inside f a)) o)
watched_next f c T p (Some a) h = mark_round f T p a.next h
watched_next f c T p None h = tt

flag_next : (M : Selection → Type 0) (b : Bool) (x y : Option Stepped) → NextMark M x → NextMark M y
    → NextMark M (cond b x y)
flag_next M true x y h g = h
flag_next M false x y h g = g

fault_next : (M : Selection → Type 0) (o : Pos) (k : FaultKind) (x : Option Stepped) → NextMark M x
    → NextMark M (x >>= (λ a. Some (with_fault (cell.Faulted o k) a)))
fault_next M o k (Some a) h = h
fault_next M o k None h = tt

pub test_next : (M : Selection → Type 0) (c : Cell) (x y : Option Stepped) → NextMark M x → NextMark M y
    → NextMark M (on_test c x y)
test_next M cell.Unknown x y h g = tt
test_next M (cell.Known v) x y h g = flag_next M (truth v) x y h g
test_next M (cell.Faulted o k) x y h g = fault_next M o k y g

pub by_test_next : (M : Selection → Type 0) (c : Cell) (x y : Option Stepped) → NextMark M x → NextMark M y
    → NextMark M (by_test c x y)
by_test_next M cell.Unknown x y h g = tt
by_test_next M (cell.Known v) x y h g = flag_next M (truth v) x y h g
by_test_next M (cell.Faulted o k) x y h g = g

pub preempts_next : (f : Selection → Selection) (c : Cell) (T : Table) (p : Statement) (m : Selection)
    (o : Option Stepped) → NextMark (RestsAt T p) o → NextMark (Round f T p) (preempts f c (killed p m) o)
preempts_next f c T p m o h =
    test_next (Round f T p) c (Some (killed p m)) (option_map (λ a. then_fault c (inside f a)) o) tt
    (watched_next f c T p o h)

pub cut_next : (M : Selection → Type 0) (o : Option Stepped) → NextMark M (option_map cut o)
cut_next M (Some a) = tt
cut_next M None = tt

pub cuts_next : (f : Selection → Selection) (c : Cell) (T : Table) (p : Statement) (o : Option Stepped)
    → NextMark (RestsAt T p) o → NextMark (Round f T p) (cuts f c o)
cuts_next f c T p o h =
    by_test_next (Round f T p) c (option_map cut o) (option_map (λ a. then_fault c (inside f a)) o)
    (cut_next (Round f T p) o) (watched_next f c T p o h)

-- a mark round the body's, by each way in which it changes
pub marks_round : (f : Selection → Selection) (T : Table) (p q : Statement)
    → ((E : Env) → NextMark (Round f T p) (step T q Start E))
    → ((m : Selection) → RestsAt T p m → (E : Env) → NextMark (Round f T p) (step T q (Resume (f m)) E))
    → ((m : Selection) → held_mark (f m) ≡ f (held_mark m))
    → ((m : Selection) (id : ℕ) (a : Item) → with_item id a (f m) ≡ mark_map f (with_item id a m))
    → (n : Selection) → RestsAt T q n → Round f T p n
marks_round f T p q start resume hold enter =
    kept T q (Round f T p) (record { start = start; resume = again; hold = holds; enter = enters })
  where
    again : (n : Selection) → Round f T p n → (E : Env) → NextMark (Round f T p) (step T q (Resume n) E)
    again n (round m h) E = resume m h E

    holds : (n : Selection) → Round f T p n → Round f T p (held_mark n)
    holds n (round m h) = subst (Round f T p) (sym (hold m)) (round (held_mark m) (held m h))

    enters : (n : Selection) → Round f T p n → (id : ℕ) (a : Item) → AnyMark (Round f T p) (with_item id a n)
    enters n (round m h) id a =
        subst (AnyMark (Round f T p)) (sym (enter m id a))
        (mark_round f T p (with_item id a m) ((keeps T p).enter m h id a))

strong_enter : (m : Selection) (o : Option Selection)
    → option_map Inside (of_either (First (Inside m)) (option_map First (option_map Inside o)) waiting None)
    ≡ mark_map aborting o
strong_enter m (Some n) = refl
strong_enter m None = refl

now_enter : (m : Selection) (o : Option Selection)
    → option_map Second (option_map Inside
    (of_either (First (Inside m)) (option_map First (option_map Inside o)) waiting None))
    ≡ mark_map aborting_now o
now_enter m (Some n) = refl
now_enter m None = refl

weak_enter : (w m : Selection) (o : Option Selection)
    → option_map Inside (of_either (First m) (option_map First o) w None)
    ≡ mark_map (λ m. Inside (Both (First m) w)) o
weak_enter w m (Some n) = refl
weak_enter w m None = refl

-- ---- what a row is, where the test keeps its numbers

pub same_waiting : (d e : Expr ℕ) → d ≡ e → row.waiting plain d ≡ row.waiting plain e
same_waiting d e h = ap (row.waiting plain) h

pub same_waiting_now : (d e : Expr ℕ) → d ≡ e → row.waiting_now plain d ≡ row.waiting_now plain e
same_waiting_now d e h = ap (row.waiting_now plain) h

abbrev pub suspended : Expr ℕ → Statement → Statement
suspended d p = Seq (Suspend (expression_of d) p) (Exit 0)

-- ---- `abort`

pub aborts_at : (T : Table) (E : Env) (d : Expr ℕ) (p : Statement)
    → step T (row.abort plain d p) Start E ≡ option_map (inside aborting) (step T p Start E)
aborts_at T E d p = strong_start waiting (step T p Start E) (closed T p Start E)

pub aborts_later : (T : Table) (E : Env) (d : Expr ℕ) (p : Statement) (m : Selection)
    → step T (row.abort plain d p) (Resume (aborting m)) E
    ≡ preempts aborting (test d E) (killed p m) (step T p (Resume m) E)
aborts_later T E d p m =
    ap (together (on_test (test d E) (Some (rests (Inside (held_mark m)) (held_touches p m)))
    (wrap Inside (step T p (Resume m) E)))) (wait_resumes T E d)
    ∙ strong_step waiting (Inside (held_mark m)) (held_touches p m) (test d E) (step T p (Resume m) E)
    (closed T p (Resume m) E)

pub abort_obeys : AbortObeys
abort_obeys =
    record {
      at_start = aborts_at;
      later = aborts_later;
      marks = λ T d p. marks_round aborting T p (row.abort plain d p) (starts T d p) (resumes T d p) (λ m. refl)
          (λ m id a. strong_enter m (with_item id a m));
      expands = λ modules pos d p a n s. let e = in_numbers n d in
          ap (λ w. Trap (Par (suspended e (body p a n)) w))
          (same_waiting (in_numbers (p (in_trap None a) n).1 d) e s.kept);
    }
  where
    starts : (T : Table) (d : Expr ℕ) (p : Statement) (E : Env)
        → NextMark (Round aborting T p) (step T (row.abort plain d p) Start E)
    starts T d p E =
        subst (NextMark (Round aborting T p)) (sym (aborts_at T E d p))
        (inside_next aborting T p (step T p Start E) ((keeps T p).start E))

    resumes : (T : Table) (d : Expr ℕ) (p : Statement) (m : Selection) → RestsAt T p m → (E : Env)
        → NextMark (Round aborting T p) (step T (row.abort plain d p) (Resume (aborting m)) E)
    resumes T d p m h E =
        subst (NextMark (Round aborting T p)) (sym (aborts_later T E d p m))
        (preempts_next aborting (test d E) T p m (step T p (Resume m) E) ((keeps T p).resume m h E))

-- ---- `abort immediate`

inside_twice : (o : Option Stepped) → wrap Second (option_map (inside aborting) o)
    ≡ option_map (inside aborting_now) o
inside_twice None = refl
inside_twice (Some a) = marks a.next
  where
    marks : (n : Option Selection)
        → Some (record (inside aborting a) { next = mark_map Second (mark_map aborting n) })
        ≡ Some (record (inside aborting_now a) { next = mark_map aborting_now n })
    marks (Some m) = refl
    marks None = refl

watched_twice : (c : Cell) (o : Option Stepped)
    → wrap Second (option_map (λ a. then_fault c (inside aborting a)) o)
    ≡ option_map (λ a. then_fault c (inside aborting_now a)) o
watched_twice c None = refl
watched_twice c (Some a) = marks a.next
  where
    marks : (n : Option Selection)
        → Some (record (then_fault c (inside aborting a)) { next = mark_map Second (mark_map aborting n) })
        ≡ Some (record (then_fault c (inside aborting_now a)) { next = mark_map aborting_now n })
    marks (Some m) = refl
    marks None = refl

faults_out : (f : Selection → Selection) (x : Option Stepped) (o : Pos) (k : FaultKind)
    → wrap f (x >>= (λ a. Some (with_fault (cell.Faulted o k) a)))
    ≡ (wrap f x) >>= (λ a. Some (with_fault (cell.Faulted o k) a))
faults_out f (Some a) o k = refl
faults_out f None o k = refl

wrap_test : (f : Selection → Selection) (c : Cell) (x y z : Option Stepped) → wrap f y ≡ z
    → wrap f (on_test c x y) ≡ on_test c (wrap f x) z
wrap_test f c x y z e =
    through_test (wrap f) c x y (wrap f x) z refl refl e
    (λ o k. faults_out f y o k ∙ ap (λ v. v >>= (λ a. Some (with_fault (cell.Faulted o k) a))) e)

now_starts : (T : Table) (E : Env) (d : Expr ℕ) (p : Statement)
    → step T (row.abort_immediate plain d p) Start E
    ≡ on_test (test d E) (Some (completes 0)) (option_map (inside aborting_now) (step T p Start E))
now_starts T E d p =
    ap (λ x. on_test (test d E) (Some (completes 0)) x)
    (ap (wrap Second) (aborts_at T E d p) ∙ inside_twice (step T p Start E))

now_later : (T : Table) (E : Env) (d : Expr ℕ) (p : Statement) (m : Selection)
    → step T (row.abort_immediate plain d p) (Resume (aborting_now m)) E
    ≡ preempts aborting_now (test d E) (killed p m) (step T p (Resume m) E)
now_later T E d p m =
    ap (wrap Second) (aborts_later T E d p m)
    ∙ wrap_test Second (test d E) (Some (killed p m))
    (option_map (λ a. then_fault (test d E) (inside aborting a)) (step T p (Resume m) E))
    (option_map (λ a. then_fault (test d E) (inside aborting_now a)) (step T p (Resume m) E))
    (watched_twice (test d E) (step T p (Resume m) E))

pub abort_immediate_obeys : AbortImmediateObeys
abort_immediate_obeys =
    record {
      at_start = now_starts;
      later = now_later;
      marks = λ T d p. marks_round aborting_now T p (row.abort_immediate plain d p) (starts T d p)
          (resumes T d p) (λ m. refl) (λ m id a. now_enter m (with_item id a m));
      expands = λ modules pos d p a n s. let e = in_numbers n d in
          ap (λ w. If (expression_of e) Nothing (Trap (Par (suspended e (body p a n)) w)))
          (same_waiting (in_numbers (p (in_trap None a) n).1 d) e s.kept);
    }
  where
    starts : (T : Table) (d : Expr ℕ) (p : Statement) (E : Env)
        → NextMark (Round aborting_now T p) (step T (row.abort_immediate plain d p) Start E)
    starts T d p E =
        subst (NextMark (Round aborting_now T p)) (sym (now_starts T E d p))
        (test_next (Round aborting_now T p) (test d E) (Some (completes 0))
        (option_map (inside aborting_now) (step T p Start E)) tt
        (inside_next aborting_now T p (step T p Start E) ((keeps T p).start E)))

    resumes : (T : Table) (d : Expr ℕ) (p : Statement) (m : Selection) → RestsAt T p m → (E : Env)
        → NextMark (Round aborting_now T p) (step T (row.abort_immediate plain d p) (Resume (aborting_now m)) E)
    resumes T d p m h E =
        subst (NextMark (Round aborting_now T p)) (sym (now_later T E d p m))
        (preempts_next aborting_now (test d E) T p m (step T p (Resume m) E) ((keeps T p).resume m h E))

-- ---- `weakabort`

weak_starts : (T : Table) (E : Env) (d : Expr ℕ) (p : Statement)
    → step T (row.weak_abort plain d p) Start E ≡ option_map (inside weakly_aborting) (step T p Start E)
weak_starts T E d p = weak_start waiting (step T p Start E) (closed T p Start E)

weak_later : (T : Table) (E : Env) (d : Expr ℕ) (p : Statement) (m : Selection)
    → step T (row.weak_abort plain d p) (Resume (weakly_aborting m)) E
    ≡ cuts weakly_aborting (test d E) (step T p (Resume m) E)
weak_later T E d p m =
    ap (together (step T p (Resume m) E)) (wait_resumes T E d)
    ∙ weak_step waiting (test d E) (step T p (Resume m) E) (closed T p (Resume m) E)

pub weak_abort_obeys : WeakAbortObeys
weak_abort_obeys =
    record {
      at_start = weak_starts;
      later = weak_later;
      marks = λ T d p. marks_round weakly_aborting T p (row.weak_abort plain d p) (starts T d p) (resumes T d p)
          (λ m. refl) (λ m id a. weak_enter waiting m (with_item id a m));
      expands = λ modules pos d p a n s. ap (λ w. Trap (Par (Seq (body p a n) (Exit 0)) w))
          (same_waiting (in_numbers (p (in_trap None a) n).1 d) (in_numbers n d) s.kept);
    }
  where
    starts : (T : Table) (d : Expr ℕ) (p : Statement) (E : Env)
        → NextMark (Round weakly_aborting T p) (step T (row.weak_abort plain d p) Start E)
    starts T d p E =
        subst (NextMark (Round weakly_aborting T p)) (sym (weak_starts T E d p))
        (inside_next weakly_aborting T p (step T p Start E) ((keeps T p).start E))

    resumes : (T : Table) (d : Expr ℕ) (p : Statement) (m : Selection) → RestsAt T p m → (E : Env)
        → NextMark (Round weakly_aborting T p) (step T (row.weak_abort plain d p) (Resume (weakly_aborting m)) E)
    resumes T d p m h E =
        subst (NextMark (Round weakly_aborting T p)) (sym (weak_later T E d p m))
        (cuts_next weakly_aborting (test d E) T p (step T p (Resume m) E) ((keeps T p).resume m h E))

-- ---- `weakabort immediate`

weak_now_starts : (T : Table) (E : Env) (d : Expr ℕ) (p : Statement)
    → step T (row.weak_abort_immediate plain d p) Start E
    ≡ cuts weakly_aborting_now (test d E) (step T p Start E)
weak_now_starts T E d p =
    ap (together (step T p Start E)) (wait_now_starts T E d)
    ∙ weak_step waiting_now (test d E) (step T p Start E) (closed T p Start E)

weak_now_later : (T : Table) (E : Env) (d : Expr ℕ) (p : Statement) (m : Selection)
    → step T (row.weak_abort_immediate plain d p) (Resume (weakly_aborting_now m)) E
    ≡ cuts weakly_aborting_now (test d E) (step T p (Resume m) E)
weak_now_later T E d p m =
    ap (together (step T p (Resume m) E)) (wait_now_resumes T E d)
    ∙ weak_step waiting_now (test d E) (step T p (Resume m) E) (closed T p (Resume m) E)

pub weak_abort_immediate_obeys : WeakAbortImmediateObeys
weak_abort_immediate_obeys =
    record {
      at_start = weak_now_starts;
      later = weak_now_later;
      marks = λ T d p. marks_round weakly_aborting_now T p (row.weak_abort_immediate plain d p) (starts T d p)
          (resumes T d p) (λ m. refl) (λ m id a. weak_enter waiting_now m (with_item id a m));
      expands = λ modules pos d p a n s. ap (λ w. Trap (Par (Seq (body p a n) (Exit 0)) w))
          (same_waiting_now (in_numbers (p (in_trap None a) n).1 d) (in_numbers n d) s.kept);
    }
  where
    starts : (T : Table) (d : Expr ℕ) (p : Statement) (E : Env)
        → NextMark (Round weakly_aborting_now T p) (step T (row.weak_abort_immediate plain d p) Start E)
    starts T d p E =
        subst (NextMark (Round weakly_aborting_now T p)) (sym (weak_now_starts T E d p))
        (cuts_next weakly_aborting_now (test d E) T p (step T p Start E) ((keeps T p).start E))

    resumes : (T : Table) (d : Expr ℕ) (p : Statement) (m : Selection) → RestsAt T p m → (E : Env)
        → NextMark (Round weakly_aborting_now T p)
        (step T (row.weak_abort_immediate plain d p) (Resume (weakly_aborting_now m)) E)
    resumes T d p m h E =
        subst (NextMark (Round weakly_aborting_now T p)) (sym (weak_now_later T E d p m))
        (cuts_next weakly_aborting_now (test d E) T p (step T p (Resume m) E) ((keeps T p).resume m h E))

-- `do .. every` and `every`, from `abort` in a loop.
use Rattle.std.proofs.Common.{◌≡◌, refl, sym, ap, subst, ◌∙◌, ℕ, zero, suc, Bool, true, false, cond, Option}
use Rattle.std.proofs.Common.{Some, None, List, [], map, append-nil}
use Rattle.std.specs.Prelude.{◌==◌, option_map}
use Rattle.hh_base.specs.declared.value.Pos.{Pos}
use Rattle.hh_base.specs.declared.value.FaultKind.{FaultKind}
use Rattle.hh_base.specs.declared.item.Item.{Item}
use Rattle.host_expr.specs.declared.cell.Cell.{Cell}
use Rattle.host_expr.specs.declared.cell.Cell.TheVariants as cell
use Rattle.host_expr.specs.declared.expr.Expr.{Expr}
use Rattle.host_expr.specs.Environment.{Env}
use Rattle.host_expr.specs.Evaluation.{truth}
use Rattle.hh_term.specs.Statement.{Statement, Pause, Seq, Loop}
use Rattle.hh_term.specs.Selection.{Selection, First, Second, Inside, Start, Resume}
use Rattle.hh_term.specs.Entering.{with_item, of_either}
use Rattle.hh_term.specs.MustCan.{Table, lower}
use Rattle.hh_term.specs.Step.{Stepped, ◌>>=◌, completes, rests, mark_map, wrapped, wrap, with_fault, joined}
use Rattle.hh_term.specs.Step.{then_start, on_test, step}
use Rattle.hh_term.specs.Touches.{Touch, stopped, held_mark, held_touches}
use Rattle.kernel_expand.specs.Rows as row
use Rattle.derived_laws.specs.Statements.{plain, test}
use Rattle.derived_laws.specs.Reactions.{inside, then_fault, killed, preempts}
use Rattle.derived_laws.specs.Resting.{RestsAt, held}
use Rattle.derived_laws.specs.Waits.{halted, waiting}
use Rattle.derived_laws.specs.Aborts.{aborting}
use Rattle.derived_laws.specs.Repeats.{idle, halts_behind, renewing, begins, renews, StaysIn, RenewRests}
use Rattle.derived_laws.specs.Repeats.{runs, ended}
use Rattle.derived_laws.proofs.Marks.{AnyMark, NextMark, Keeps, keeps}
use Rattle.derived_laws.proofs.Watching.{same_steps, marks_twice, above_nought}
use Rattle.derived_laws.proofs.Aborting.{aborts_at, aborts_later}

-- ---- a body with `halt` behind it

abbrev pub with_halt : Statement → Statement
with_halt p = Seq p (Loop Pause)

halts_if : (b : Bool) (a : Stepped)
    → cond b (Some (joined a (rests idle []))) (Some (wrapped First a))
    ≡ Some (cond b (record a { code = 1; next = Some idle }) (wrapped First a))
halts_if true a =
    ap (λ (x : Stepped). Some x)
    (same_steps (joined a (rests idle [])) (record a { code = 1; next = Some idle }) (append-nil a.bag) refl refl
    (append-nil a.touches) (append-nil a.faults) (append-nil a.doubled))
halts_if false a = refl

pub halts_at : (s : Option Stepped) → then_start First Second s (Some (rests halted [])) ≡ halts_behind s
halts_at None = refl
halts_at (Some a) = halts_if (a.code == 0) a

-- ---- a mark round another

pub wrap_inside : (f g : Selection → Selection) (o : Option Stepped)
    → wrap f (option_map (inside g) o) ≡ option_map (inside (λ m. f (g m))) o
wrap_inside f g None = refl
wrap_inside f g (Some a) =
    ap (λ (x : Stepped). Some x)
    (same_steps (wrapped f (inside g a)) (inside (λ m. f (g m)) a) refl refl (marks_twice f g a.next) refl refl refl)

pub wrap_watched : (f g : Selection → Selection) (c : Cell) (o : Option Stepped)
    → wrap f (option_map (λ a. then_fault c (inside g a)) o)
    ≡ option_map (λ a. then_fault c (inside (λ m. f (g m)) a)) o
wrap_watched f g c None = refl
wrap_watched f g c (Some a) =
    ap (λ (x : Stepped). Some x)
    (same_steps (wrapped f (then_fault c (inside g a))) (then_fault c (inside (λ m. f (g m)) a)) refl refl
    (marks_twice f g a.next) refl refl refl)

-- ---- what ends starts anew

abbrev pub kill_of : List Touch → Stepped
kill_of ts = record (completes 0) { touches = ts }

-- it goes on, or exits outward
abbrev pub Going : Option Stepped → Type 0
Going (Some a) = (lower a.code == 0) ≡ false
Going None = Unit {0}

anew : (ts : List Touch) (s : Option Stepped)
    → then_start Inside Inside (Some (kill_of ts)) (option_map (inside aborting) s)
    ≡ option_map (λ b. joined (kill_of ts) b) (begins renewing s)
anew ts None = refl
anew ts (Some b) =
    ap (λ (x : Stepped). Some x)
    (same_steps (joined (kill_of ts) (wrapped Inside (inside aborting b))) (joined (kill_of ts) (inside renewing b))
    refl refl (marks_twice Inside aborting b.next) refl refl refl)

goes_on : (c : Cell) (s q : Option Stepped) → Going s
    → then_start Inside Inside (option_map (λ a. then_fault c (inside aborting a)) s) q
    ≡ option_map (λ a. then_fault c (inside renewing a)) s
goes_on c None q h = refl
goes_on c (Some a) q h =
    ap (λ (b : Bool). cond b (q >>= (λ b. Some (joined x (wrapped Inside b)))) (Some (wrapped Inside x))) h
    ∙ wrap_watched Inside aborting c (Some a)
  where
    x : Stepped
    x = then_fault c (inside aborting a)

fault_on : (o : Pos) (k : FaultKind) (s q : Option Stepped) → Going s
    → then_start Inside Inside (option_map (λ a. then_fault (cell.Faulted o k) (inside aborting a)) s
    >>= (λ a. Some (with_fault (cell.Faulted o k) a))) q
    ≡ (option_map (λ a. then_fault (cell.Faulted o k) (inside renewing a)) s
    >>= (λ a. Some (with_fault (cell.Faulted o k) a)))
fault_on o k None q h = refl
fault_on o k (Some a) q h =
    ap (λ (b : Bool). cond b (q >>= (λ b. Some (joined x (wrapped Inside b)))) (Some (wrapped Inside x))) h
    ∙ ap (λ (y : Stepped). Some y)
    (same_steps (wrapped Inside x) (with_fault (cell.Faulted o k) (then_fault (cell.Faulted o k) (inside renewing a)))
    refl refl (marks_twice Inside aborting a.next) refl refl refl)
  where
    x : Stepped
    x = with_fault (cell.Faulted o k) (then_fault (cell.Faulted o k) (inside aborting a))

flag_renews : (ts : List Touch) (v : Cell) (b : Bool) (s q : Option Stepped) → Going s
    → then_start Inside Inside (cond b (Some (kill_of ts)) (option_map (λ a. then_fault v (inside aborting a)) s))
    (option_map (inside aborting) q)
    ≡ cond b (option_map (λ b. joined (kill_of ts) b) (begins renewing q))
    (option_map (λ a. then_fault v (inside renewing a)) s)
flag_renews ts v true s q h = anew ts q
flag_renews ts v false s q h = goes_on v s (option_map (inside aborting) q) h

renewal : (ts : List Touch) (c : Cell) (s q : Option Stepped) → Going s
    → then_start Inside Inside (preempts aborting c (kill_of ts) s) (option_map (inside aborting) q)
    ≡ renews renewing c (kill_of ts) s q
renewal ts cell.Unknown s q h = refl
renewal ts (cell.Known v) s q h = flag_renews ts (cell.Known v) (truth v) s q h
renewal ts (cell.Faulted o k) s q h = fault_on o k s (option_map (inside aborting) q) h

-- a body that does not leave the row's own trap
halting_code : (code : ℕ) (a : Stepped) → a.code ≡ code → (code == 2) ≡ false
    → (lower (cond (code == 0) (record a { code = 1; next = Some idle }) (wrapped First a)).code == 0) ≡ false
halting_code zero a e h = refl
halting_code (suc zero) a e h = ap (λ (n : ℕ). lower n == 0) e
halting_code (suc (suc zero)) a e h = cc
halting_code (suc (suc (suc c))) a e h =
    subst (λ b. (lower (cond b (record a { code = 1; next = Some idle }) (wrapped First a)).code == 0) ≡ false)
    (sym (above_nought (suc c))) (ap (λ (n : ℕ). lower n == 0) e ∙ above_nought c)

pub going : (s : Option Stepped) → StaysIn s → Going (halts_behind s)
going None h = tt
going (Some a) h = halting_code a.code a refl h

-- ---- `do .. every`

pub do_starts : (T : Table) (E : Env) (d : Expr ℕ) (p : Statement)
    → step T (row.do_every plain d p) Start E ≡ begins renewing (halts_behind (step T p Start E))
do_starts T E d p =
    ap (wrap Inside) (aborts_at T E d (with_halt p) ∙ ap (option_map (inside aborting)) (halts_at (step T p Start E)))
    ∙ wrap_inside Inside aborting (halts_behind (step T p Start E))

-- whatever the body's code
do_resumes : (T : Table) (E : Env) (d : Expr ℕ) (p : Statement) (n : Selection)
    → step T (row.do_every plain d p) (Resume (renewing n)) E
    ≡ then_start Inside Inside
    (preempts aborting (test d E) (killed (with_halt p) n) (step T (with_halt p) (Resume n) E))
    (option_map (inside aborting) (halts_behind (step T p Start E)))
do_resumes T E d p n =
    ap (λ o. then_start Inside Inside o (step T (row.abort plain d (with_halt p)) Start E))
    (aborts_later T E d (with_halt p) n)
    ∙ ap (then_start Inside Inside
    (preempts aborting (test d E) (killed (with_halt p) n) (step T (with_halt p) (Resume n) E)))
    (aborts_at T E d (with_halt p) ∙ ap (option_map (inside aborting)) (halts_at (step T p Start E)))

pub do_later : (T : Table) (E : Env) (d : Expr ℕ) (p : Statement) (m : Selection)
    → StaysIn (step T p (Resume m) E) → step T (row.do_every plain d p) (Resume (renewing (First m))) E
    ≡ renews renewing (test d E) (killed p m) (halts_behind (step T p (Resume m) E))
    (halts_behind (step T p Start E))
do_later T E d p m h =
    do_resumes T E d p (First m)
    ∙ ap (λ s. then_start Inside Inside (preempts aborting (test d E) (killed p m) s)
    (option_map (inside aborting) (halts_behind (step T p Start E)))) (halts_at (step T p (Resume m) E))
    ∙ renewal (map stopped (held_touches p m)) (test d E) (halts_behind (step T p (Resume m) E))
    (halts_behind (step T p Start E)) (going (step T p (Resume m) E) h)

pub do_idle : (T : Table) (E : Env) (d : Expr ℕ) (p : Statement)
    → step T (row.do_every plain d p) (Resume (renewing idle)) E
    ≡ renews renewing (test d E) (completes 0) (Some (rests idle [])) (halts_behind (step T p Start E))
do_idle T E d p =
    do_resumes T E d p idle
    ∙ renewal [] (test d E) (Some (rests idle [])) (halts_behind (step T p Start E)) refl

-- ---- its marks

first_next : (f : Selection → Selection) (T : Table) (p : Statement) (o : Option Selection)
    → AnyMark (RestsAt T p) o → AnyMark (RenewRests f T p) (mark_map f (mark_map First o))
first_next f T p (Some m) h = runs m h
first_next f T p None h = tt

halts_next : (f : Selection → Selection) (T : Table) (p : Statement) (b : Bool) (a : Stepped)
    → AnyMark (RestsAt T p) a.next
    → AnyMark (RenewRests f T p) (mark_map f (cond b (record a { code = 1; next = Some idle }) (wrapped First a)).next)
halts_next f T p true a h = ended
halts_next f T p false a h = first_next f T p a.next h

pub begins_next : (f : Selection → Selection) (T : Table) (p : Statement) (o : Option Stepped)
    → NextMark (RestsAt T p) o → NextMark (RenewRests f T p) (begins f (halts_behind o))
begins_next f T p (Some a) h = halts_next f T p (a.code == 0) a h
begins_next f T p None h = tt

watched_next : (f : Selection → Selection) (c : Cell) (T : Table) (p : Statement) (o : Option Stepped)
    → NextMark (RestsAt T p) o
    → NextMark (RenewRests f T p) (option_map (λ a. then_fault c (inside f a)) (halts_behind o))
watched_next f c T p (Some a) h = halts_next f T p (a.code == 0) a h
watched_next f c T p None h = tt

pub then_next : (M : Selection → Type 0) (f g : Selection → Selection) (p q : Option Stepped)
    → NextMark M (wrap f p) → NextMark M (wrap g q) → NextMark M (then_start f g p q)
then_next M f g None q h k = tt
then_next M f g (Some a) q h k = at (a.code == 0) q k
  where
    at : (b : Bool) (q : Option Stepped) → NextMark M (wrap g q)
        → NextMark M (cond b (q >>= (λ b. Some (joined a (wrapped g b)))) (Some (wrapped f a)))
    at true (Some b) k = k
    at true None k = tt
    at false q k = h

fault_wraps : (f : Selection → Selection) (M : Selection → Type 0) (c : Cell) (s : Option Stepped) (kill : Stepped)
    → kill.next ≡ None → NextMark M (wrap f s) → NextMark M (wrap f (on_test c (Some kill) s))
fault_wraps f M cell.Unknown s kill e h = tt
fault_wraps f M (cell.Known v) s kill e h = at (truth v)
  where
    at : (b : Bool) → NextMark M (wrap f (cond b (Some kill) s))
    at true = subst (λ (n : Option Selection). AnyMark M (mark_map f n)) (sym e) tt
    at false = h
fault_wraps f M (cell.Faulted o k) (Some a) kill e h = h
fault_wraps f M (cell.Faulted o k) None kill e h = tt

enter_runs : (m : Selection) (o : Option Selection)
    → option_map Inside (option_map Inside (of_either (First (Inside (First m)))
    (option_map First (option_map Inside (option_map First o))) waiting None))
    ≡ mark_map renewing (mark_map First o)
enter_runs m (Some n) = refl
enter_runs m None = refl

pub do_keeps : (T : Table) (d : Expr ℕ) (p : Statement) → Keeps T (row.do_every plain d p) (RenewRests renewing T p)
do_keeps T d p = record { start = start; resume = resume; hold = hold; enter = enter }
  where
    start : (E : Env) → NextMark (RenewRests renewing T p) (step T (row.do_every plain d p) Start E)
    start E =
        subst (NextMark (RenewRests renewing T p)) (sym (do_starts T E d p))
        (begins_next renewing T p (step T p Start E) ((keeps T p).start E))

    again : (E : Env) → NextMark (RenewRests renewing T p)
        (wrap Inside (option_map (inside aborting) (halts_behind (step T p Start E))))
    again E =
        subst (NextMark (RenewRests renewing T p))
        (sym (wrap_inside Inside aborting (halts_behind (step T p Start E))))
        (begins_next renewing T p (step T p Start E) ((keeps T p).start E))

    at : (n : Selection) (E : Env)
        → NextMark (RenewRests renewing T p)
        (option_map (λ a. then_fault (test d E) (inside renewing a)) (step T (with_halt p) (Resume n) E))
        → NextMark (RenewRests renewing T p) (step T (row.do_every plain d p) (Resume (renewing n)) E)
    at n E h =
        let s = step T (with_halt p) (Resume n) E in
        subst (NextMark (RenewRests renewing T p)) (sym (do_resumes T E d p n))
        (then_next (RenewRests renewing T p) Inside Inside
        (preempts aborting (test d E) (killed (with_halt p) n) s)
        (option_map (inside aborting) (halts_behind (step T p Start E)))
        (fault_wraps Inside (RenewRests renewing T p) (test d E)
        (option_map (λ a. then_fault (test d E) (inside aborting a)) s) (killed (with_halt p) n) refl
        (subst (NextMark (RenewRests renewing T p)) (sym (wrap_watched Inside aborting (test d E) s)) h))
        (again E))

    resume : (n : Selection) → RenewRests renewing T p n → (E : Env)
        → NextMark (RenewRests renewing T p) (step T (row.do_every plain d p) (Resume n) E)
    resume n (runs m h) E =
        at (First m) E
        (subst (λ o. NextMark (RenewRests renewing T p) (option_map (λ a. then_fault (test d E) (inside renewing a)) o))
        (sym (halts_at (step T p (Resume m) E)))
        (watched_next renewing (test d E) T p (step T p (Resume m) E) ((keeps T p).resume m h E)))
    resume n ended E = at idle E ended

    hold : (n : Selection) → RenewRests renewing T p n → RenewRests renewing T p (held_mark n)
    hold n (runs m h) = runs (held_mark m) (held m h)
    hold n ended = ended

    enter : (n : Selection) → RenewRests renewing T p n → (id : ℕ) (a : Item)
        → AnyMark (RenewRests renewing T p) (with_item id a n)
    enter n (runs m h) id a =
        subst (AnyMark (RenewRests renewing T p)) (sym (enter_runs m (with_item id a m)))
        (first_next renewing T p (with_item id a m) ((keeps T p).enter m h id a))
    enter n ended id a = tt

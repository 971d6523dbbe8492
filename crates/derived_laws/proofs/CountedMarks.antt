-- Where control rests in `do .. every` and `every` with a count, and their rules.
use Rattle.std.proofs.Common.{◌≡◌, sym, ap, subst, ◌∙◌, ℕ, Bool, true, false, cond, Option, Some, None}
use Rattle.std.proofs.Common.{List, [], ◌∷◌}
use Rattle.std.specs.Prelude.{◌==◌, option_map}
use Rattle.hh_base.specs.declared.item.Item.{Item}
use Rattle.host_expr.specs.declared.cell.Cell.{Cell}
use Rattle.host_expr.specs.declared.cell.Cell.TheVariants as cell
use Rattle.host_expr.specs.declared.expr.Expr.{Expr}
use Rattle.host_expr.specs.Environment.{Env}
use Rattle.host_expr.specs.Evaluation.{truth}
use Rattle.hh_term.specs.Statement.{Statement}
use Rattle.hh_term.specs.Selection.{Selection, First, Second, Inside, Start, Resume}
use Rattle.hh_term.specs.Entering.{with_item}
use Rattle.hh_term.specs.MustCan.{Table}
use Rattle.hh_term.specs.Step.{Stepped, completes, rests, mark_map, wrapped, wrap, step}
use Rattle.hh_term.specs.Touches.{held_mark}
use Rattle.kernel_expand.specs.Rows as row
use Rattle.derived_laws.specs.Statements.{kernel, plain, test}
use Rattle.derived_laws.specs.Reactions.{inside, killed, then_fault, by_test}
use Rattle.derived_laws.specs.Resting.{RestsAt, held}
use Rattle.derived_laws.specs.Counts.{turns, Turn, now, goes_to}
use Rattle.derived_laws.specs.CountedAborts.{IsOwn, counting_down, counted_down}
use Rattle.derived_laws.specs.Repeats.{idle, halts_behind, begins}
use Rattle.derived_laws.specs.CountedRepeats.{renewing_down, CountRenewRests, runs, ended, EveryCountRests, before}
use Rattle.derived_laws.specs.CountedRepeats.{behind, DoEveryCountObeys, EveryCountObeys}
use Rattle.derived_laws.proofs.Marks.{AnyMark, NextMark, Keeps, kept, keeps}
use Rattle.derived_laws.proofs.Turns.{Waits, count_waits, turn_behind, OneOf, goes_next}
use Rattle.derived_laws.proofs.Aborting.{test_next}
use Rattle.derived_laws.proofs.Repeating.{with_halt, halts_at, wrap_inside, wrap_watched, then_next}
use Rattle.derived_laws.proofs.CountedAborting.{enter_counts}
use Rattle.derived_laws.proofs.CountedRepeating.{do_starts, do_resumes, do_later, do_idle, do_expands}
use Rattle.derived_laws.proofs.CountedRepeating.{renews_behind, every_before, every_starts, every_expands}

-- a mark of the body with `halt` behind it, round which each mark in turn may stand
abbrev Fits : List Selection → Table → Statement → Selection → Type 0
Fits ws T p k = (w : Selection) (rest : List Selection) → Turn ws w rest
    → CountRenewRests renewing_down ws T p (renewing_down w k)

fit_first : (ws : List Selection) (T : Table) (p : Statement) (o : Option Selection) → AnyMark (RestsAt T p) o
    → AnyMark (Fits ws T p) (mark_map First o)
fit_first ws T p (Some m) h = λ w rest t. runs w rest m t h
fit_first ws T p None h = tt

fit_if : (ws : List Selection) (T : Table) (p : Statement) (b : Bool) (a : Stepped) → AnyMark (RestsAt T p) a.next
    → AnyMark (Fits ws T p) (cond b (record a { code = 1; next = Some idle }) (wrapped First a)).next
fit_if ws T p true a h = λ w rest t. ended w rest t
fit_if ws T p false a h = fit_first ws T p a.next h

fit_halts : (ws : List Selection) (T : Table) (p : Statement) (o : Option Stepped) → NextMark (RestsAt T p) o
    → NextMark (Fits ws T p) (halts_behind o)
fit_halts ws T p (Some a) h = fit_if ws T p (a.code == 0) a h
fit_halts ws T p None h = tt

fit_mark : (ws : List Selection) (T : Table) (p : Statement) (w : Selection) (rest : List Selection) → Turn ws w rest
    → (o : Option Selection) → AnyMark (Fits ws T p) o
    → AnyMark (CountRenewRests renewing_down ws T p) (mark_map (renewing_down w) o)
fit_mark ws T p w rest t (Some k) h = h w rest t
fit_mark ws T p w rest t None h = tt

fit_begins : (ws : List Selection) (T : Table) (p : Statement) (w : Selection) (rest : List Selection)
    → Turn ws w rest → (o : Option Stepped) → NextMark (Fits ws T p) o
    → NextMark (CountRenewRests renewing_down ws T p) (begins (renewing_down w) o)
fit_begins ws T p w rest t (Some a) h = fit_mark ws T p w rest t a.next h
fit_begins ws T p w rest t None h = tt

fit_watched : (ws : List Selection) (T : Table) (p : Statement) (w : Selection) (rest : List Selection)
    → Turn ws w rest → (c : Cell) (o : Option Stepped) → NextMark (Fits ws T p) o
    → NextMark (CountRenewRests renewing_down ws T p) (option_map (λ a. then_fault c (inside (renewing_down w) a)) o)
fit_watched ws T p w rest t c (Some a) h = fit_mark ws T p w rest t a.next h
fit_watched ws T p w rest t c None h = tt

-- what `abort count` leaves, in its loop
fit_counted : (ws : List Selection) (T : Table) (p q : Statement) (k : Selection) (left : List Selection)
    → ((w : Selection) (rest : List Selection) → Turn left w rest → Turn ws w rest) → (o : Option Stepped)
    → NextMark (Fits ws T p) o
    → NextMark (CountRenewRests renewing_down ws T p) (wrap Inside (counted_down left (killed q k) o))
fit_counted ws T p q k [] f o h = tt
fit_counted ws T p q k (w ∷ left) f o h =
    subst (NextMark (CountRenewRests renewing_down ws T p)) (sym (wrap_inside Inside (counting_down w) o))
    (fit_begins ws T p w left (f w left (now w left)) o h)

wrap_by_test : (M : Selection → Type 0) (c : Cell) (x y : Option Stepped) → NextMark M (wrap Inside x)
    → NextMark M (wrap Inside y) → NextMark M (wrap Inside (by_test c x y))
wrap_by_test M cell.Unknown x y h g = tt
wrap_by_test M (cell.Known v) x y h g = at (truth v)
  where
    at : (b : Bool) → NextMark M (wrap Inside (cond b x y))
    at true = h
    at false = g
wrap_by_test M (cell.Faulted o k) x y h g = g

enter_some : (ws : List Selection) (T : Table) (p : Statement) (w : Selection) (rest : List Selection)
    → Turn ws w rest → (o : Option Selection) → AnyMark (Fits ws T p) o
    → AnyMark (CountRenewRests renewing_down ws T p) (option_map Inside (mark_map (counting_down w) o))
enter_some ws T p w rest t (Some k) h = h w rest t
enter_some ws T p w rest t None h = tt

first_some : (ws : List Selection) (T : Table) (p : Statement) (o : Option Selection) → AnyMark (RestsAt T p) o
    → AnyMark (Fits ws T p) (option_map First o)
first_some ws T p (Some m) h = λ w rest t. runs w rest m t h
first_some ws T p None h = tt

do_keeps : (T : Table) (c n : ℕ) (d : Expr ℕ) (p : Statement) (first : Selection) (ws : List Selection)
    → IsOwn T c d p → turns n ≡ first ∷ ws
    → Keeps T (row.do_every_count (kernel c) n d p) (CountRenewRests renewing_down (turns n) T p)
do_keeps T c n d p first ws own turned = record { start = start; resume = resume; hold = hold; enter = enter }
  where
    counts : Waits T d (row.await_count plain n d) (turns n)
    counts = count_waits T n d

    at_first : Turn (turns n) first ws
    at_first = subst (λ vs. Turn vs first ws) (sym turned) (now first ws)

    begun : (E : Env) → NextMark (CountRenewRests renewing_down (turns n) T p)
        (begins (renewing_down first) (halts_behind (step T p Start E)))
    begun E =
        fit_begins (turns n) T p first ws at_first (halts_behind (step T p Start E))
        (fit_halts (turns n) T p (step T p Start E) ((keeps T p).start E))

    start : (E : Env) → NextMark (CountRenewRests renewing_down (turns n) T p)
        (step T (row.do_every_count (kernel c) n d p) Start E)
    start E =
        subst (NextMark (CountRenewRests renewing_down (turns n) T p))
        (sym (do_starts T E c n d p first ws own turned)) (begun E)

    again : (E : Env) → NextMark (CountRenewRests renewing_down (turns n) T p)
        (wrap Inside (option_map (inside (counting_down first)) (halts_behind (step T p Start E))))
    again E =
        subst (NextMark (CountRenewRests renewing_down (turns n) T p))
        (sym (wrap_inside Inside (counting_down first) (halts_behind (step T p Start E)))) (begun E)

    at : (w : Selection) (rest : List Selection) (k : Selection) → Turn (turns n) w rest → (E : Env)
        → NextMark (Fits (turns n) T p) (step T (with_halt p) (Resume k) E)
        → NextMark (CountRenewRests renewing_down (turns n) T p)
        (step T (row.do_every_count (kernel c) n d p) (Resume (renewing_down w k)) E)
    at w rest k t E h =
        let s = step T (with_halt p) (Resume k) E in
        let kill = killed (with_halt p) k in
        let on = option_map (λ a. then_fault (test d E) (inside (counting_down w) a)) s in
        subst (NextMark (CountRenewRests renewing_down (turns n) T p))
        (sym (do_resumes T E c n d p first w ws rest k own turned t))
        (then_next (CountRenewRests renewing_down (turns n) T p) Inside Inside
        (by_test (test d E) (counted_down rest kill s) on)
        (option_map (inside (counting_down first)) (halts_behind (step T p Start E)))
        (wrap_by_test (CountRenewRests renewing_down (turns n) T p) (test d E) (counted_down rest kill s) on
        (fit_counted (turns n) T p (with_halt p) k rest (turn_behind (turns n) w rest t) s h)
        (subst (NextMark (CountRenewRests renewing_down (turns n) T p))
        (sym (wrap_watched Inside (counting_down w) (test d E) s))
        (fit_watched (turns n) T p w rest t (test d E) s h)))
        (again E))

    resume : (k : Selection) → CountRenewRests renewing_down (turns n) T p k → (E : Env)
        → NextMark (CountRenewRests renewing_down (turns n) T p)
        (step T (row.do_every_count (kernel c) n d p) (Resume k) E)
    resume k (runs w rest m t h) E =
        at w rest (First m) t E
        (subst (NextMark (Fits (turns n) T p)) (sym (halts_at (step T p (Resume m) E)))
        (fit_halts (turns n) T p (step T p (Resume m) E) ((keeps T p).resume m h E)))
    resume k (ended w rest t) E = at w rest idle t E (λ v r u. ended v r u)

    hold : (k : Selection) → CountRenewRests renewing_down (turns n) T p k
        → CountRenewRests renewing_down (turns n) T p (held_mark k)
    hold k (runs w rest m t h) =
        subst (λ (v : Selection). CountRenewRests renewing_down (turns n) T p (renewing_down v (First (held_mark m))))
        (sym (counts.hold w rest t)) (runs w rest (held_mark m) t (held m h))
    hold k (ended w rest t) =
        subst (λ (v : Selection). CountRenewRests renewing_down (turns n) T p (renewing_down v idle))
        (sym (counts.hold w rest t)) (ended w rest t)

    enter : (k : Selection) → CountRenewRests renewing_down (turns n) T p k → (id : ℕ) (a : Item)
        → AnyMark (CountRenewRests renewing_down (turns n) T p) (with_item id a k)
    enter k (runs w rest m t h) id a =
        subst (AnyMark (CountRenewRests renewing_down (turns n) T p))
        (sym (ap (option_map Inside)
        (enter_counts w (First m) (option_map First (with_item id a m)) (with_item id a w)
        (counts.enter w rest t id a))))
        (enter_some (turns n) T p w rest t (option_map First (with_item id a m))
        (first_some (turns n) T p (with_item id a m) ((keeps T p).enter m h id a)))
    enter k (ended w rest t) id a =
        subst (AnyMark (CountRenewRests renewing_down (turns n) T p))
        (sym (ap (option_map Inside) (enter_counts w idle None (with_item id a w) (counts.enter w rest t id a)))) tt

pub do_rests : (T : Table) (c n : ℕ) (d : Expr ℕ) (p : Statement) (first : Selection) (ws : List Selection)
    (m : Selection) → IsOwn T c d p → turns n ≡ first ∷ ws → RestsAt T (row.do_every_count (kernel c) n d p) m
    → CountRenewRests renewing_down (turns n) T p m
do_rests T c n d p first ws m own turned =
    kept T (row.do_every_count (kernel c) n d p) (CountRenewRests renewing_down (turns n) T p)
    (do_keeps T c n d p first ws own turned) m

-- ---- behind what waits

wait_next : (ws : List Selection) (T : Table) (p : Statement) (o : Option Stepped) → NextMark (OneOf ws) o
    → NextMark (EveryCountRests ws T p) (wrap First o)
wait_next ws T p None h = tt
wait_next ws T p (Some a) h = at a.next h
  where
    at : (n : Option Selection) → AnyMark (OneOf ws) n → AnyMark (EveryCountRests ws T p) (mark_map First n)
    at (Some w) g = before w g.0 g.1
    at None g = tt

any_behind : (ws : List Selection) (T : Table) (p : Statement) (o : Option Selection)
    → AnyMark (CountRenewRests renewing_down ws T p) o → AnyMark (EveryCountRests ws T p) (mark_map Second o)
any_behind ws T p (Some m) h = behind m h
any_behind ws T p None h = tt

next_behind : (ws : List Selection) (T : Table) (p : Statement) (o : Option Stepped)
    → NextMark (CountRenewRests renewing_down ws T p) o → NextMark (EveryCountRests ws T p) (wrap Second o)
next_behind ws T p (Some a) h = any_behind ws T p a.next h
next_behind ws T p None h = tt

enter_behind : (ws : List Selection) (T : Table) (p : Statement) (o : Option Selection)
    → AnyMark (CountRenewRests renewing_down ws T p) o → AnyMark (EveryCountRests ws T p) (option_map Second o)
enter_behind ws T p (Some m) h = behind m h
enter_behind ws T p None h = tt

pub every_rests : (T : Table) (c n : ℕ) (d : Expr ℕ) (p : Statement) (first : Selection) (ws : List Selection)
    (m : Selection) → IsOwn T c d p → turns n ≡ first ∷ ws → RestsAt T (row.every_count (kernel c) n d p) m
    → EveryCountRests (turns n) T p m
every_rests T c n d p first ws m own turned =
    kept T (row.every_count (kernel c) n d p) (EveryCountRests (turns n) T p)
    (record { start = start; resume = resume; hold = hold; enter = enter }) m
  where
    counts : Waits T d (row.await_count plain n d) (turns n)
    counts = count_waits T n d

    keep : Keeps T (row.do_every_count (kernel c) n d p) (CountRenewRests renewing_down (turns n) T p)
    keep = do_keeps T c n d p first ws own turned

    start : (E : Env) → NextMark (EveryCountRests (turns n) T p) (step T (row.every_count (kernel c) n d p) Start E)
    start E =
        then_next (EveryCountRests (turns n) T p) First Second (step T (row.await_count plain n d) Start E)
        (step T (row.do_every_count (kernel c) n d p) Start E)
        (wait_next (turns n) T p (step T (row.await_count plain n d) Start E)
        (subst (NextMark (OneOf (turns n))) (sym (counts.start E))
        (goes_next (turns n) (turns n) (λ m r t. t))))
        (next_behind (turns n) T p (step T (row.do_every_count (kernel c) n d p) Start E) (keep.start E))

    resume : (k : Selection) → EveryCountRests (turns n) T p k → (E : Env)
        → NextMark (EveryCountRests (turns n) T p) (step T (row.every_count (kernel c) n d p) (Resume k) E)
    resume k (before w rest t) E =
        then_next (EveryCountRests (turns n) T p) First Second (step T (row.await_count plain n d) (Resume w) E)
        (step T (row.do_every_count (kernel c) n d p) Start E)
        (wait_next (turns n) T p (step T (row.await_count plain n d) (Resume w) E)
        (subst (NextMark (OneOf (turns n))) (sym (counts.resume E w rest t))
        (test_next (OneOf (turns n)) (test d E) (goes_to rest) (Some (rests w []))
        (goes_next (turns n) rest (turn_behind (turns n) w rest t)) (rest, t))))
        (next_behind (turns n) T p (step T (row.do_every_count (kernel c) n d p) Start E) (keep.start E))
    resume k (behind m h) E =
        next_behind (turns n) T p (step T (row.do_every_count (kernel c) n d p) (Resume m) E) (keep.resume m h E)

    hold : (k : Selection) → EveryCountRests (turns n) T p k → EveryCountRests (turns n) T p (held_mark k)
    hold k (before w rest t) =
        subst (λ (v : Selection). EveryCountRests (turns n) T p (First v)) (sym (counts.hold w rest t))
        (before w rest t)
    hold k (behind m h) = behind (held_mark m) (keep.hold m h)

    enter : (k : Selection) → EveryCountRests (turns n) T p k → (id : ℕ) (a : Item)
        → AnyMark (EveryCountRests (turns n) T p) (with_item id a k)
    enter k (before w rest t) id a =
        subst (λ (o : Option Selection). AnyMark (EveryCountRests (turns n) T p) (option_map First o))
        (sym (counts.enter w rest t id a)) tt
    enter k (behind m h) id a = enter_behind (turns n) T p (with_item id a m) (keep.enter m h id a)

-- ---- the two rules

pub do_every_count_obeys : DoEveryCountObeys
do_every_count_obeys =
    record { at_start = do_starts; later = do_later; when_idle = do_idle; marks = do_rests; expands = do_expands }

pub every_count_obeys : EveryCountObeys
every_count_obeys =
    record {
      at_start = every_starts;
      before = every_before;
      later = λ T E c n d p first w ws rest m own turned t h.
          ap (wrap Second) (do_later T E c n d p first w ws rest m own turned t h)
          ∙ renews_behind (test d E) first w rest (killed p m) (halts_behind (step T p (Resume m) E))
          (halts_behind (step T p Start E));
      when_idle = λ T E c n d p first w ws rest own turned t.
          ap (wrap Second) (do_idle T E c n d p first w ws rest own turned t)
          ∙ renews_behind (test d E) first w rest (completes 0) (Some (rests idle []))
          (halts_behind (step T p Start E));
      marks = every_rests;
      expands = every_expands;
    }

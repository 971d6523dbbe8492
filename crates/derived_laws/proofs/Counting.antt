-- `weakabort count`, from what a body does beside what counts.
use Rattle.std.proofs.Common.{◌≡◌, refl, sym, ap, subst, ◌∙◌, ℕ, Bool, true, false, cond, Option, Some, None}
use Rattle.std.proofs.Common.{List, [], ◌∷◌}
use Rattle.std.specs.Prelude.{option_map}
use Rattle.hh_base.specs.declared.value.Pos.{Pos}
use Rattle.hh_base.specs.declared.item.Item.{Item}
use Rattle.host_expr.specs.declared.cell.Cell.{Cell}
use Rattle.host_expr.specs.declared.cell.Cell.TheVariants as cell
use Rattle.host_expr.specs.declared.expr.Expr.{Expr}
use Rattle.host_expr.specs.Environment.{Env}
use Rattle.host_expr.specs.Evaluation.{truth}
use Rattle.hh_term.specs.Statement.{Statement, Seq, Par, Trap, Exit}
use Rattle.hh_term.specs.Selection.{Selection, First, Second, Both, Inside, Start, Resume}
use Rattle.hh_term.specs.Touches.{held_mark}
use Rattle.hh_term.specs.Entering.{with_item, of_either}
use Rattle.hh_term.specs.MustCan.{Table}
use Rattle.hh_term.specs.Step.{Stepped, completes, rests, mark_map, then_start, on_test, step}
use Rattle.hh_term.specs.Placed.{unplaced}
use Rattle.kernel_expand.specs.Numbering.{Piece, Around, Numbered, numbering, in_numbers, in_trap}
use Rattle.kernel_expand.specs.Rows as row
use Rattle.derived_laws.specs.Statements.{plain, test}
use Rattle.derived_laws.specs.Reactions.{inside, then_fault, by_test}
use Rattle.derived_laws.specs.Resting.{RestsAt, held}
use Rattle.derived_laws.specs.Aborts.{StandsIn, body}
use Rattle.derived_laws.specs.Counts.{WeakAbortCountObeys, CountRests, at_turn, counting, counted, turns, Turn}
use Rattle.derived_laws.specs.Counts.{now, goes_to}
use Rattle.derived_laws.proofs.Marks.{AnyMark, NextMark, kept, keeps}
use Rattle.derived_laws.proofs.Closing.{Closed, closed}
use Rattle.derived_laws.proofs.Waiting.{through_test}
use Rattle.derived_laws.proofs.Watching.{together, together_none, together_cut, together_on, watching, gone_on}
use Rattle.derived_laws.proofs.Watching.{weak_start}
use Rattle.derived_laws.proofs.Aborting.{by_test_next, cut_next}
use Rattle.derived_laws.proofs.Turns.{Waits, count_waits, count_stands, turn_behind}

-- what counts, which exits behind the last time
abbrev exits_behind : List Selection → Option Stepped
exits_behind [] = Some (completes 2)
exits_behind (w ∷ ws) = Some (rests (First w) [])

then_exits : (ws : List Selection) → then_start First Second (goes_to ws) (Some (completes 2)) ≡ exits_behind ws
then_exits [] = refl
then_exits (w ∷ ws) = refl

test_exits : (c : Cell) (w : Selection) (rest : List Selection)
    → then_start First Second (on_test c (goes_to rest) (Some (rests w []))) (Some (completes 2))
    ≡ on_test c (exits_behind rest) (Some (rests (First w) []))
test_exits c w rest =
    through_test (λ x. then_start First Second x (Some (completes 2))) c (goes_to rest) (Some (rests w []))
    (exits_behind rest) (Some (rests (First w) [])) refl (then_exits rest) refl (λ o k. refl)

together_counted : (ws : List Selection) (p : Option Stepped) → Closed p
    → together p (exits_behind ws) ≡ counted ws p
together_counted [] p h = together_cut p
together_counted (w ∷ ws) p h = weak_start (First w) p h

flag_counts : (v : Cell) (b : Bool) (w : Selection) (rest : List Selection) (p : Option Stepped) → Closed p
    → together p (cond b (exits_behind rest) (Some (watching (First w) [])))
    ≡ cond b (counted rest p) (option_map (gone_on (First w) []) p)
flag_counts v true w rest p h = together_counted rest p h
flag_counts v false w rest p h = together_on (First w) [] p h

count_step : (c : Cell) (w : Selection) (rest : List Selection) (p : Option Stepped) → Closed p
    → together p (on_test c (exits_behind rest) (Some (rests (First w) [])))
    ≡ by_test c (counted rest p) (option_map (λ a. then_fault c (inside (counting w) a)) p)
count_step cell.Unknown w rest p h = together_none p
count_step (cell.Known v) w rest p h = flag_counts (cell.Known v) (truth v) w rest p h
count_step (cell.Faulted o k) w rest p h = together_on (First w) ((o, k) ∷ []) p h

starts : (T : Table) (E : Env) (n : ℕ) (d : Expr ℕ) (p : Statement)
    → step T (row.weak_abort_count plain n d p) Start E ≡ counted (turns n) (step T p Start E)
starts T E n d p =
    ap (λ x. together (step T p Start E) (then_start First Second x (Some (completes 2))))
    ((count_waits T n d).start E)
    ∙ ap (together (step T p Start E)) (then_exits (turns n))
    ∙ together_counted (turns n) (step T p Start E) (closed T p Start E)

resumes : (T : Table) (E : Env) (n : ℕ) (d : Expr ℕ) (p : Statement) (w : Selection) (rest : List Selection)
    (m : Selection) → Turn (turns n) w rest
    → step T (row.weak_abort_count plain n d p) (Resume (counting w m)) E
    ≡ by_test (test d E) (counted rest (step T p (Resume m) E))
    (option_map (λ a. then_fault (test d E) (inside (counting w) a)) (step T p (Resume m) E))
resumes T E n d p w rest m t =
    let s = step T p (Resume m) E in
    ap (λ x. together s (then_start First Second x (Some (completes 2)))) ((count_waits T n d).resume E w rest t)
    ∙ ap (together s) (test_exits (test d E) w rest)
    ∙ count_step (test d E) w rest s (closed T p (Resume m) E)

-- ---- its marks

pub mark_counts : (f : Selection → Selection → Selection) (ws : List Selection) (T : Table) (p : Statement)
    (w : Selection) (rest : List Selection) → Turn ws w rest → (o : Option Selection) → AnyMark (RestsAt T p) o
    → AnyMark (CountRests f ws T p) (mark_map (f w) o)
mark_counts f ws T p w rest t (Some m) h = at_turn w rest m t h
mark_counts f ws T p w rest t None h = tt

pub watched_next : (f : Selection → Selection → Selection) (ws : List Selection) (T : Table) (p : Statement)
    (w : Selection) (rest : List Selection) → Turn ws w rest → (c : Cell) (o : Option Stepped)
    → NextMark (RestsAt T p) o → NextMark (CountRests f ws T p) (option_map (λ a. then_fault c (inside (f w) a)) o)
watched_next f ws T p w rest t c (Some a) h = mark_counts f ws T p w rest t a.next h
watched_next f ws T p w rest t c None h = tt

pub inside_next : (f : Selection → Selection → Selection) (ws : List Selection) (T : Table) (p : Statement)
    (w : Selection) (rest : List Selection) → Turn ws w rest → (o : Option Stepped)
    → NextMark (RestsAt T p) o → NextMark (CountRests f ws T p) (option_map (inside (f w)) o)
inside_next f ws T p w rest t (Some a) h = mark_counts f ws T p w rest t a.next h
inside_next f ws T p w rest t None h = tt

counted_next : (ws left : List Selection) (T : Table) (p : Statement)
    → ((w : Selection) (rest : List Selection) → Turn left w rest → Turn ws w rest) → (o : Option Stepped)
    → NextMark (RestsAt T p) o → NextMark (CountRests counting ws T p) (counted left o)
counted_next ws [] T p f o h = cut_next (CountRests counting ws T p) o
counted_next ws (w ∷ left) T p f o h = inside_next counting ws T p w left (f w left (now w left)) o h

enter_counts : (w m : Selection) (o u : Option Selection) → u ≡ None
    → option_map Inside (of_either (First m) (option_map First o) (First w) (option_map First u))
    ≡ mark_map (counting w) o
enter_counts w m (Some n) u e = refl
enter_counts w m None u e = ap (λ x. option_map Inside (option_map (Both (First m)) (option_map First x))) e

rests_at : (T : Table) (n : ℕ) (d : Expr ℕ) (p : Statement) (m : Selection)
    → RestsAt T (row.weak_abort_count plain n d p) m → CountRests counting (turns n) T p m
rests_at T n d p =
    kept T (row.weak_abort_count plain n d p) (CountRests counting (turns n) T p)
    (record { start = start; resume = resume; hold = hold; enter = enter })
  where
    counts : Waits T d (row.await_count plain n d) (turns n)
    counts = count_waits T n d

    start : (E : Env) → NextMark (CountRests counting (turns n) T p) (step T (row.weak_abort_count plain n d p) Start E)
    start E =
        subst (NextMark (CountRests counting (turns n) T p)) (sym (starts T E n d p))
        (counted_next (turns n) (turns n) T p (λ w rest t. t) (step T p Start E) ((keeps T p).start E))

    resume : (k : Selection) → CountRests counting (turns n) T p k → (E : Env)
        → NextMark (CountRests counting (turns n) T p) (step T (row.weak_abort_count plain n d p) (Resume k) E)
    resume k (at_turn w rest m t h) E =
        let s = step T p (Resume m) E in
        let g = (keeps T p).resume m h E in
        subst (NextMark (CountRests counting (turns n) T p)) (sym (resumes T E n d p w rest m t))
        (by_test_next (CountRests counting (turns n) T p) (test d E) (counted rest s)
        (option_map (λ a. then_fault (test d E) (inside (counting w) a)) s)
        (counted_next (turns n) rest T p (turn_behind (turns n) w rest t) s g)
        (watched_next counting (turns n) T p w rest t (test d E) s g))

    hold : (k : Selection) → CountRests counting (turns n) T p k → CountRests counting (turns n) T p (held_mark k)
    hold k (at_turn w rest m t h) =
        subst (λ (v : Selection). CountRests counting (turns n) T p (Inside (Both (First (held_mark m)) (First v))))
        (sym (counts.hold w rest t)) (at_turn w rest (held_mark m) t (held m h))

    enter : (k : Selection) → CountRests counting (turns n) T p k → (id : ℕ) (a : Item)
        → AnyMark (CountRests counting (turns n) T p) (with_item id a k)
    enter k (at_turn w rest m t h) id a =
        subst (AnyMark (CountRests counting (turns n) T p))
        (sym (enter_counts w m (with_item id a m) (with_item id a w) (counts.enter w rest t id a)))
        (mark_counts counting (turns n) T p w rest t (with_item id a m) ((keeps T p).enter m h id a))

-- ---- its row in numbers

expands : (modules : ℕ → Piece) (pos : Pos) (i : ℕ) (d : Expr ℕ) (p : Piece) (a : Around) (n : Numbered)
    → StandsIn p d a n
    → unplaced (row.weak_abort_count (numbering modules pos) i d p a n).0 ≡ row.weak_abort_count plain i (in_numbers n d) (body p a n)
expands modules pos i d p a n s =
    let behind = (p (in_trap None a) n).1 in
    let w = count_stands modules pos i d (in_trap None a) behind in
    ap (λ x. Trap (Par (Seq (body p a n) (Exit 0)) (Seq x (Exit 0)))) w.same
    ∙ ap (λ e. Trap (Par (Seq (body p a n) (Exit 0)) (Seq (row.await_count plain i e) (Exit 0)))) s.kept

pub weak_abort_count_obeys : WeakAbortCountObeys
weak_abort_count_obeys =
    record { at_start = starts; later = resumes; marks = rests_at; expands = expands }

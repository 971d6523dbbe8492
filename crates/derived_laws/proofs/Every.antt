-- `every`: `do .. every` behind what waits.
use Rattle.std.proofs.Common.{◌≡◌, refl, sym, ap, subst, ◌∙◌, ℕ, Option, Some, None}
use Rattle.std.proofs.Common.{[]}
use Rattle.std.specs.Prelude.{option_map}
use Rattle.hh_base.specs.declared.value.Pos.{Pos}
use Rattle.hh_base.specs.declared.value.FaultKind.{FaultKind}
use Rattle.hh_base.specs.declared.item.Item.{Item}
use Rattle.host_expr.specs.declared.cell.Cell.{Cell}
use Rattle.host_expr.specs.declared.cell.Cell.TheVariants as cell
use Rattle.host_expr.specs.declared.expr.Expr.{Expr}
use Rattle.host_expr.specs.Environment.{Env}
use Rattle.hh_term.specs.Statement.{Statement, Seq, Loop, Trap, Par}
use Rattle.hh_term.specs.Selection.{Selection, First, Second, Start, Resume}
use Rattle.hh_term.specs.Touches.{held_mark}
use Rattle.hh_term.specs.Entering.{with_item}
use Rattle.hh_term.specs.MustCan.{Table}
use Rattle.hh_term.specs.Step.{Stepped, ◌>>=◌, completes, rests, mark_map, wrapped, wrap, with_fault, joined}
use Rattle.hh_term.specs.Step.{then_start, on_test, step}
use Rattle.kernel_expand.specs.Numbering.{in_numbers, in_trap}
use Rattle.kernel_expand.specs.Rows as row
use Rattle.derived_laws.specs.Statements.{plain, test}
use Rattle.derived_laws.specs.Reactions.{inside, then_fault, killed}
use Rattle.derived_laws.specs.Resting.{RestsAt}
use Rattle.derived_laws.specs.Waits.{awaiting, awaiting_now}
use Rattle.derived_laws.specs.Aborts.{body}
use Rattle.derived_laws.specs.Repeats.{halts_behind, renewing, repeating, begins, renews, RenewRests, EveryRests}
use Rattle.derived_laws.specs.Repeats.{before, behind, DoEveryObeys, EveryObeys, EveryImmediateObeys, idle}
use Rattle.derived_laws.proofs.Marks.{AnyMark, NextMark, kept}
use Rattle.derived_laws.proofs.Waiting.{through_test, await_next, await_resumes, await_now_starts, await_now_resumes}
use Rattle.derived_laws.proofs.Watching.{same_steps, marks_twice}
use Rattle.derived_laws.proofs.Aborting.{suspended, same_waiting}
use Rattle.derived_laws.proofs.Repeating.{with_halt, do_starts, do_later, do_idle, do_keeps, then_next}
use Rattle.derived_laws.proofs.Repeating.{wrap_watched}

same_row : (d : Expr ℕ) (p : Statement) (e : Expr ℕ) → e ≡ d
    → Loop (Trap (Par (suspended d (with_halt p)) (row.waiting plain e))) ≡ row.do_every plain d p
same_row d p e h = ap (λ w. Loop (Trap (Par (suspended d (with_halt p)) w))) (same_waiting e d h)

pub do_every_obeys : DoEveryObeys
do_every_obeys =
    record {
      at_start = do_starts;
      later = do_later;
      when_idle = do_idle;
      marks = λ T d p. kept T (row.do_every plain d p) (RenewRests renewing T p) (do_keeps T d p);
      expands = λ modules pos d p a n s.
          same_row (in_numbers n d) (body p a n) (in_numbers (p (in_trap None a) n).1 d) s.kept;
    }

-- ---- behind what waits

joined_again : (kill : Stepped) (o : Option Stepped)
    → wrap Second (option_map (λ b. joined kill b) (begins renewing o))
    ≡ option_map (λ b. joined kill b) (begins repeating o)
joined_again kill None = refl
joined_again kill (Some b) =
    ap (λ (x : Stepped). Some x)
    (same_steps (wrapped Second (joined kill (inside renewing b))) (joined kill (inside repeating b)) refl refl
    (marks_twice Second renewing b.next) refl refl refl)

faults_out : (x y : Option Stepped) (o : Pos) (k : FaultKind) → wrap Second x ≡ y
    → wrap Second (x >>= (λ a. Some (with_fault (cell.Faulted o k) a)))
    ≡ (y >>= (λ a. Some (with_fault (cell.Faulted o k) a)))
faults_out (Some a) y o k e = ap (λ v. v >>= (λ a. Some (with_fault (cell.Faulted o k) a))) e
faults_out None y o k e = ap (λ v. v >>= (λ a. Some (with_fault (cell.Faulted o k) a))) e

renews_behind : (c : Cell) (kill : Stepped) (s q : Option Stepped)
    → wrap Second (renews renewing c kill s q) ≡ renews repeating c kill s q
renews_behind c kill s q =
    through_test (wrap Second) c (option_map (λ b. joined kill b) (begins renewing q))
    (option_map (λ a. then_fault c (inside renewing a)) s) (option_map (λ b. joined kill b) (begins repeating q))
    (option_map (λ a. then_fault c (inside repeating a)) s) refl (joined_again kill q)
    (wrap_watched Second renewing c s)
    (λ o k. faults_out (option_map (λ a. then_fault c (inside renewing a)) s)
    (option_map (λ a. then_fault c (inside repeating a)) s) o k (wrap_watched Second renewing c s))

begun_behind : (o : Option Stepped)
    → then_start First Second (Some (completes 0)) (begins renewing o) ≡ begins repeating o
begun_behind None = refl
begun_behind (Some a) =
    ap (λ (x : Stepped). Some x)
    (same_steps (joined (completes 0) (wrapped Second (inside renewing a))) (inside repeating a) refl refl
    (marks_twice Second renewing a.next) refl refl refl)

waits_then : (w : Selection) (c : Cell) (o : Option Stepped)
    → then_start First Second (on_test c (Some (completes 0)) (Some (rests w []))) (begins renewing o)
    ≡ on_test c (begins repeating o) (Some (rests (First w) []))
waits_then w c o =
    through_test (λ x. then_start First Second x (begins renewing o)) c (Some (completes 0)) (Some (rests w []))
    (begins repeating o) (Some (rests (First w) [])) refl (begun_behind o) refl (λ o k. refl)

-- one reaction of what waits, with the start of the rest behind it
waited : (T : Table) (E : Env) (d : Expr ℕ) (p : Statement) (w : Selection) (s : Option Stepped)
    → s ≡ on_test (test d E) (Some (completes 0)) (Some (rests w []))
    → then_start First Second s (step T (row.do_every plain d p) Start E)
    ≡ on_test (test d E) (begins repeating (halts_behind (step T p Start E))) (Some (rests (First w) []))
waited T E d p w s e =
    ap (λ o. then_start First Second o (step T (row.do_every plain d p) Start E)) e
    ∙ ap (then_start First Second (on_test (test d E) (Some (completes 0)) (Some (rests w []))))
    (do_starts T E d p)
    ∙ waits_then w (test d E) (halts_behind (step T p Start E))

-- ---- the marks

first_of : (M : Selection → Type 0) (w : Selection) (s : Option Stepped) → M (First w)
    → NextMark (λ m. m ≡ w) s → NextMark M (wrap First s)
first_of M w None h g = tt
first_of M w (Some a) h g = at a.next g
  where
    at : (o : Option Selection) → AnyMark (λ m. m ≡ w) o → AnyMark M (mark_map First o)
    at (Some m) e = subst (λ (k : Selection). M (First k)) (sym e) h
    at None e = tt

any_behind : (T : Table) (p : Statement) (w : Selection) (o : Option Selection)
    → AnyMark (RenewRests renewing T p) o → AnyMark (EveryRests w T p) (mark_map Second o)
any_behind T p w (Some m) h = behind m h
any_behind T p w None h = tt

next_behind : (T : Table) (p : Statement) (w : Selection) (s : Option Stepped)
    → NextMark (RenewRests renewing T p) s → NextMark (EveryRests w T p) (wrap Second s)
next_behind T p w (Some a) h = any_behind T p w a.next h
next_behind T p w None h = tt

enter_behind : (o : Option Selection) → option_map Second o ≡ mark_map Second o
enter_behind (Some m) = refl
enter_behind None = refl

rests_at : (T : Table) (d : Expr ℕ) (p wait : Statement) (w : Selection)
    → ((E : Env) → NextMark (λ m. m ≡ w) (step T wait Start E))
    → ((E : Env) → NextMark (λ m. m ≡ w) (step T wait (Resume w) E)) → held_mark w ≡ w
    → ((id : ℕ) (a : Item) → with_item id a w ≡ None) → (n : Selection)
    → RestsAt T (Seq wait (row.do_every plain d p)) n → EveryRests w T p n
rests_at T d p wait w starts resumes holds enters =
    kept T (Seq wait (row.do_every plain d p)) (EveryRests w T p)
    (record { start = start; resume = resume; hold = hold; enter = enter })
  where
    new : (E : Env) → NextMark (EveryRests w T p) (wrap Second (step T (row.do_every plain d p) Start E))
    new E = next_behind T p w (step T (row.do_every plain d p) Start E) ((do_keeps T d p).start E)

    start : (E : Env) → NextMark (EveryRests w T p) (step T (Seq wait (row.do_every plain d p)) Start E)
    start E =
        then_next (EveryRests w T p) First Second (step T wait Start E) (step T (row.do_every plain d p) Start E)
        (first_of (EveryRests w T p) w (step T wait Start E) before (starts E)) (new E)

    resume : (n : Selection) → EveryRests w T p n → (E : Env)
        → NextMark (EveryRests w T p) (step T (Seq wait (row.do_every plain d p)) (Resume n) E)
    resume n before E =
        then_next (EveryRests w T p) First Second (step T wait (Resume w) E)
        (step T (row.do_every plain d p) Start E)
        (first_of (EveryRests w T p) w (step T wait (Resume w) E) before (resumes E)) (new E)
    resume n (behind m h) E =
        next_behind T p w (step T (row.do_every plain d p) (Resume m) E) ((do_keeps T d p).resume m h E)

    hold : (n : Selection) → EveryRests w T p n → EveryRests w T p (held_mark n)
    hold n before = subst (λ (k : Selection). EveryRests w T p (First k)) (sym holds) before
    hold n (behind m h) = behind (held_mark m) ((do_keeps T d p).hold m h)

    enter : (n : Selection) → EveryRests w T p n → (id : ℕ) (a : Item)
        → AnyMark (EveryRests w T p) (with_item id a n)
    enter n before id a =
        subst (λ (o : Option Selection). AnyMark (EveryRests w T p) (option_map First o)) (sym (enters id a)) tt
    enter n (behind m h) id a =
        subst (AnyMark (EveryRests w T p)) (sym (enter_behind (with_item id a m)))
        (any_behind T p w (with_item id a m) ((do_keeps T d p).enter m h id a))

-- ---- the two rules

pub every_obeys : EveryObeys
every_obeys =
    record {
      at_start = λ T E d p. refl;
      before = λ T E d p. waited T E d p awaiting (step T (row.await plain d) (Resume awaiting) E)
          (await_resumes T E d);
      later = λ T E d p m h. ap (wrap Second) (do_later T E d p m h)
          ∙ renews_behind (test d E) (killed p m) (halts_behind (step T p (Resume m) E)) (halts_behind (step T p Start E));
      when_idle = λ T E d p. ap (wrap Second) (do_idle T E d p)
          ∙ renews_behind (test d E) (completes 0) (Some (rests idle [])) (halts_behind (step T p Start E));
      marks = λ T d p. rests_at T d p (row.await plain d) awaiting (λ E. refl)
          (λ E. subst (NextMark (λ m. m ≡ awaiting)) (sym (await_resumes T E d)) (await_next (test d E) awaiting))
          refl (λ id a. refl);
      expands = λ modules pos d p a n s. ap (λ w. Seq (row.await plain (in_numbers n d)) w)
          (same_row (in_numbers n d) (body p a n) (in_numbers (p (in_trap None a) n).1 d) s.kept);
    }

pub every_immediate_obeys : EveryImmediateObeys
every_immediate_obeys =
    record {
      at_start = λ T E d p. waited T E d p awaiting_now (step T (row.await_immediate plain d) Start E)
          (await_now_starts T E d);
      before = λ T E d p. waited T E d p awaiting_now (step T (row.await_immediate plain d) (Resume awaiting_now) E)
          (await_now_resumes T E d);
      later = λ T E d p m h. ap (wrap Second) (do_later T E d p m h)
          ∙ renews_behind (test d E) (killed p m) (halts_behind (step T p (Resume m) E)) (halts_behind (step T p Start E));
      when_idle = λ T E d p. ap (wrap Second) (do_idle T E d p)
          ∙ renews_behind (test d E) (completes 0) (Some (rests idle [])) (halts_behind (step T p Start E));
      marks = λ T d p. rests_at T d p (row.await_immediate plain d) awaiting_now
          (λ E. subst (NextMark (λ m. m ≡ awaiting_now)) (sym (await_now_starts T E d))
          (await_next (test d E) awaiting_now))
          (λ E. subst (NextMark (λ m. m ≡ awaiting_now)) (sym (await_now_resumes T E d))
          (await_next (test d E) awaiting_now)) refl (λ id a. refl);
      expands = λ modules pos d p a n s. ap (λ w. Seq (row.await_immediate plain (in_numbers n d)) w)
          (same_row (in_numbers n d) (body p a n) (in_numbers (p (in_trap None a) n).1 d) s.kept);
    }

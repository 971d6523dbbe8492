-- What waits, by its test.
use Rattle.std.proofs.Common.{◌≡◌, refl, sym, subst, ℕ, Bool, true, false, cond, Option, Some, None}
use Rattle.std.proofs.Common.{[]}
use Rattle.std.specs.Prelude.{option_map}
use Rattle.hh_base.specs.declared.value.Pos.{Pos}
use Rattle.hh_base.specs.declared.value.FaultKind.{FaultKind}
use Rattle.host_expr.specs.declared.cell.Cell.{Cell}
use Rattle.host_expr.specs.declared.cell.Cell.TheVariants as cell
use Rattle.host_expr.specs.declared.expr.Expr.{Expr}
use Rattle.host_expr.specs.Environment.{Env}
use Rattle.host_expr.specs.Evaluation.{truth}
use Rattle.host_expr.specs.Expression.{optional_expression}
use Rattle.hh_term.specs.Selection.{Selection, AtPause, First, Second, Inside, Start, Resume}
use Rattle.hh_term.specs.MustCan.{Table, emitted}
use Rattle.hh_term.specs.Step.{Stepped, ◌>>=◌, completes, rests, wrap, with_fault, then_start, on_test, emit_step}
use Rattle.hh_term.specs.Step.{trap_step, step}
use Rattle.kernel_expand.specs.Rows as row
use Rattle.derived_laws.specs.Statements.{plain, test}
use Rattle.derived_laws.specs.Waits.{HaltObeys, SustainObeys, AwaitObeys, AwaitImmediateObeys, halted}
use Rattle.derived_laws.specs.Waits.{sustaining, sustained, awaiting, awaiting_now, waiting, waiting_now}
use Rattle.derived_laws.proofs.Marks.{NextMark, at_one}

pub halt_obeys : HaltObeys
halt_obeys =
    record {
      at_start = λ T E. refl;
      later = λ T E. refl;
      marks = λ T. at_one T (row.halt plain) halted (λ E. refl) (λ E. refl) refl (λ id a. refl);
      expands = λ modules pos a n. refl;
    }

-- ---- `sustain`, by the value that it emits

sustain_starts : (s : ℕ) (c : Cell) → wrap Inside (then_start First Second (emit_step s c) (Some (rests AtPause [])))
    ≡ option_map sustained (emit_step s c)
sustain_starts s cell.Unknown = refl
sustain_starts s (cell.Known v) = refl
sustain_starts s (cell.Faulted o k) = refl

sustain_resumes : (s : ℕ) (c : Cell) → then_start Inside Inside (Some (completes 0))
    (then_start First Second (emit_step s c) (Some (rests AtPause []))) ≡ option_map sustained (emit_step s c)
sustain_resumes s cell.Unknown = refl
sustain_resumes s (cell.Known v) = refl
sustain_resumes s (cell.Faulted o k) = refl

sustain_next : (o : Option Stepped) → NextMark (λ m. m ≡ sustaining) (option_map sustained o)
sustain_next (Some a) = refl
sustain_next None = tt

pub sustain_obeys : SustainObeys
sustain_obeys =
    record {
      at_start = λ T E s e. sustain_starts s (emitted (optional_expression e) E);
      later = λ T E s e. sustain_resumes s (emitted (optional_expression e) E);
      marks = λ T s e. at_one T (row.sustain plain s e) sustaining (starts T s e) (resumes T s e) refl
          (λ id a. refl);
      expands = λ modules pos s e a n. refl;
    }
  where
    starts : (T : Table) (s : ℕ) (e : Option (Expr ℕ)) (E : Env)
        → NextMark (λ m. m ≡ sustaining) (step T (row.sustain plain s e) Start E)
    starts T s e E = let c = emitted (optional_expression e) E in
        subst (NextMark (λ m. m ≡ sustaining)) (sym (sustain_starts s c)) (sustain_next (emit_step s c))

    resumes : (T : Table) (s : ℕ) (e : Option (Expr ℕ)) (E : Env)
        → NextMark (λ m. m ≡ sustaining) (step T (row.sustain plain s e) (Resume sustaining) E)
    resumes T s e E = let c = emitted (optional_expression e) E in
        subst (NextMark (λ m. m ≡ sustaining)) (sym (sustain_resumes s c)) (sustain_next (emit_step s c))

-- ---- by a test

by_flag : (f : Option Stepped → Option Stepped) (b : Bool) (x y p q : Option Stepped) → f x ≡ p → f y ≡ q
    → f (cond b x y) ≡ cond b p q
by_flag f true x y p q h g = h
by_flag f false x y p q h g = g

pub through_test : (f : Option Stepped → Option Stepped) (c : Cell) (x y p q : Option Stepped) → f None ≡ None
    → f x ≡ p → f y ≡ q
    → ((o : Pos) (k : FaultKind) → f (y >>= (λ a. Some (with_fault (cell.Faulted o k) a)))
    ≡ (q >>= (λ a. Some (with_fault (cell.Faulted o k) a)))) → f (on_test c x y) ≡ on_test c p q
through_test f cell.Unknown x y p q none holds not faults = none
through_test f (cell.Known v) x y p q none holds not faults = by_flag f (truth v) x y p q holds not
through_test f (cell.Faulted o k) x y p q none holds not faults = faults o k

flag_next : (b : Bool) (n : Selection) → NextMark (λ m. m ≡ n) (cond b (Some (completes 0)) (Some (rests n [])))
flag_next true n = tt
flag_next false n = refl

pub await_next : (c : Cell) (n : Selection)
    → NextMark (λ m. m ≡ n) (on_test c (Some (completes 0)) (Some (rests n [])))
await_next cell.Unknown n = tt
await_next (cell.Known v) n = flag_next (truth v) n
await_next (cell.Faulted o k) n = refl

-- the loop that a later reaction leaves where the test holds
pub wait_resumes : (T : Table) (E : Env) (d : Expr ℕ) → step T (row.waiting plain d) (Resume waiting) E
    ≡ on_test (test d E) (Some (completes 2)) (Some (rests waiting []))
wait_resumes T E d =
    through_test
    (λ x. then_start Inside Inside (then_start First Second (Some (completes 0)) x)
    (Some (rests (First AtPause) [])))
    (test d E) (Some (completes 2)) (Some (completes 0)) (Some (completes 2)) (Some (rests waiting [])) refl refl
    refl (λ o k. refl)

pub wait_now_starts : (T : Table) (E : Env) (d : Expr ℕ) → step T (row.waiting_now plain d) Start E
    ≡ on_test (test d E) (Some (completes 2)) (Some (rests waiting_now []))
wait_now_starts T E d =
    through_test (λ x. wrap Inside (then_start First Second x (Some (rests AtPause [])))) (test d E)
    (Some (completes 2)) (Some (completes 0)) (Some (completes 2)) (Some (rests waiting_now [])) refl refl refl
    (λ o k. refl)

pub wait_now_resumes : (T : Table) (E : Env) (d : Expr ℕ) → step T (row.waiting_now plain d) (Resume waiting_now) E
    ≡ on_test (test d E) (Some (completes 2)) (Some (rests waiting_now []))
wait_now_resumes T E d =
    through_test
    (λ x. then_start Inside Inside (Some (completes 0)) (then_start First Second x (Some (rests AtPause []))))
    (test d E) (Some (completes 2)) (Some (completes 0)) (Some (completes 2)) (Some (rests waiting_now [])) refl
    refl refl (λ o k. refl)

-- a trap round what waits
trapped_wait : (c : Cell) (n : Selection) → (on_test c (Some (completes 2)) (Some (rests n [])))
    >>= (λ a. Some (trap_step a)) ≡ on_test c (Some (completes 0)) (Some (rests (Inside n) []))
trapped_wait c n =
    through_test (λ x. x >>= (λ a. Some (trap_step a))) c (Some (completes 2)) (Some (rests n []))
    (Some (completes 0)) (Some (rests (Inside n) [])) refl refl refl (λ o k. refl)

pub await_resumes : (T : Table) (E : Env) (d : Expr ℕ) → step T (row.await plain d) (Resume awaiting) E
    ≡ on_test (test d E) (Some (completes 0)) (Some (rests awaiting []))
await_resumes T E d =
    subst (λ x. (x >>= (λ a. Some (trap_step a)))
    ≡ on_test (test d E) (Some (completes 0)) (Some (rests awaiting []))) (sym (wait_resumes T E d))
    (trapped_wait (test d E) waiting)

pub await_now_starts : (T : Table) (E : Env) (d : Expr ℕ) → step T (row.await_immediate plain d) Start E
    ≡ on_test (test d E) (Some (completes 0)) (Some (rests awaiting_now []))
await_now_starts T E d =
    subst (λ x. (x >>= (λ a. Some (trap_step a)))
    ≡ on_test (test d E) (Some (completes 0)) (Some (rests awaiting_now []))) (sym (wait_now_starts T E d))
    (trapped_wait (test d E) waiting_now)

pub await_now_resumes : (T : Table) (E : Env) (d : Expr ℕ)
    → step T (row.await_immediate plain d) (Resume awaiting_now) E
    ≡ on_test (test d E) (Some (completes 0)) (Some (rests awaiting_now []))
await_now_resumes T E d =
    subst (λ x. (x >>= (λ a. Some (trap_step a)))
    ≡ on_test (test d E) (Some (completes 0)) (Some (rests awaiting_now []))) (sym (wait_now_resumes T E d))
    (trapped_wait (test d E) waiting_now)

pub await_obeys : AwaitObeys
await_obeys =
    record {
      at_start = λ T E d. refl;
      later = λ T E d. await_resumes T E d;
      marks = λ T d. at_one T (row.await plain d) awaiting (λ E. refl)
          (λ E. subst (NextMark (λ m. m ≡ awaiting)) (sym (await_resumes T E d)) (await_next (test d E) awaiting))
          refl (λ id a. refl);
      expands = λ modules pos d a n. refl;
    }

pub await_immediate_obeys : AwaitImmediateObeys
await_immediate_obeys =
    record {
      at_start = λ T E d. await_now_starts T E d;
      later = λ T E d. await_now_resumes T E d;
      marks = λ T d. at_one T (row.await_immediate plain d) awaiting_now
          (λ E. subst (NextMark (λ m. m ≡ awaiting_now)) (sym (await_now_starts T E d))
          (await_next (test d E) awaiting_now))
          (λ E. subst (NextMark (λ m. m ≡ awaiting_now)) (sym (await_now_resumes T E d))
          (await_next (test d E) awaiting_now))
          refl (λ id a. refl);
      expands = λ modules pos d a n. refl;
    }

-- `suspend immediate`, by its test.
use Rattle.std.proofs.Common.{◌≡◌, refl, sym, ap, subst, ℕ, Option, Some, None, []}
use Rattle.std.specs.Prelude.{option_map}
use Rattle.hh_base.specs.declared.value.Pos.{Pos}
use Rattle.hh_base.specs.declared.value.FaultKind.{FaultKind}
use Rattle.hh_base.specs.declared.item.Item.{Item}
use Rattle.host_expr.specs.declared.cell.Cell.TheVariants as cell
use Rattle.host_expr.specs.declared.expr.Expr.{Expr}
use Rattle.host_expr.specs.Environment.{Env}
use Rattle.hh_term.specs.Statement.{Statement}
use Rattle.hh_term.specs.Selection.{Selection, AtPause, First, Second, Inside, Start, Resume}
use Rattle.hh_term.specs.Entering.{with_item}
use Rattle.hh_term.specs.MustCan.{Table}
use Rattle.hh_term.specs.Step.{Stepped, ◌>>=◌, completes, rests, mark_map, wrap, with_fault, then_start, on_test}
use Rattle.hh_term.specs.Step.{step}
use Rattle.hh_term.specs.Touches.{held_mark, held_touches}
use Rattle.kernel_expand.specs.Rows as row
use Rattle.derived_laws.specs.Statements.{plain, test}
use Rattle.derived_laws.specs.Resting.{RestsAt, held}
use Rattle.derived_laws.specs.Suspends.{SuspendImmediateObeys, SuspendRests, before, round, suspended, suspending}
use Rattle.derived_laws.proofs.Marks.{AnyMark, NextMark, kept, keeps}
use Rattle.derived_laws.proofs.Waiting.{through_test}
use Rattle.derived_laws.proofs.Aborting.{test_next}

-- a body that is started behind what ended at once
started_behind : (s : Option Stepped)
    → wrap Inside (then_start First Second (Some (completes 0)) s) ≡ wrap suspending s
started_behind None = refl
started_behind (Some a) = marks a.next
  where
    marks : (n : Option Selection)
        → Some (record a { next = mark_map Inside (mark_map Second n) })
        ≡ Some (record a { next = mark_map suspending n })
    marks (Some m) = refl
    marks None = refl

resumed_inside : (s : Option Stepped) → wrap Inside (wrap Second s) ≡ wrap suspending s
resumed_inside None = refl
resumed_inside (Some a) = marks a.next
  where
    marks : (n : Option Selection)
        → Some (record a { next = mark_map Inside (mark_map Second n) })
        ≡ Some (record a { next = mark_map suspending n })
    marks (Some m) = refl
    marks None = refl

faulted_behind : (o : Pos) (k : FaultKind) (s : Option Stepped)
    → wrap Inside (then_start First Second (Some (with_fault (cell.Faulted o k) (completes 0))) s)
    ≡ (wrap suspending s) >>= (λ a. Some (with_fault (cell.Faulted o k) a))
faulted_behind o k None = refl
faulted_behind o k (Some a) = marks a.next
  where
    marks : (n : Option Selection)
        → Some (record (with_fault (cell.Faulted o k) a) { next = mark_map Inside (mark_map Second n) })
        ≡ Some (record (with_fault (cell.Faulted o k) a) { next = mark_map suspending n })
    marks (Some m) = refl
    marks None = refl

starts : (T : Table) (E : Env) (d : Expr ℕ) (p : Statement)
    → step T (row.suspend_immediate plain d p) Start E
    ≡ on_test (test d E) (Some (rests suspended [])) (wrap suspending (step T p Start E))
starts T E d p =
    through_test (λ x. wrap Inside (then_start First Second x (step T p Start E))) (test d E)
    (Some (rests (First AtPause) [])) (Some (completes 0)) (Some (rests suspended []))
    (wrap suspending (step T p Start E)) refl refl (started_behind (step T p Start E))
    (λ o k. faulted_behind o k (step T p Start E))

waits : (T : Table) (E : Env) (d : Expr ℕ) (p : Statement)
    → step T (row.suspend_immediate plain d p) (Resume suspended) E
    ≡ on_test (test d E) (Some (rests suspended [])) (wrap suspending (step T p Start E))
waits T E d p =
    ap (on_test (test d E) (Some (rests suspended []))) (started_behind (step T p Start E))

resumes : (T : Table) (E : Env) (d : Expr ℕ) (p : Statement) (m : Selection)
    → step T (row.suspend_immediate plain d p) (Resume (suspending m)) E
    ≡ on_test (test d E) (Some (rests (suspending (held_mark m)) (held_touches p m)))
    (wrap suspending (step T p (Resume m) E))
resumes T E d p m =
    ap (on_test (test d E) (Some (rests (suspending (held_mark m)) (held_touches p m))))
    (resumed_inside (step T p (Resume m) E))

-- ---- the next marks

any_round : (T : Table) (p : Statement) (o : Option Selection) → AnyMark (RestsAt T p) o
    → AnyMark (SuspendRests T p) (mark_map suspending o)
any_round T p (Some m) h = round m h
any_round T p None h = tt

next_round : (T : Table) (p : Statement) (o : Option Stepped) → NextMark (RestsAt T p) o
    → NextMark (SuspendRests T p) (wrap suspending o)
next_round T p (Some a) h = any_round T p a.next h
next_round T p None h = tt

enter_round : (o : Option Selection) → option_map Inside (option_map Second o) ≡ mark_map suspending o
enter_round (Some m) = refl
enter_round None = refl

rests_at : (T : Table) (d : Expr ℕ) (p : Statement) (n : Selection)
    → RestsAt T (row.suspend_immediate plain d p) n → SuspendRests T p n
rests_at T d p =
    kept T (row.suspend_immediate plain d p) (SuspendRests T p)
    (record { start = start; resume = resume; hold = hold; enter = enter })
  where
    begun : (E : Env) → NextMark (SuspendRests T p)
        (on_test (test d E) (Some (rests suspended [])) (wrap suspending (step T p Start E)))
    begun E =
        test_next (SuspendRests T p) (test d E) (Some (rests suspended [])) (wrap suspending (step T p Start E))
        before (next_round T p (step T p Start E) ((keeps T p).start E))

    start : (E : Env) → NextMark (SuspendRests T p) (step T (row.suspend_immediate plain d p) Start E)
    start E = subst (NextMark (SuspendRests T p)) (sym (starts T E d p)) (begun E)

    resume : (n : Selection) → SuspendRests T p n → (E : Env)
        → NextMark (SuspendRests T p) (step T (row.suspend_immediate plain d p) (Resume n) E)
    resume n before E = subst (NextMark (SuspendRests T p)) (sym (waits T E d p)) (begun E)
    resume n (round m h) E =
        subst (NextMark (SuspendRests T p)) (sym (resumes T E d p m))
        (test_next (SuspendRests T p) (test d E) (Some (rests (suspending (held_mark m)) (held_touches p m)))
        (wrap suspending (step T p (Resume m) E)) (round (held_mark m) (held m h))
        (next_round T p (step T p (Resume m) E) ((keeps T p).resume m h E)))

    hold : (n : Selection) → SuspendRests T p n → SuspendRests T p (held_mark n)
    hold n before = before
    hold n (round m h) = round (held_mark m) (held m h)

    enter : (n : Selection) → SuspendRests T p n → (id : ℕ) (a : Item)
        → AnyMark (SuspendRests T p) (with_item id a n)
    enter n before id a = tt
    enter n (round m h) id a =
        subst (AnyMark (SuspendRests T p)) (sym (enter_round (with_item id a m)))
        (any_round T p (with_item id a m) ((keeps T p).enter m h id a))

pub suspend_immediate_obeys : SuspendImmediateObeys
suspend_immediate_obeys =
    record {
      at_start = starts;
      before = waits;
      later = resumes;
      marks = rests_at;
      expands = λ modules pos d p a n. refl;
    }

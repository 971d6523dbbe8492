-- A body beside what watches the test, as plain steps: ended, cut or gone on.
use Rattle.std.proofs.Common.{◌≡◌, refl, sym, ap, subst, ◌∙◌, ℕ, zero, suc, Bool, true, false, cond, Option}
use Rattle.std.proofs.Common.{Some, None, List, [], ◌∷◌, ◌++◌, map, arith, append-nil}
use Rattle.std.specs.Prelude.{◌==◌, max, option_map}
use Rattle.std.proofs.lemmas.Bool.Decides.{nat_tests}
use Rattle.hh_base.specs.declared.value.Pos.{Pos}
use Rattle.hh_base.specs.declared.value.FaultKind.{FaultKind}
use Rattle.host_expr.specs.declared.cell.Cell.{Cell}
use Rattle.host_expr.specs.declared.cell.Cell.TheVariants as cell
use Rattle.host_expr.specs.Evaluation.{truth}
use Rattle.hh_term.specs.Selection.{Selection, First, Second, Both, Inside}
use Rattle.hh_term.specs.MustCan.{Bag, lower}
use Rattle.hh_term.specs.Step.{Stepped, ◌>>=◌, completes, rests, mark_map, wrapped, wrap, with_fault, joined}
use Rattle.hh_term.specs.Step.{both_marks, closed, beside, trap_step, on_test, then_start}
use Rattle.hh_term.specs.Touches.{Touch, stopped}
use Rattle.derived_laws.specs.Reactions.{inside, cut, then_fault, preempts, cuts}
use Rattle.derived_laws.proofs.Closing.{ClosedBy, Closes, Closed, closes_wrapped, above_one}

pub same_steps : (a b : Stepped) → a.bag ≡ b.bag → a.code ≡ b.code → a.next ≡ b.next → a.touches ≡ b.touches
    → a.faults ≡ b.faults → a.doubled ≡ b.doubled → a ≡ b
same_steps a b bag code next touches faults doubled =
    λ i. record {
      bag = bag i;
      code = code i;
      next = next i;
      touches = touches i;
      faults = faults i;
      doubled = doubled i;
    }

abbrev pub Faults : Type 0
Faults = List (Pos × FaultKind)

-- the body, which exits where it ends
abbrev pub exited : Stepped → Stepped
exited a = cond (a.code == 0) (joined a (completes 2)) (wrapped First a)

-- the branch that watches, where the test does not hold
abbrev pub watching : Selection → Faults → Stepped
watching w fs = record (rests w []) { faults = fs }

some_of : (b : Bool) (x y : Stepped) → cond b (Some x) (Some y) ≡ Some (cond b x y)
some_of true x y = refl
some_of false x y = refl

pub then_exit : (a : Stepped) → then_start First Second (Some a) (Some (completes 2)) ≡ Some (exited a)
then_exit a = some_of (a.code == 0) (joined a (completes 2)) (wrapped First a)

pub above_nought : (n : ℕ) → (suc (suc n) == 0) ≡ false
above_nought n = grind (arith, nat_tests)

max_one : (n : ℕ) → max (suc (suc n)) 1 ≡ suc (suc n)
max_one n = omega arith

max_two : (n : ℕ) → max (suc (suc n)) 2 ≡ suc (suc n)
max_two n = omega arith

two_max : (n : ℕ) → max 2 (suc (suc n)) ≡ suc (suc n)
two_max n = omega arith

twice_nil : {A : Type 0} (xs : List A) → (xs ++ []) ++ [] ≡ xs
twice_nil xs = append-nil (xs ++ []) ∙ append-nil xs

-- what two branches are where their code is not 1
beside_closed : (x : Stepped) → (x.code == 1) ≡ false
    → closed x ≡ record x { next = None; touches = map stopped x.touches }
beside_closed x e = ap (λ b. cond b x (record x { next = None; touches = map stopped x.touches })) e

abbrev both : Stepped → Stepped → Stepped
both a b = record (joined a b) { code = max a.code b.code; next = both_marks a.next b.next }

abbrev ended : Stepped → Stepped
ended x = record x { next = None; touches = map stopped x.touches }

-- ---- the test does not hold

abbrev pub gone_on : Selection → Faults → Stepped → Stepped
gone_on w fs a = record (inside (λ m. Inside (Both (First m) w)) a) { faults = a.faults ++ fs }

pub watched : (w : Selection) (fs : Faults) (bag : Bag) (code : ℕ) (next : Option Selection) (ts : List Touch)
    (gs : Faults) (ds : List ℕ) → ClosedBy (code == 1) next ts →
    let a : Stepped = record { bag = bag; code = code; next = next; touches = ts; faults = gs; doubled = ds } in
    trap_step (beside (exited a) (watching w fs)) ≡ gone_on w fs a
watched w fs bag zero next ts gs ds h =
    same_steps _ _ (twice_nil bag) refl (sym (ap (mark_map (λ m. Inside (Both (First m) w))) h.0))
    (ap (map stopped) (twice_nil ts) ∙ h.1) (ap (λ xs. xs ++ fs) (append-nil gs)) (twice_nil ds)
watched w fs bag (suc zero) (Some m) ts gs ds h =
    same_steps _ _ (append-nil bag) refl refl (append-nil ts) refl (append-nil ds)
watched w fs bag (suc zero) None ts gs ds h = absurd h
watched w fs bag (suc (suc c)) next ts gs ds h = exits ∙ closes ∙ same
  where
    a : Stepped
    a = record { bag = bag; code = suc (suc c); next = next; touches = ts; faults = gs; doubled = ds }

    shut : (next ≡ None) × (map stopped ts ≡ ts)
    shut = subst (λ b. ClosedBy b next ts) (above_one c) h

    x : Stepped
    x = both (wrapped First a) (watching w fs)

    exits : trap_step (beside (exited a) (watching w fs)) ≡ trap_step (beside (wrapped First a) (watching w fs))
    exits =
        ap (λ b. trap_step (beside (cond b (joined a (completes 2)) (wrapped First a)) (watching w fs)))
        (above_nought c)

    closes : trap_step (beside (wrapped First a) (watching w fs)) ≡ trap_step (ended x)
    closes = ap trap_step (beside_closed x (ap (λ n. n == 1) (max_one c) ∙ above_one c))

    same : trap_step (ended x) ≡ gone_on w fs a
    same =
        same_steps (trap_step (ended x)) (gone_on w fs a) (append-nil bag) (ap lower (max_one c))
        (sym (ap (mark_map (λ m. Inside (Both (First m) w))) shut.0))
        (ap (map stopped) (append-nil ts) ∙ shut.1) refl (append-nil ds)

pub goes_on : (w : Selection) (fs : Faults) (a : Stepped) → Closes a
    → trap_step (beside (exited a) (watching w fs)) ≡ gone_on w fs a
goes_on w fs a h = watched w fs a.bag a.code a.next a.touches a.faults a.doubled h

-- ---- the test holds

cutting : (bag : Bag) (code : ℕ) (next : Option Selection) (ts : List Touch) (gs : Faults) (ds : List ℕ) →
    let a : Stepped = record { bag = bag; code = code; next = next; touches = ts; faults = gs; doubled = ds } in
    trap_step (beside (exited a) (completes 2)) ≡ cut a
cutting bag zero next ts gs ds =
    same_steps _ _ (twice_nil bag) refl refl (ap (map stopped) (twice_nil ts)) (twice_nil gs) (twice_nil ds)
cutting bag (suc zero) next ts gs ds =
    same_steps _ _ (append-nil bag) refl refl (ap (map stopped) (append-nil ts)) (append-nil gs) (append-nil ds)
cutting bag (suc (suc c)) next ts gs ds = exits ∙ closes ∙ same
  where
    a : Stepped
    a = record { bag = bag; code = suc (suc c); next = next; touches = ts; faults = gs; doubled = ds }

    x : Stepped
    x = both (wrapped First a) (completes 2)

    exits : trap_step (beside (exited a) (completes 2)) ≡ trap_step (beside (wrapped First a) (completes 2))
    exits =
        ap (λ b. trap_step (beside (cond b (joined a (completes 2)) (wrapped First a)) (completes 2)))
        (above_nought c)

    closes : trap_step (beside (wrapped First a) (completes 2)) ≡ trap_step (ended x)
    closes = ap trap_step (beside_closed x (ap (λ n. n == 1) (max_two c) ∙ above_one c))

    same : trap_step (ended x) ≡ cut a
    same =
        same_steps (trap_step (ended x)) (cut a) (append-nil bag) (ap lower (max_two c ∙ sym (two_max c))) refl
        (ap (map stopped) (append-nil ts)) (append-nil gs) (append-nil ds)

pub is_cut : (a : Stepped) → trap_step (beside (exited a) (completes 2)) ≡ cut a
is_cut a = cutting a.bag a.code a.next a.touches a.faults a.doubled

-- ---- both branches in their trap

abbrev pub together : Option Stepped → Option Stepped → Option Stepped
together p q =
    (then_start First Second p (Some (completes 2)) >>= (λ a. q >>= (λ b. Some (beside a b))))
    >>= (λ a. Some (trap_step a))

exits_to : (a : Stepped) (q : Option Stepped) → together (Some a) q
    ≡ (Some (exited a) >>= (λ a. q >>= (λ b. Some (beside a b)))) >>= (λ a. Some (trap_step a))
exits_to a q =
    ap (λ o. (o >>= (λ a. q >>= (λ b. Some (beside a b)))) >>= (λ a. Some (trap_step a))) (then_exit a)

pub together_none : (p : Option Stepped) → together p None ≡ None
together_none None = refl
together_none (Some a) = exits_to a None

pub together_cut : (p : Option Stepped) → together p (Some (completes 2)) ≡ option_map cut p
together_cut None = refl
together_cut (Some a) = exits_to a (Some (completes 2)) ∙ ap (λ x. Some x) (is_cut a)

pub together_on : (w : Selection) (fs : Faults) (p : Option Stepped) → Closed p
    → together p (Some (watching w fs)) ≡ option_map (gone_on w fs) p
together_on w fs None h = refl
together_on w fs (Some a) h = exits_to a (Some (watching w fs)) ∙ ap (λ x. Some x) (goes_on w fs a h)

-- where there is nothing to look at
pub inside_only : (w : Selection) (p : Option Stepped)
    → option_map (gone_on w []) p ≡ option_map (inside (λ m. Inside (Both (First m) w))) p
inside_only w None = refl
inside_only w (Some a) = ap (λ x. Some x) (same_steps _ _ refl refl refl refl (append-nil a.faults) refl)

-- ---- weak preemption

abbrev pub weakly : Selection → Selection → Selection
weakly w m = Inside (Both (First m) w)

flag_cuts : (w : Selection) (b : Bool) (p : Option Stepped) → Closed p
    → together p (cond b (Some (completes 2)) (Some (watching w [])))
    ≡ cond b (option_map cut p) (option_map (gone_on w []) p)
flag_cuts w true p h = together_cut p
flag_cuts w false p h = together_on w [] p h

pub weak_step : (w : Selection) (c : Cell) (p : Option Stepped) → Closed p
    → together p (on_test c (Some (completes 2)) (Some (rests w []))) ≡ cuts (weakly w) c p
weak_step w cell.Unknown p h = together_none p
weak_step w (cell.Known v) p h = flag_cuts w (truth v) p h
weak_step w (cell.Faulted o k) p h = together_on w ((o, k) ∷ []) p h

-- ---- strong preemption

abbrev pub strongly : Selection → Selection → Selection
strongly w m = Inside (Both (First (Inside m)) w)

pub marks_twice : (f g : Selection → Selection) (o : Option Selection)
    → mark_map f (mark_map g o) ≡ mark_map (λ m. f (g m)) o
marks_twice f g (Some m) = refl
marks_twice f g None = refl

suspended_on : (w : Selection) (fs : Faults) (p : Option Stepped) → Closed p
    → together (wrap Inside p) (Some (watching w fs))
    ≡ option_map (λ a. record (inside (strongly w) a) { faults = a.faults ++ fs }) p
suspended_on w fs None h = refl
suspended_on w fs (Some a) h =
    together_on w fs (Some (wrapped Inside a)) (closes_wrapped Inside a h)
    ∙ ap (λ x. Some x) (same_steps _ _ refl refl (marks_twice (weakly w) Inside a.next) refl refl refl)

faulted_on : (w : Selection) (o : Pos) (k : FaultKind) (p : Option Stepped) → Closed p
    → together ((wrap Inside p) >>= (λ a. Some (with_fault (cell.Faulted o k) a)))
    (Some (watching w ((o, k) ∷ [])))
    ≡ (option_map (λ a. then_fault (cell.Faulted o k) (inside (strongly w) a)) p)
    >>= (λ a. Some (with_fault (cell.Faulted o k) a))
faulted_on w o k None h = refl
faulted_on w o k (Some a) h =
    together_on w ((o, k) ∷ []) (Some (with_fault (cell.Faulted o k) (wrapped Inside a)))
    (closes_wrapped Inside a h)
    ∙ ap (λ x. Some x) (same_steps _ _ refl refl (marks_twice (weakly w) Inside a.next) refl refl refl)

kills : (n : Selection) (ts : List Touch) → together (Some (rests n ts)) (Some (completes 2))
    ≡ Some (record (completes 0) { touches = map stopped ts })
kills n ts = together_cut (Some (rests n ts))

flag_preempts : (w n : Selection) (ts : List Touch) (b : Bool) (p : Option Stepped) → Closed p
    → together (cond b (Some (rests n ts)) (wrap Inside p)) (cond b (Some (completes 2)) (Some (watching w [])))
    ≡ cond b (Some (record (completes 0) { touches = map stopped ts }))
    (option_map (λ a. record (inside (strongly w) a) { faults = a.faults ++ [] }) p)
flag_preempts w n ts true p h = kills n ts
flag_preempts w n ts false p h = suspended_on w [] p h

-- the body stands suspended beside what watches
pub strong_step : (w n : Selection) (ts : List Touch) (c : Cell) (p : Option Stepped) → Closed p
    → together (on_test c (Some (rests n ts)) (wrap Inside p))
    (on_test c (Some (completes 2)) (Some (rests w [])))
    ≡ preempts (strongly w) c (record (completes 0) { touches = map stopped ts }) p
strong_step w n ts cell.Unknown p h = refl
strong_step w n ts (cell.Known v) p h = flag_preempts w n ts (truth v) p h
strong_step w n ts (cell.Faulted o k) p h = faulted_on w o k p h

pub strong_start : (w : Selection) (p : Option Stepped) → Closed p
    → together (wrap Inside p) (Some (rests w [])) ≡ option_map (inside (strongly w)) p
strong_start w p h = suspended_on w [] p h ∙ nothing_more p
  where
    nothing_more : (p : Option Stepped)
        → option_map (λ a. record (inside (strongly w) a) { faults = a.faults ++ [] }) p
        ≡ option_map (inside (strongly w)) p
    nothing_more None = refl
    nothing_more (Some a) = ap (λ x. Some x) (same_steps _ _ refl refl refl refl (append-nil a.faults) refl)

pub weak_start : (w : Selection) (p : Option Stepped) → Closed p
    → together p (Some (rests w [])) ≡ option_map (inside (weakly w)) p
weak_start w p h = together_on w [] p h ∙ inside_only w p

-- A step leaves a mark exactly where its code is 1; where it is another, no instance runs after.
use Rattle.std.proofs.Common.{◌≡◌, refl, sym, ap, subst, ◌∙◌, ℕ, zero, suc, ◌+◌, Bool, true, false, cond, Option}
use Rattle.std.proofs.Common.{Some, None, List, [], ◌∷◌, ◌++◌, map, ◌⊎◌, inl, inr, arith}
use Rattle.std.specs.Prelude.{◌==◌, ◌&&◌, max, zip}
use Rattle.std.proofs.lemmas.List.{map-append}
use Rattle.std.proofs.lemmas.Bool.Decides.{nat_tests}
use Rattle.hh_base.specs.declared.value.Value.{Value}
use Rattle.hh_base.specs.declared.item.Item.{Item}
use Rattle.host_expr.specs.declared.cell.Cell.{Cell}
use Rattle.host_expr.specs.declared.cell.Cell.TheVariants as cell
use Rattle.host_expr.specs.declared.cell.SigCell.{SigCell}
use Rattle.host_expr.specs.Environment.{Env, is_known, is_decided, unsolved, put}
use Rattle.host_expr.specs.Evaluation.{eval_of, truth}
use Rattle.hh_term.specs.Statement.{Statement, Nothing, Pause, Emit, If, Suspend, Seq, Par, Loop, Trap}
use Rattle.hh_term.specs.Statement.{Exit, Local, Async}
use Rattle.hh_term.specs.Selection.{Selection, AtAsync, First, Second, Both, Inside, Scope, Task, Start, Resume}
use Rattle.hh_term.specs.MustCan.{Table, MustCan, Executed, must_can, solve, emitted, all_known, lower}
use Rattle.hh_term.specs.Step.{Stepped, ◌>>=◌, completes, rests, mark_map, wrapped, wrap, with_fault, joined}
use Rattle.hh_term.specs.Step.{both_marks, beside, trap_step, on_test, emit_step, then_start, leave, scope_mark}
use Rattle.hh_term.specs.Step.{local_step, add_faults, argument_value, start_async, async_step, answer_step}
use Rattle.hh_term.specs.Step.{resume_async, step}
use Rattle.hh_term.specs.Touches.{Touch, stopped, held_mark, held_touches}

abbrev pub Rests : Option Selection → Type 0
Rests (Some m) = Unit {0}
Rests None = ⊥

abbrev pub ClosedBy : Bool → Option Selection → List Touch → Type 0
ClosedBy true n ts = Rests n
ClosedBy false n ts = (n ≡ None) × (map stopped ts ≡ ts)

abbrev pub Closes : Stepped → Type 0
Closes a = ClosedBy (a.code == 1) a.next a.touches

abbrev pub Closed : Option Stepped → Type 0
Closed (Some a) = Closes a
Closed None = Unit {0}

-- ---- combinators

marks_wrapped : (f : Selection → Selection) (b : Bool) (n : Option Selection) (ts : List Touch)
    → ClosedBy b n ts → ClosedBy b (mark_map f n) ts
marks_wrapped f true (Some m) ts h = tt
marks_wrapped f true None ts h = absurd h
marks_wrapped f false n ts h = (ap (mark_map f) h.0, h.1)

pub closes_wrapped : (f : Selection → Selection) (a : Stepped) → Closes a → Closes (wrapped f a)
closes_wrapped f a h = marks_wrapped f (a.code == 1) a.next a.touches h

pub closed_wrap : (f : Selection → Selection) (o : Option Stepped) → Closed o → Closed (wrap f o)
closed_wrap f (Some a) h = closes_wrapped f a h
closed_wrap f None h = tt

pub closes_fault : (c : Cell) (a : Stepped) → Closes a → Closes (with_fault c a)
closes_fault cell.Unknown a h = h
closes_fault (cell.Known v) a h = h
closes_fault (cell.Faulted o k) a h = h

closed_fault : (c : Cell) (o : Option Stepped) → Closed o → Closed (o >>= (λ a. Some (with_fault c a)))
closed_fault c (Some a) h = closes_fault c a h
closed_fault c None h = tt

closed_if : (b : Bool) (p q : Option Stepped) → Closed p → Closed q → Closed (cond b p q)
closed_if true p q h g = h
closed_if false p q h g = g

closed_test : (c : Cell) (p q : Option Stepped) → Closed p → Closed q → Closed (on_test c p q)
closed_test cell.Unknown p q h g = tt
closed_test (cell.Known v) p q h g = closed_if (truth v) p q h g
closed_test (cell.Faulted o k) p q h g = closed_fault (cell.Faulted o k) q g

not_one : (n : ℕ) → (n == 0) ≡ true → (n == 1) ≡ false
not_one n e = grind (arith, nat_tests)

pub above_one : (n : ℕ) → (suc (suc n) == 1) ≡ false
above_one n = grind (arith, nat_tests)

touches_joined : (b : Bool) (n : Option Selection) (ts us : List Touch) → map stopped ts ≡ ts → ClosedBy b n us
    → ClosedBy b n (ts ++ us)
touches_joined true n ts us e h = h
touches_joined false n ts us e h =
    (h.0, map-append stopped ts us ∙ ap (λ xs. xs ++ map stopped us) e ∙ ap (λ xs. ts ++ xs) h.1)

-- the parts of what has another code
pub stopped_by : (a : Stepped) → (a.code == 1) ≡ false → Closes a → (a.next ≡ None) × (map stopped a.touches ≡ a.touches)
stopped_by a e h = subst (λ b. ClosedBy b a.next a.touches) e h

closed_then : (f g : Selection → Selection) (p q : Option Stepped) → Closed p → Closed q
    → Closed (then_start f g p q)
closed_then f g None q h k = tt
closed_then f g (Some a) q h k = at (a.code == 0) refl q k
  where
    at : (b : Bool) → (a.code == 0) ≡ b → (q : Option Stepped) → Closed q
        → Closed (cond b (q >>= (λ b. Some (joined a (wrapped g b)))) (Some (wrapped f a)))
    at true e (Some b) k =
        touches_joined (b.code == 1) (mark_map g b.next) a.touches b.touches
        (stopped_by a (not_one a.code e) h).1 (closes_wrapped g b k)
    at true e None k = tt
    at false e q k = closes_wrapped f a h

one_of_two : (m n : ℕ) → (max m n == 1) ≡ true → ((m == 1) ≡ true) ⊎ ((n == 1) ≡ true)
one_of_two m n e = grind (arith, nat_tests)

rests_left : (o u : Option Selection) → Rests o → Rests (both_marks o u)
rests_left (Some m) (Some n) h = tt
rests_left (Some m) None h = tt
rests_left None u h = absurd h

rests_right : (o u : Option Selection) → Rests u → Rests (both_marks o u)
rests_right (Some m) (Some n) h = tt
rests_right None (Some n) h = tt
rests_right o None h = absurd h

stopped_twice : (ts : List Touch) → map stopped (map stopped ts) ≡ map stopped ts
stopped_twice [] = refl
stopped_twice (t ∷ ts) = ap (λ us. stopped t ∷ us) (stopped_twice ts)

closes_beside : (a b : Stepped) → Closes a → Closes b → Closes (beside a b)
closes_beside a b h g = at (max a.code b.code == 1) refl
  where
    x : Stepped
    x = record (joined a b) { code = max a.code b.code; next = both_marks a.next b.next }

    some : ((a.code == 1) ≡ true) ⊎ ((b.code == 1) ≡ true) → Rests (both_marks a.next b.next)
    some (inl e) = rests_left a.next b.next (subst (λ c. ClosedBy c a.next a.touches) e h)
    some (inr e) = rests_right a.next b.next (subst (λ c. ClosedBy c b.next b.touches) e g)

    at : (c : Bool) → (max a.code b.code == 1) ≡ c
        → Closes (cond c x (record x { next = None; touches = map stopped x.touches }))
    at true e = subst (λ c. ClosedBy c x.next x.touches) (sym e) (some (one_of_two a.code b.code e))
    at false e =
        subst (λ c. ClosedBy c None (map stopped x.touches)) (sym e) (refl, stopped_twice x.touches)

closed_beside : (o u : Option Stepped) → Closed o → Closed u
    → Closed (o >>= (λ a. u >>= (λ b. Some (beside a b))))
closed_beside (Some a) (Some b) h g = closes_beside a b h g
closed_beside (Some a) None h g = tt
closed_beside None u h g = tt

closed_first : (o : Option Stepped) → Closed o → Closed (o >>= (λ a. Some (beside a (completes 0))))
closed_first (Some a) h = closes_beside a (completes 0) h (refl, refl)
closed_first None h = tt

closed_second : (o : Option Stepped) → Closed o → Closed (o >>= (λ b. Some (beside (completes 0) b)))
closed_second (Some b) h = closes_beside (completes 0) b (refl, refl) h
closed_second None h = tt

-- ---- traps, scopes and asyncs

lower_one : (n : ℕ) → (lower n == 1) ≡ (n == 1)
lower_one zero = refl
lower_one (suc zero) = refl
lower_one (suc (suc zero)) = refl
lower_one (suc (suc (suc n))) = above_one n ∙ sym (above_one (suc n))

closed_trap : (o : Option Stepped) → Closed o → Closed (o >>= (λ a. Some (trap_step a)))
closed_trap (Some a) h =
    subst (λ b. ClosedBy b (mark_map Inside a.next) a.touches) (sym (lower_one a.code))
    (closes_wrapped Inside a h)
closed_trap None h = tt

closed_local : (T : Table) (s : ℕ) (p : Env → MustCan) (q : Env → Option Stepped) (E : Env) (c : SigCell)
    → ((F : Env) → Closed (q F)) → Closed (local_step T s p q E c)
closed_local T s p q E c h = at (is_decided d.status && is_known d.value)
  where
    d : SigCell
    d = solve T s p E c

    left : (o : Option Stepped) → Closed o
        → Closed (o >>= (λ a. Some (leave T s (wrapped (scope_mark d) a))))
    left (Some a) g = closes_wrapped (scope_mark d) a g
    left None g = tt

    at : (b : Bool) → Closed (cond b (q (put E s d)
        >>= (λ a. Some (leave T s (wrapped (scope_mark d) a)))) None)
    at true = left (q (put E s d)) (h (put E s d))
    at false = tt

closes_faults : (cs : List Cell) (a : Stepped) → Closes a → Closes (add_faults cs a)
closes_faults [] a h = h
closes_faults (c ∷ cs) a h = closes_fault c (add_faults cs a) (closes_faults cs a h)

closed_start : (T : Table) (n : ℕ) (cs : List Cell) → Closed (async_step T n cs)
closed_start T n cs = at (all_known cs)
  where
    x : Stepped
    x = start_async n (map argument_value (zip (T.params n) cs))

    at : (b : Bool) → Closed (cond b (Some (add_faults cs x)) None)
    at true = closes_faults cs x tt
    at false = tt

closes_answer : (T : Table) (n id : ℕ) (args : List Value) (last : Bool) (queue : List Item)
    → Closes (answer_step T n id args last queue)
closes_answer T n id args true queue = (refl, refl)
closes_answer T n id args false queue = tt

closes_resume : (T : Table) (n id : ℕ) (args : List Value) (queue : List Item)
    → Closes (resume_async T n id args queue)
closes_resume T n id args [] = tt
closes_resume T n id args (a ∷ queue) = closes_answer T n id args a.last queue

closed_emit : (s : ℕ) (c : Cell) → Closed (emit_step s c)
closed_emit s cell.Unknown = tt
closed_emit s (cell.Known v) = (refl, refl)
closed_emit s (cell.Faulted o k) = (refl, refl)

exit_code : (k : ℕ) → (k + 2 == 1) ≡ false
exit_code k = grind (arith, nat_tests)

closes_exit : (k : ℕ) → Closes (completes (k + 2))
closes_exit k = subst (λ b. ClosedBy b None []) (sym (exit_code k)) (refl, refl)

-- ---- the statements

pub closed : (T : Table) (p : Statement) (t : Task) (E : Env) → Closed (step T p t E)
closed T Nothing t E = (refl, refl)
closed T Pause Start E = tt
closed T Pause (Resume m) E = (refl, refl)
closed T (Emit s e) t E = closed_emit s (emitted e E)
closed T (Exit k) t E = closes_exit k
closed T (If e p q) Start E =
    closed_test (eval_of e E []) (wrap First (step T p Start E)) (wrap Second (step T q Start E))
    (closed_wrap First (step T p Start E) (closed T p Start E))
    (closed_wrap Second (step T q Start E) (closed T q Start E))
closed T (If e p q) (Resume (First m)) E = closed_wrap First (step T p (Resume m) E) (closed T p (Resume m) E)
closed T (If e p q) (Resume (Second m)) E = closed_wrap Second (step T q (Resume m) E) (closed T q (Resume m) E)
closed T (Suspend e p) Start E = closed_wrap Inside (step T p Start E) (closed T p Start E)
closed T (Suspend e p) (Resume (Inside m)) E =
    closed_test (eval_of e E []) (Some (rests (Inside (held_mark m)) (held_touches p m)))
    (wrap Inside (step T p (Resume m) E)) tt (closed_wrap Inside (step T p (Resume m) E) (closed T p (Resume m) E))
closed T (Seq p q) Start E =
    closed_then First Second (step T p Start E) (step T q Start E) (closed T p Start E) (closed T q Start E)
closed T (Seq p q) (Resume (First m)) E =
    closed_then First Second (step T p (Resume m) E) (step T q Start E) (closed T p (Resume m) E)
    (closed T q Start E)
closed T (Seq p q) (Resume (Second m)) E = closed_wrap Second (step T q (Resume m) E) (closed T q (Resume m) E)
closed T (Par p q) Start E =
    closed_beside (step T p Start E) (step T q Start E) (closed T p Start E) (closed T q Start E)
closed T (Par p q) (Resume (First m)) E = closed_first (step T p (Resume m) E) (closed T p (Resume m) E)
closed T (Par p q) (Resume (Second m)) E = closed_second (step T q (Resume m) E) (closed T q (Resume m) E)
closed T (Par p q) (Resume (Both m n)) E =
    closed_beside (step T p (Resume m) E) (step T q (Resume n) E) (closed T p (Resume m) E)
    (closed T q (Resume n) E)
closed T (Loop p) Start E = closed_wrap Inside (step T p Start E) (closed T p Start E)
closed T (Loop p) (Resume (Inside m)) E =
    closed_then Inside Inside (step T p (Resume m) E) (step T p Start E) (closed T p (Resume m) E)
    (closed T p Start E)
closed T (Trap p) Start E = closed_trap (step T p Start E) (closed T p Start E)
closed T (Trap p) (Resume (Inside m)) E = closed_trap (step T p (Resume m) E) (closed T p (Resume m) E)
closed T (Local s p) Start E =
    closed_local T s (must_can T p Start Executed) (step T p Start) E (unsolved false (T.first s))
    (λ F. closed T p Start F)
closed T (Local s p) (Resume (Scope m b v)) E =
    closed_local T s (must_can T p (Resume m) Executed) (step T p (Resume m)) E (unsolved b v)
    (λ F. closed T p (Resume m) F)
closed T (Async n) Start E = closed_start T n (map (λ e. eval_of e E []) (T.args n))
closed T (Async n) (Resume (AtAsync id args queue suspended)) E = closes_resume T n id args queue
closed T _ _ E = tt

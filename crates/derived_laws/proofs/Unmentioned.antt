-- What a statement does does not depend on a signal that it does not mention.
use Rattle.std.proofs.Common.{◌≡◌, refl, ap, ◌∙◌, ℕ, Bool, true, false, cond, ◌&&◌, Option, Some, None}
use Rattle.std.proofs.Common.{List, [], ◌∷◌, map}
use Rattle.std.specs.Prelude.{◌==◌, not}
use Rattle.hh_base.specs.declared.value.Value.{Value}
use Rattle.hh_base.specs.declared.value.Value.TheVariants as value
use Rattle.host_expr.specs.declared.cell.Cell.TheVariants as cell
use Rattle.host_expr.specs.declared.cell.SigCell.{SigCell}
use Rattle.host_expr.specs.Expression.{Expression, Int, Flag, Text, Now, Pre, NowVal, PreVal, Arg, Not, Neg, Arith}
use Rattle.host_expr.specs.Expression.{Compare, And, Or, Choose}
use Rattle.host_expr.specs.Environment.{Env, is_known, is_decided, is_present, unsolved, put}
use Rattle.host_expr.specs.Evaluation.{reads_known, run, eval_of, then_with, arith, compared, negated, truth}
use Rattle.hh_term.specs.Statement.{Statement, Nothing, Pause, Emit, If, Suspend, Seq, Par, Loop, Trap, Exit, Local}
use Rattle.hh_term.specs.Statement.{Async}
use Rattle.hh_term.specs.Selection.{AtAsync, First, Second, Both, Inside, Scope, Task, Start, Resume}
use Rattle.hh_term.specs.MustCan.{Table, MustCan, Index, Executed, must_can, emitted, raised, round, solve, scoped, hide}
use Rattle.hh_term.specs.MustCan.{chosen, sequence, parallel, trapped, gives}
use Rattle.hh_term.specs.MustCan.{held as held_by}
use Rattle.hh_term.specs.Step.{Stepped, ◌>>=◌, rests, wrapped, wrap, beside, trap_step, on_test, emit_step, then_start}
use Rattle.hh_term.specs.Step.{leave, scope_mark, local_step, async_step, completes, step}
use Rattle.hh_term.specs.Touches.{held_mark, held_touches}
use Rattle.derived_laws.specs.Mentions.{IsOther, Unread, OptionUnread, AllUnread, Unmentioned}

-- two environments that agree but for one signal
abbrev pub Agree : ℕ → Env → Env → Type 0
Agree c E F = (s : ℕ) → IsOther c s → E s ≡ F s

pub put_agrees : (c : ℕ) (E : Env) (x : SigCell) → Agree c (put E c x) E
put_agrees c E x s h = ap (λ b. cond b x (E s)) h

put_both : (c s : ℕ) (E F : Env) (y : SigCell) → Agree c E F → Agree c (put E s y) (put F s y)
put_both c s E F y o k h = at (k == s)
  where
    at : (b : Bool) → cond b y (E k) ≡ cond b y (F k)
    at true = refl
    at false = o k h

-- ---- expressions

reads_same : (c : ℕ) (e : Expression) (E F : Env) → Unread c e → Agree c E F → reads_known e E ≡ reads_known e F
reads_same c (Int n) E F u o = refl
reads_same c (Flag b) E F u o = refl
reads_same c (Text t) E F u o = refl
reads_same c (Now s) E F u o = ap (λ (x : SigCell). is_decided x.status) (o s u)
reads_same c (Pre s) E F u o = refl
reads_same c (NowVal s) E F u o = ap (λ (x : SigCell). is_known x.value) (o s u)
reads_same c (PreVal s) E F u o = refl
reads_same c (Arg n) E F u o = refl
reads_same c (Not a) E F u o = reads_same c a E F u o
reads_same c (Neg p a) E F u o = reads_same c a E F u o
reads_same c (Arith p op a b) E F u o = λ i. reads_same c a E F u.0 o i && reads_same c b E F u.1 o i
reads_same c (Compare rel a b) E F u o = λ i. reads_same c a E F u.0 o i && reads_same c b E F u.1 o i
reads_same c (And a b) E F u o = λ i. reads_same c a E F u.0 o i && reads_same c b E F u.1 o i
reads_same c (Or a b) E F u o = λ i. reads_same c a E F u.0 o i && reads_same c b E F u.1 o i
reads_same c (Choose a b e) E F u o =
    λ i. reads_same c a E F u.0 o i && reads_same c b E F u.1 o i && reads_same c e E F u.2 o i

run_same : (c : ℕ) (e : Expression) (E F : Env) (args : List Value) → Unread c e → Agree c E F
    → run e E args ≡ run e F args
run_same c (Int n) E F args u o = refl
run_same c (Flag b) E F args u o = refl
run_same c (Text t) E F args u o = refl
run_same c (Now s) E F args u o = ap (λ (x : SigCell). cell.Known (value.Bool (is_present x.status))) (o s u)
run_same c (Pre s) E F args u o = ap (λ (x : SigCell). cell.Known (value.Bool x.pre)) (o s u)
run_same c (NowVal s) E F args u o = ap (λ (x : SigCell). x.value) (o s u)
run_same c (PreVal s) E F args u o = ap (λ (x : SigCell). cell.Known x.preval) (o s u)
run_same c (Arg n) E F args u o = refl
run_same c (Not a) E F args u o =
    λ i. then_with (run_same c a E F args u o i) (λ v. cell.Known (value.Bool (not (truth v))))
run_same c (Neg p a) E F args u o = λ i. then_with (run_same c a E F args u o i) (negated p)
run_same c (Arith p op a b) E F args u o =
    λ i. then_with (run_same c a E F args u.0 o i)
    (λ v. then_with (run_same c b E F args u.1 o i) (arith p op v))
run_same c (Compare rel a b) E F args u o =
    λ i. then_with (run_same c a E F args u.0 o i)
    (λ v. then_with (run_same c b E F args u.1 o i) (λ w. cell.Known (value.Bool (compared rel v w))))
run_same c (And a b) E F args u o =
    λ i. then_with (run_same c a E F args u.0 o i)
    (λ v. cond (truth v) (run_same c b E F args u.1 o i) (cell.Known (value.Bool false)))
run_same c (Or a b) E F args u o =
    λ i. then_with (run_same c a E F args u.0 o i)
    (λ v. cond (truth v) (cell.Known (value.Bool true)) (run_same c b E F args u.1 o i))
run_same c (Choose a b e) E F args u o =
    λ i. then_with (run_same c a E F args u.0 o i)
    (λ v. cond (truth v) (run_same c b E F args u.1 o i) (run_same c e E F args u.2 o i))

pub eval_same : (c : ℕ) (e : Expression) (E F : Env) → Unread c e → Agree c E F → eval_of e E [] ≡ eval_of e F []
eval_same c e E F u o = λ i. cond (reads_same c e E F u o i) (run_same c e E F [] u o i) cell.Unknown

emitted_same : (c : ℕ) (e : Option Expression) (E F : Env) → OptionUnread c e → Agree c E F
    → emitted e E ≡ emitted e F
emitted_same c None E F u o = refl
emitted_same c (Some e) E F u o = eval_same c e E F u o

arguments_same : (c : ℕ) (es : List Expression) (E F : Env) → AllUnread c es → Agree c E F
    → map (λ e. eval_of e E []) es ≡ map (λ e. eval_of e F []) es
arguments_same c [] E F u o = refl
arguments_same c (e ∷ es) E F u o = λ i. eval_same c e E F u.0 o i ∷ arguments_same c es E F u.1 o i

-- ---- Must and Can

solve_same : (T : Table) (s : ℕ) (p : Env → MustCan) (E F : Env)
    → ((y : SigCell) → p (put E s y) ≡ p (put F s y)) → (x : SigCell) → solve T s p E x ≡ solve T s p F x
solve_same T s p E F h x =
    ap (raised T s (round T s p E x)) (h (round T s p E x))
    ∙ ap (round T s p F) (ap (raised T s x) (h x))

scoped_same : (T : Table) (s : ℕ) (p : Env → MustCan) (E F : Env)
    → ((y : SigCell) → p (put E s y) ≡ p (put F s y)) → (x : SigCell) → scoped T s p E x ≡ scoped T s p F x
scoped_same T s p E F h x =
    ap (λ (y : SigCell). hide s (p (put E s y))) (solve_same T s p E F h x)
    ∙ ap (hide s) (h (solve T s p F x))

pub must_same : (T : Table) (c : ℕ) (p : Statement) (t : Task) (i : Index) (E F : Env) → Unmentioned T c p
    → Agree c E F → must_can T p t i E ≡ must_can T p t i F
must_same T c Nothing t i E F u o = refl
must_same T c Pause Start i E F u o = refl
must_same T c Pause (Resume m) i E F u o = refl
must_same T c (Emit s e) t i E F u o = λ k. gives ((s, emitted_same c e E F u.1 o k) ∷ []) 0 i
must_same T c (Exit n) t i E F u o = refl
must_same T c (Async n) Start i E F u o = refl
must_same T c (Async n) (Resume (AtAsync id args queue suspended)) i E F u o = refl
must_same T c (If e p q) Start i E F u o =
    λ k. chosen (eval_same c e E F u.0 o k) i (λ j. must_same T c p Start j E F u.1 o k)
    (λ j. must_same T c q Start j E F u.2 o k)
must_same T c (If e p q) (Resume (First m)) i E F u o = must_same T c p (Resume m) i E F u.1 o
must_same T c (If e p q) (Resume (Second m)) i E F u o = must_same T c q (Resume m) i E F u.2 o
must_same T c (Suspend e p) Start i E F u o = must_same T c p Start i E F u.1 o
must_same T c (Suspend e p) (Resume (Inside m)) i E F u o =
    λ k. held_by (eval_same c e E F u.0 o k) i (λ j. must_same T c p (Resume m) j E F u.1 o k)
must_same T c (Seq p q) Start i E F u o =
    λ k. sequence (must_same T c p Start i E F u.0 o k) (λ j. must_same T c q Start j E F u.1 o k)
must_same T c (Seq p q) (Resume (First m)) i E F u o =
    λ k. sequence (must_same T c p (Resume m) i E F u.0 o k) (λ j. must_same T c q Start j E F u.1 o k)
must_same T c (Seq p q) (Resume (Second m)) i E F u o = must_same T c q (Resume m) i E F u.1 o
must_same T c (Par p q) Start i E F u o =
    λ k. parallel (must_same T c p Start i E F u.0 o k) (must_same T c q Start i E F u.1 o k)
must_same T c (Par p q) (Resume (First m)) i E F u o =
    λ k. parallel (must_same T c p (Resume m) i E F u.0 o k) (gives [] 0 i)
must_same T c (Par p q) (Resume (Second m)) i E F u o =
    λ k. parallel (gives [] 0 i) (must_same T c q (Resume m) i E F u.1 o k)
must_same T c (Par p q) (Resume (Both m n)) i E F u o =
    λ k. parallel (must_same T c p (Resume m) i E F u.0 o k) (must_same T c q (Resume n) i E F u.1 o k)
must_same T c (Loop p) Start i E F u o = must_same T c p Start i E F u o
must_same T c (Loop p) (Resume (Inside m)) i E F u o =
    λ k. sequence (must_same T c p (Resume m) i E F u o k) (λ j. must_same T c p Start j E F u o k)
must_same T c (Trap p) Start i E F u o = ap trapped (must_same T c p Start i E F u o)
must_same T c (Trap p) (Resume (Inside m)) i E F u o = ap trapped (must_same T c p (Resume m) i E F u o)
must_same T c (Local s p) Start i E F u o =
    scoped_same T s (must_can T p Start i) E F
    (λ y. must_same T c p Start i (put E s y) (put F s y) u.1 (put_both c s E F y o)) (unsolved false (T.first s))
must_same T c (Local s p) (Resume (Scope m b v)) i E F u o =
    scoped_same T s (must_can T p (Resume m) i) E F
    (λ y. must_same T c p (Resume m) i (put E s y) (put F s y) u.1 (put_both c s E F y o)) (unsolved b v)
must_same T c _ t i E F u o = refl

-- ---- Step

local_same : (T : Table) (s : ℕ) (p : Env → MustCan) (q : Env → Option Stepped) (E F : Env)
    → ((y : SigCell) → p (put E s y) ≡ p (put F s y)) → ((y : SigCell) → q (put E s y) ≡ q (put F s y))
    → (x : SigCell) → local_step T s p q E x ≡ local_step T s p q F x
local_same T s p q E F h g x =
    ap (λ (d : SigCell). cond (is_decided d.status && is_known d.value)
    (q (put E s d) >>= (λ a. Some (leave T s (wrapped (scope_mark d) a)))) None) (solve_same T s p E F h x)
    ∙ ap (λ o. cond (is_decided (solve T s p F x).status && is_known (solve T s p F x).value)
    (o >>= (λ a. Some (leave T s (wrapped (scope_mark (solve T s p F x)) a)))) None) (g (solve T s p F x))

pub step_same : (T : Table) (c : ℕ) (p : Statement) (t : Task) (E F : Env) → Unmentioned T c p → Agree c E F
    → step T p t E ≡ step T p t F
step_same T c Nothing t E F u o = refl
step_same T c Pause Start E F u o = refl
step_same T c Pause (Resume m) E F u o = refl
step_same T c (Emit s e) t E F u o = ap (emit_step s) (emitted_same c e E F u.1 o)
step_same T c (Exit n) t E F u o = refl
step_same T c (If e p q) Start E F u o =
    λ k. on_test (eval_same c e E F u.0 o k) (wrap First (step_same T c p Start E F u.1 o k))
    (wrap Second (step_same T c q Start E F u.2 o k))
step_same T c (If e p q) (Resume (First m)) E F u o = ap (wrap First) (step_same T c p (Resume m) E F u.1 o)
step_same T c (If e p q) (Resume (Second m)) E F u o = ap (wrap Second) (step_same T c q (Resume m) E F u.2 o)
step_same T c (Suspend e p) Start E F u o = ap (wrap Inside) (step_same T c p Start E F u.1 o)
step_same T c (Suspend e p) (Resume (Inside m)) E F u o =
    λ k. on_test (eval_same c e E F u.0 o k) (Some (rests (Inside (held_mark m)) (held_touches p m)))
    (wrap Inside (step_same T c p (Resume m) E F u.1 o k))
step_same T c (Seq p q) Start E F u o =
    λ k. then_start First Second (step_same T c p Start E F u.0 o k) (step_same T c q Start E F u.1 o k)
step_same T c (Seq p q) (Resume (First m)) E F u o =
    λ k. then_start First Second (step_same T c p (Resume m) E F u.0 o k) (step_same T c q Start E F u.1 o k)
step_same T c (Seq p q) (Resume (Second m)) E F u o = ap (wrap Second) (step_same T c q (Resume m) E F u.1 o)
step_same T c (Par p q) Start E F u o =
    λ k. (step_same T c p Start E F u.0 o k)
    >>= (λ a. (step_same T c q Start E F u.1 o k) >>= (λ b. Some (beside a b)))
step_same T c (Par p q) (Resume (First m)) E F u o =
    ap (λ x. x >>= (λ a. Some (beside a (completes 0)))) (step_same T c p (Resume m) E F u.0 o)
step_same T c (Par p q) (Resume (Second m)) E F u o =
    ap (λ x. x >>= (λ b. Some (beside (completes 0) b))) (step_same T c q (Resume m) E F u.1 o)
step_same T c (Par p q) (Resume (Both m n)) E F u o =
    λ k. (step_same T c p (Resume m) E F u.0 o k)
    >>= (λ a. (step_same T c q (Resume n) E F u.1 o k) >>= (λ b. Some (beside a b)))
step_same T c (Loop p) Start E F u o = ap (wrap Inside) (step_same T c p Start E F u o)
step_same T c (Loop p) (Resume (Inside m)) E F u o =
    λ k. then_start Inside Inside (step_same T c p (Resume m) E F u o k) (step_same T c p Start E F u o k)
step_same T c (Trap p) Start E F u o = ap (λ x. x >>= (λ a. Some (trap_step a))) (step_same T c p Start E F u o)
step_same T c (Trap p) (Resume (Inside m)) E F u o =
    ap (λ x. x >>= (λ a. Some (trap_step a))) (step_same T c p (Resume m) E F u o)
step_same T c (Local s p) Start E F u o =
    local_same T s (must_can T p Start Executed) (step T p Start) E F
    (λ y. must_same T c p Start Executed (put E s y) (put F s y) u.1 (put_both c s E F y o))
    (λ y. step_same T c p Start (put E s y) (put F s y) u.1 (put_both c s E F y o)) (unsolved false (T.first s))
step_same T c (Local s p) (Resume (Scope m b v)) E F u o =
    local_same T s (must_can T p (Resume m) Executed) (step T p (Resume m)) E F
    (λ y. must_same T c p (Resume m) Executed (put E s y) (put F s y) u.1 (put_both c s E F y o))
    (λ y. step_same T c p (Resume m) (put E s y) (put F s y) u.1 (put_both c s E F y o)) (unsolved b v)
step_same T c (Async n) Start E F u o = ap (async_step T n) (arguments_same c (T.args n) E F u.1 o)
step_same T c (Async n) (Resume (AtAsync id args queue suspended)) E F u o = refl
step_same T c _ t E F u o = refl

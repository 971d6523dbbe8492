-- Each touch of a step is fair, whatever mark it resumes.
use Rattle.std.proofs.Common.{◌≡◌, ℕ, Bool, true, false, cond, Option, Some, None, List, [], ◌∷◌, map, refl}
use Rattle.std.specs.Prelude.{◌==◌, ◌&&◌, max, zip}
use Rattle.std.specs.List.{list_all}
use Rattle.hh_base.specs.declared.value.Value.{Value}
use Rattle.hh_base.specs.declared.item.Item.{Item}
use Rattle.host_expr.specs.declared.cell.Cell.{Cell}
use Rattle.host_expr.specs.declared.cell.Cell.TheVariants as cell
use Rattle.host_expr.specs.declared.cell.SigCell.{SigCell}
use Rattle.host_expr.specs.Environment.{Env, is_known, is_decided, unsolved, put}
use Rattle.host_expr.specs.Evaluation.{eval_of, truth}
use Rattle.hh_term.specs.Statement.{Statement, Nothing, Pause, Emit, If, Suspend, Seq, Par, Loop, Trap}
use Rattle.hh_term.specs.Statement.{Exit, Local, Async}
use Rattle.hh_term.specs.Selection.{Selection, AtAsync, First, Second, Both, Inside, Scope, Task}
use Rattle.hh_term.specs.Selection.{Start, Resume}
use Rattle.hh_term.specs.MustCan.{Table, MustCan, Executed, must_can, solve, emitted, all_known}
use Rattle.hh_term.specs.Step.{Stepped, ◌>>=◌, completes, rests, wrapped, wrap, with_fault, joined, both_marks, beside, trap_step, on_test, emit_step, then_start, leave, scope_mark, local_step, add_faults, argument_value, start_async, answer_step, resume_async, step}
use Rattle.hh_term.specs.Touches.{stopped, held_mark, held_touches}
use Rattle.term_machine.proofs.Tracking.{is_fair, all_append, stopped_fair, OnStep}

abbrev pub IsFair : Stepped → Type 0
IsFair a = list_all is_fair a.touches ≡ true

abbrev pub Fair : Option Stepped → Type 0
Fair o = OnStep IsFair o

fair_wrap : (f : Selection → Selection) (o : Option Stepped) → Fair o → Fair (wrap f o)
fair_wrap f (Some a) t = t
fair_wrap f None t = tt

fair_fault : (c : Cell) (a : Stepped) → IsFair a → IsFair (with_fault c a)
fair_fault cell.Unknown a t = t
fair_fault (cell.Known v) a t = t
fair_fault (cell.Faulted o k) a t = t

fair_if : (b : Bool) (p q : Option Stepped) → Fair p → Fair q → Fair (cond b p q)
fair_if true p q t u = t
fair_if false p q t u = u

fair_faulted : (c : Cell) (o : Option Stepped) → Fair o → Fair (o >>= (λ a. Some (with_fault c a)))
fair_faulted c (Some a) t = fair_fault c a t
fair_faulted c None t = tt

fair_test : (c : Cell) (p q : Option Stepped) → Fair p → Fair q → Fair (on_test c p q)
fair_test cell.Unknown p q t u = tt
fair_test (cell.Known v) p q t u = fair_if (truth v) p q t u
fair_test (cell.Faulted o k) p q t u = fair_faulted (cell.Faulted o k) q u

fair_joined : (f g : Selection → Selection) (a : Stepped) (b : Bool) (q : Option Stepped) → IsFair a → Fair q → Fair (cond b (q >>= (λ b. Some (joined a (wrapped g b)))) (Some (wrapped f a)))
fair_joined f g a true (Some b) t u = all_append a.touches b.touches t u
fair_joined f g a true None t u = tt
fair_joined f g a false q t u = t

fair_then : (f g : Selection → Selection) (p q : Option Stepped) → Fair p → Fair q → Fair (then_start f g p q)
fair_then f g (Some a) q t u = fair_joined f g a (a.code == 0) q t u
fair_then f g None q t u = tt

fair_closed : (b : Bool) (a : Stepped) → IsFair a → IsFair (cond b a (record a { next = None; touches = map stopped a.touches }))
fair_closed true a t = t
fair_closed false a t = stopped_fair a.touches t

fair_beside : (a b : Stepped) → IsFair a → IsFair b → IsFair (beside a b)
fair_beside a b t u = fair_closed (max a.code b.code == 1) (record (joined a b) { code = max a.code b.code; next = both_marks a.next b.next }) (all_append a.touches b.touches t u)

fair_both : (o o' : Option Stepped) → Fair o → Fair o' → Fair (o >>= (λ a. o' >>= (λ b. Some (beside a b))))
fair_both (Some a) (Some b) t u = fair_beside a b t u
fair_both (Some a) None t u = tt
fair_both None o' t u = tt

fair_first : (o : Option Stepped) → Fair o → Fair (o >>= (λ a. Some (beside a (completes 0))))
fair_first (Some a) t = fair_beside a (completes 0) t refl
fair_first None t = tt

fair_second : (o : Option Stepped) → Fair o → Fair (o >>= (λ b. Some (beside (completes 0) b)))
fair_second (Some b) t = fair_beside (completes 0) b refl t
fair_second None t = tt

fair_trap : (o : Option Stepped) → Fair o → Fair (o >>= (λ a. Some (trap_step a)))
fair_trap (Some a) t = t
fair_trap None t = tt

fair_left : (T : Table) (s : ℕ) (d : SigCell) (b : Bool) (o : Option Stepped) → Fair o → Fair (cond b (o >>= (λ a. Some (leave T s (wrapped (scope_mark d) a)))) None)
fair_left T s d true (Some a) t = t
fair_left T s d true None t = tt
fair_left T s d false o t = tt

fair_local : (T : Table) (s : ℕ) (p : Env → MustCan) (q : Env → Option Stepped) (E : Env) (c : SigCell) → ((F : Env) → Fair (q F)) → Fair (local_step T s p q E c)
fair_local T s p q E c t = let d = solve T s p E c in fair_left T s d (is_decided d.status && is_known d.value) (q (put E s d)) (t (put E s d))

fair_faults : (cs : List Cell) (a : Stepped) → IsFair a → IsFair (add_faults cs a)
fair_faults [] a t = t
fair_faults (c ∷ cs) a t = fair_fault c (add_faults cs a) (fair_faults cs a t)

fair_start : (b : Bool) (n : ℕ) (args : List Value) (cs : List Cell) → Fair (cond b (Some (add_faults cs (start_async n args))) None)
fair_start true n args cs = fair_faults cs (start_async n args) refl
fair_start false n args cs = tt

fair_answer : (T : Table) (n id : ℕ) (args : List Value) (last : Bool) (queue : List Item) → IsFair (answer_step T n id args last queue)
fair_answer T n id args true queue = refl
fair_answer T n id args false queue = refl

fair_resume : (T : Table) (n id : ℕ) (args : List Value) (queue : List Item) → IsFair (resume_async T n id args queue)
fair_resume T n id args [] = refl
fair_resume T n id args (a ∷ queue) = fair_answer T n id args a.last queue

fair_emit : (s : ℕ) (c : Cell) → Fair (emit_step s c)
fair_emit s cell.Unknown = tt
fair_emit s (cell.Known v) = refl
fair_emit s (cell.Faulted o k) = refl

fair_held : (p : Statement) (m : Selection) → list_all is_fair (held_touches p m) ≡ true
fair_held (Async n) (AtAsync id args queue suspended) = refl
fair_held (If e p q) (First m) = fair_held p m
fair_held (If e p q) (Second m) = fair_held q m
fair_held (Suspend e p) (Inside m) = fair_held p m
fair_held (Seq p q) (First m) = fair_held p m
fair_held (Seq p q) (Second m) = fair_held q m
fair_held (Par p q) (First m) = fair_held p m
fair_held (Par p q) (Second m) = fair_held q m
fair_held (Par p q) (Both m n) = all_append (held_touches p m) (held_touches q n) (fair_held p m) (fair_held q n)
fair_held (Loop p) (Inside m) = fair_held p m
fair_held (Trap p) (Inside m) = fair_held p m
fair_held (Local s p) (Scope m b v) = fair_held p m
fair_held _ _ = refl

pub fair : (T : Table) (p : Statement) (t : Task) (E : Env) → Fair (step T p t E)
fair T Nothing t E = refl
fair T Pause Start E = refl
fair T Pause (Resume m) E = refl
fair T (Emit s x) t E = fair_emit s (emitted x E)
fair T (Exit k) t E = refl
fair T (If x p q) Start E = fair_test (eval_of x E []) (wrap First (step T p Start E)) (wrap Second (step T q Start E)) (fair_wrap First (step T p Start E) (fair T p Start E)) (fair_wrap Second (step T q Start E) (fair T q Start E))
fair T (If x p q) (Resume (First m)) E = fair_wrap First (step T p (Resume m) E) (fair T p (Resume m) E)
fair T (If x p q) (Resume (Second m)) E = fair_wrap Second (step T q (Resume m) E) (fair T q (Resume m) E)
fair T (Suspend x p) Start E = fair_wrap Inside (step T p Start E) (fair T p Start E)
fair T (Suspend x p) (Resume (Inside m)) E = fair_test (eval_of x E []) (Some (rests (Inside (held_mark m)) (held_touches p m))) (wrap Inside (step T p (Resume m) E)) (fair_held p m) (fair_wrap Inside (step T p (Resume m) E) (fair T p (Resume m) E))
fair T (Seq p q) Start E = fair_then First Second (step T p Start E) (step T q Start E) (fair T p Start E) (fair T q Start E)
fair T (Seq p q) (Resume (First m)) E = fair_then First Second (step T p (Resume m) E) (step T q Start E) (fair T p (Resume m) E) (fair T q Start E)
fair T (Seq p q) (Resume (Second m)) E = fair_wrap Second (step T q (Resume m) E) (fair T q (Resume m) E)
fair T (Par p q) Start E = fair_both (step T p Start E) (step T q Start E) (fair T p Start E) (fair T q Start E)
fair T (Par p q) (Resume (First m)) E = fair_first (step T p (Resume m) E) (fair T p (Resume m) E)
fair T (Par p q) (Resume (Second m)) E = fair_second (step T q (Resume m) E) (fair T q (Resume m) E)
fair T (Par p q) (Resume (Both m n)) E = fair_both (step T p (Resume m) E) (step T q (Resume n) E) (fair T p (Resume m) E) (fair T q (Resume n) E)
fair T (Loop p) Start E = fair_wrap Inside (step T p Start E) (fair T p Start E)
fair T (Loop p) (Resume (Inside m)) E = fair_then Inside Inside (step T p (Resume m) E) (step T p Start E) (fair T p (Resume m) E) (fair T p Start E)
fair T (Trap p) Start E = fair_trap (step T p Start E) (fair T p Start E)
fair T (Trap p) (Resume (Inside m)) E = fair_trap (step T p (Resume m) E) (fair T p (Resume m) E)
fair T (Local s p) Start E = fair_local T s (must_can T p Start Executed) (step T p Start) E (unsolved false (T.first s)) (λ F. fair T p Start F)
fair T (Local s p) (Resume (Scope m b v)) E = fair_local T s (must_can T p (Resume m) Executed) (step T p (Resume m)) E (unsolved b v) (λ F. fair T p (Resume m) F)
fair T (Async n) Start E = fair_start (all_known (map (λ x. eval_of x E []) (T.args n))) n (map argument_value (zip (T.params n) (map (λ x. eval_of x E []) (T.args n)))) (map (λ x. eval_of x E []) (T.args n))
fair T (Async n) (Resume (AtAsync id args queue suspended)) E = fair_resume T n id args queue
fair T _ _ E = tt

-- The doubled signals of a step are valued.
use Rattle.std.proofs.Common.{◌≡◌, refl, ℕ, Bool, true, false, cond, Option, Some, None, List, [], ◌∷◌, ◌++◌, map}
use Rattle.std.proofs.Common.{subst}
use Rattle.std.specs.Prelude.{◌==◌, ◌&&◌, max, zip}
use Rattle.std.specs.List.{AllByRecursion}
use Rattle.hh_base.specs.declared.value.Kind.{Kind}
use Rattle.hh_base.specs.declared.value.Value.{Value}
use Rattle.hh_base.specs.declared.value.CombineWord.{CombineWord}
use Rattle.hh_base.specs.declared.item.Item.{Item}
use Rattle.hh_base.specs.Value.{is_valued}
use Rattle.host_expr.specs.declared.cell.Cell.{Cell}
use Rattle.host_expr.specs.declared.cell.Cell.TheVariants as cell
use Rattle.host_expr.specs.declared.cell.SigCell.{SigCell}
use Rattle.host_expr.specs.Combination.{is_several}
use Rattle.host_expr.specs.Environment.{Env, is_known, is_decided, unsolved, put}
use Rattle.host_expr.specs.Evaluation.{eval_of, truth}
use Rattle.hh_term.specs.Statement.{Statement, Nothing, Pause, Emit, If, Suspend, Seq, Par, Loop, Trap}
use Rattle.hh_term.specs.Statement.{Exit, Local, Async}
use Rattle.hh_term.specs.Selection.{Selection, AtAsync, First, Second, Both, Inside, Scope, Task, Start, Resume}
use Rattle.hh_term.specs.Selection.{Control, Fresh, At, Ended}
use Rattle.hh_term.specs.MustCan.{Table, MustCan, Executed, must_can, solve, emitted, all_known}
use Rattle.hh_term.specs.Reaction.{Ran, ran, program_step}
use Rattle.hh_term.specs.Step.{Stepped, ◌>>=◌, completes, rests, wrapped, wrap, with_fault, joined, both_marks}
use Rattle.hh_term.specs.Step.{beside, trap_step, on_test, emit_step, then_start, leave, scope_mark, local_step}
use Rattle.hh_term.specs.Step.{add_faults, argument_value, start_async, answer_step, resume_async, doubled_by}
use Rattle.hh_term.specs.Step.{values_of, step}
use Rattle.hh_term.specs.Touches.{stopped, held_mark, held_touches}

abbrev pub IsValued : Table → ℕ → Type 0
IsValued T s = is_valued (T.kind s) ≡ true

abbrev pub AllValued : Table → List ℕ → Type 0
AllValued T = AllByRecursion (IsValued T)

pub all_both : (T : Table) (xs ys : List ℕ) → AllValued T xs → AllValued T ys → AllValued T (xs ++ ys)
all_both T [] ys h g = g
all_both T (x ∷ xs) ys h g = (h.0, all_both T xs ys h.1 g)

several_valued : (k : Kind) (w : Option CombineWord) (vs : List Value) → is_several k w vs ≡ true → is_valued k ≡ true
several_valued k None (v ∷ u ∷ vs) e = e
several_valued k None (v ∷ []) e = cc
several_valued k None [] e = cc
several_valued k (Some w) vs e = cc

pub doubled_valued : (T : Table) (s : ℕ) (vs : List Value) → AllValued T (doubled_by T s vs)
doubled_valued T s vs = at_test (is_several (T.kind s) (T.word s) vs) refl
  where
    at_test : (b : Bool) → is_several (T.kind s) (T.word s) vs ≡ b → AllValued T (cond b (s ∷ []) [])
    at_test true e = (several_valued (T.kind s) (T.word s) vs e, tt)
    at_test false e = tt

-- ---- one lemma a combinator

module _ (T : Table) where
  abbrev pub Valued : Option Stepped → Type 0
  Valued (Some a) = AllValued T a.doubled
  Valued None = Unit {0}

  by_wrap : (f : Selection → Selection) (o : Option Stepped) → Valued o → Valued (wrap f o)
  by_wrap f (Some a) t = t
  by_wrap f None t = tt

  by_fault : (c : Cell) (a : Stepped) → AllValued T a.doubled → AllValued T (with_fault c a).doubled
  by_fault cell.Unknown a t = t
  by_fault (cell.Known v) a t = t
  by_fault (cell.Faulted o k) a t = t

  by_cond : (b : Bool) (p q : Option Stepped) → Valued p → Valued q → Valued (cond b p q)
  by_cond true p q t u = t
  by_cond false p q t u = u

  by_faulted : (c : Cell) (o : Option Stepped) → Valued o → Valued (o >>= (λ a. Some (with_fault c a)))
  by_faulted c (Some a) t = by_fault c a t
  by_faulted c None t = tt

  by_test : (c : Cell) (p q : Option Stepped) → Valued p → Valued q → Valued (on_test c p q)
  by_test cell.Unknown p q t u = tt
  by_test (cell.Known v) p q t u = by_cond (truth v) p q t u
  by_test (cell.Faulted o k) p q t u = by_faulted (cell.Faulted o k) q u

  by_joined : (f g : Selection → Selection) (a : Stepped) (b : Bool) (q : Option Stepped) → AllValued T a.doubled
      → Valued q → Valued (cond b (q >>= (λ b. Some (joined a (wrapped g b)))) (Some (wrapped f a)))
  by_joined f g a true (Some b) t u = all_both T a.doubled b.doubled t u
  by_joined f g a true None t u = tt
  by_joined f g a false q t u = t

  by_then : (f g : Selection → Selection) (p q : Option Stepped) → Valued p → Valued q → Valued (then_start f g p q)
  by_then f g (Some a) q t u = by_joined f g a (a.code == 0) q t u
  by_then f g None q t u = tt

  by_closed : (b : Bool) (a : Stepped) → AllValued T a.doubled → AllValued T
      (cond b a (record a { next = None; touches = map stopped a.touches })).doubled
  by_closed true a t = t
  by_closed false a t = t

  by_beside : (a b : Stepped) → AllValued T a.doubled → AllValued T b.doubled → AllValued T (beside a b).doubled
  by_beside a b t u =
      by_closed (max a.code b.code == 1)
      (record (joined a b) { code = max a.code b.code; next = both_marks a.next b.next })
      (all_both T a.doubled b.doubled t u)

  by_both : (o q : Option Stepped) → Valued o → Valued q → Valued (o >>= (λ a. q >>= (λ b. Some (beside a b))))
  by_both (Some a) (Some b) t u = by_beside a b t u
  by_both (Some a) None t u = tt
  by_both None q t u = tt

  by_first : (o : Option Stepped) → Valued o → Valued (o >>= (λ a. Some (beside a (completes 0))))
  by_first (Some a) t = by_beside a (completes 0) t tt
  by_first None t = tt

  by_second : (o : Option Stepped) → Valued o → Valued (o >>= (λ b. Some (beside (completes 0) b)))
  by_second (Some b) t = by_beside (completes 0) b tt t
  by_second None t = tt

  by_trap : (o : Option Stepped) → Valued o → Valued (o >>= (λ a. Some (trap_step a)))
  by_trap (Some a) t = t
  by_trap None t = tt

  by_leave : (s : ℕ) (d : SigCell) (b : Bool) (o : Option Stepped) → Valued o → Valued
      (cond b (o >>= (λ a. Some (leave T s (wrapped (scope_mark d) a)))) None)
  by_leave s d true (Some a) t =
      all_both T (doubled_by T s (values_of T s a.bag)) a.doubled (doubled_valued T s (values_of T s a.bag)) t
  by_leave s d true None t = tt
  by_leave s d false o t = tt

  by_local : (s : ℕ) (p : Env → MustCan) (q : Env → Option Stepped) (E : Env) (c : SigCell) →
      ((F : Env) → Valued (q F)) → Valued (local_step T s p q E c)
  by_local s p q E c t =
      let d = solve T s p E c in
      by_leave s d (is_decided d.status && is_known d.value) (q (put E s d)) (t (put E s d))

  by_faults : (cs : List Cell) (a : Stepped) → AllValued T a.doubled → AllValued T (add_faults cs a).doubled
  by_faults [] a t = t
  by_faults (c ∷ cs) a t = by_fault c (add_faults cs a) (by_faults cs a t)

  by_start : (b : Bool) (n : ℕ) (args : List Value) (cs : List Cell) → Valued
      (cond b (Some (add_faults cs (start_async n args))) None)
  by_start true n args cs = by_faults cs (start_async n args) tt
  by_start false n args cs = tt

  by_answer : (n id : ℕ) (args : List Value) (last : Bool) (queue : List Item) → AllValued T
      (answer_step T n id args last queue).doubled
  by_answer n id args true queue = tt
  by_answer n id args false queue = tt

  by_resume : (n id : ℕ) (args : List Value) (queue : List Item) → AllValued T (resume_async T n id args queue).doubled
  by_resume n id args [] = tt
  by_resume n id args (a ∷ queue) = by_answer n id args a.last queue

  by_emit : (s : ℕ) (c : Cell) → Valued (emit_step s c)
  by_emit s cell.Unknown = tt
  by_emit s (cell.Known v) = tt
  by_emit s (cell.Faulted o k) = tt

  pub valued : (p : Statement) (t : Task) (E : Env) → Valued (step T p t E)
  valued Nothing t E = tt
  valued Pause Start E = tt
  valued Pause (Resume m) E = tt
  valued (Emit s x) t E = by_emit s (emitted x E)
  valued (Exit k) t E = tt
  valued (If x p q) Start E =
      by_test (eval_of x E []) (wrap First (step T p Start E)) (wrap Second (step T q Start E))
      (by_wrap First (step T p Start E) (valued p Start E)) (by_wrap Second (step T q Start E) (valued q Start E))
  valued (If x p q) (Resume (First m)) E = by_wrap First (step T p (Resume m) E) (valued p (Resume m) E)
  valued (If x p q) (Resume (Second m)) E = by_wrap Second (step T q (Resume m) E) (valued q (Resume m) E)
  valued (Suspend x p) Start E = by_wrap Inside (step T p Start E) (valued p Start E)
  valued (Suspend x p) (Resume (Inside m)) E =
      by_test (eval_of x E []) (Some (rests (Inside (held_mark m)) (held_touches p m)))
      (wrap Inside (step T p (Resume m) E)) tt (by_wrap Inside (step T p (Resume m) E) (valued p (Resume m) E))
  valued (Seq p q) Start E =
      by_then First Second (step T p Start E) (step T q Start E) (valued p Start E) (valued q Start E)
  valued (Seq p q) (Resume (First m)) E =
      by_then First Second (step T p (Resume m) E) (step T q Start E) (valued p (Resume m) E) (valued q Start E)
  valued (Seq p q) (Resume (Second m)) E = by_wrap Second (step T q (Resume m) E) (valued q (Resume m) E)
  valued (Par p q) Start E = by_both (step T p Start E) (step T q Start E) (valued p Start E) (valued q Start E)
  valued (Par p q) (Resume (First m)) E = by_first (step T p (Resume m) E) (valued p (Resume m) E)
  valued (Par p q) (Resume (Second m)) E = by_second (step T q (Resume m) E) (valued q (Resume m) E)
  valued (Par p q) (Resume (Both m n)) E =
      by_both (step T p (Resume m) E) (step T q (Resume n) E) (valued p (Resume m) E) (valued q (Resume n) E)
  valued (Loop p) Start E = by_wrap Inside (step T p Start E) (valued p Start E)
  valued (Loop p) (Resume (Inside m)) E =
      by_then Inside Inside (step T p (Resume m) E) (step T p Start E) (valued p (Resume m) E) (valued p Start E)
  valued (Trap p) Start E = by_trap (step T p Start E) (valued p Start E)
  valued (Trap p) (Resume (Inside m)) E = by_trap (step T p (Resume m) E) (valued p (Resume m) E)
  valued (Local s p) Start E =
      by_local s (must_can T p Start Executed) (step T p Start) E (unsolved false (T.first s)) (λ F. valued p Start F)
  valued (Local s p) (Resume (Scope m b v)) E =
      by_local s (must_can T p (Resume m) Executed) (step T p (Resume m)) E (unsolved b v)
      (λ F. valued p (Resume m) F)
  valued (Async n) Start E =
      let cs = map (λ x. eval_of x E []) (T.args n) in
      by_start (all_known cs) n (map argument_value (zip (T.params n) cs)) cs
  valued (Async n) (Resume (AtAsync id args queue suspended)) E = by_resume n id args queue
  valued _ _ E = tt

  -- ---- the whole program

  abbrev OfRan : Option Ran → Type 0
  OfRan (Some x) = AllValued T x.stepped.doubled
  OfRan None = Unit {0}

  ran_valued : (o : Option Stepped) (r : Ran) → Valued o → ran o ≡ Some r → AllValued T r.stepped.doubled
  ran_valued (Some a) r t e = subst OfRan e t
  ran_valued None r t e = cc

  pub program_valued : (p : Statement) (c : Control) (E : Env) (r : Ran) → program_step T p c E ≡ Some r →
      AllValued T r.stepped.doubled
  program_valued p Fresh E r e = ran_valued (step T p Start E) r (valued p Start E) e
  program_valued p (At m) E r e = ran_valued (step T p (Resume m) E) r (valued p (Resume m) E) e
  program_valued p Ended E r e = subst OfRan e tt

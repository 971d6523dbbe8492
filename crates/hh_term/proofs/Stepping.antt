-- A defined step emits what must be emitted, and completes with the code of Must.
use Rattle.std.proofs.Common.{◌≡◌, refl, sym, ap, ◌∙◌, ℕ, zero, suc, ◌+◌, Bool, true, false, cond, ◌&&◌}
use Rattle.std.proofs.Common.{eqb, max, Option, Some, None, List, [], ◌∷◌, ◌++◌, map, eqb-true}
use Rattle.std.specs.Prelude.{zip}
use Rattle.hh_base.specs.declared.value.Value.{Value}
use Rattle.hh_base.specs.declared.item.Item.{Item}
use Rattle.host_expr.specs.declared.cell.Cell.{Cell}
use Rattle.host_expr.specs.declared.cell.Cell.TheVariants as cell
use Rattle.host_expr.specs.declared.cell.SigCell.{SigCell}
use Rattle.host_expr.specs.Environment.{Env, is_known, is_decided, put, unsolved}
use Rattle.host_expr.specs.Evaluation.{eval_of, truth}
use Rattle.hh_term.specs.Statement.{Statement, Nothing, Pause, Emit, If, Suspend, Seq, Par, Loop, Trap}
use Rattle.hh_term.specs.Statement.{Exit, Local, Async}
use Rattle.hh_term.specs.Selection.{Selection, AtAsync, First, Second, Both, Inside, Scope, Task, Start}
use Rattle.hh_term.specs.Selection.{Resume}
use Rattle.hh_term.specs.MustCan.{Table, MustCan, Bag, Index, Executed, Possible, must_can, gives}
use Rattle.hh_term.specs.MustCan.{emitted, solve, hide, without, chosen, held, sequence, is_end, go_on}
use Rattle.hh_term.specs.MustCan.{parallel, trapped, greater, lower_code, answered, answer_bag}
use Rattle.hh_term.specs.MustCan.{answer_code, all_known}
use Rattle.hh_term.specs.Touches.{stopped, held_mark, held_touches}
use Rattle.hh_term.specs.Step.{Stepped, step, completes, rests, with_fault, wrapped, wrap, joined, beside}
use Rattle.hh_term.specs.Step.{closed, both_marks, trap_step, on_test, emit_step, then_start, leave}
use Rattle.hh_term.specs.Step.{scope_mark, local_step, start_async, async_step, argument_value}
use Rattle.hh_term.specs.Step.{add_faults, answer_step, resume_async, ◌>>=◌}
use Rattle.hh_term.specs.Knows.{NothingSure}
use Rattle.hh_term.specs.Lawful.{StepHasTheBagOfMust, StepHasTheCodeOfMust}
use Rattle.hh_term.proofs.MustCanLaws.{must_can_lawful}

-- a step has the code and the bag of Must
pub record Agree (s : MustCan) (a : Stepped) : Type 0 where
  pub code : s.code ≡ Some a.code
  pub must : s.must ≡ a.bag

bind_inv : {A B : Type 0} (x : Option A) (f : A → Option B) (b : B) → (x >>= f) ≡ Some b
    → (a : A) × (x ≡ Some a) × (f a ≡ Some b)
bind_inv None f b h = cc
bind_inv (Some a) f b h = (a, refl, h)

some_inv : {A : Type 0} (a b : A) → Some a ≡ Some b → a ≡ b
some_inv a b h = cc

wrap_agree : (f : Selection → Selection) (x : Option Stepped) (s : MustCan) (a : Stepped)
    → ((b : Stepped) → x ≡ Some b → Agree s b) → wrap f x ≡ Some a → Agree s a
wrap_agree f None s a h e = cc
wrap_agree f (Some b) s a h e =
    let same : wrapped f b ≡ a = some_inv (wrapped f b) a e in
    let g = h b refl in
    record { code = g.code ∙ ap (λ z. Some z.code) same; must = g.must ∙ ap (λ z. z.bag) same }

cond_agree : (b : Bool) (P Q : Option Stepped) (s u : MustCan) (a : Stepped)
    → ((a : Stepped) → P ≡ Some a → Agree s a) → ((a : Stepped) → Q ≡ Some a → Agree u a)
    → cond b P Q ≡ Some a → Agree (cond b s u) a
cond_agree true P Q s u a h g e = h a e
cond_agree false P Q s u a h g e = g a e

fault_agree : (c : Cell) (Q : Option Stepped) (u : MustCan) (a : Stepped)
    → ((a : Stepped) → Q ≡ Some a → Agree u a) → (Q >>= (λ b. Some (with_fault c b))) ≡ Some a → Agree u a
fault_agree c None u a h e = cc
fault_agree c (Some b) u a h e =
    let same : with_fault c b ≡ a = some_inv (with_fault c b) a e in
    let g = h b refl in
    record {
      code = g.code ∙ ap Some (same_code c) ∙ ap (λ z. Some z.code) same;
      must = g.must
          ∙ same_bag c ∙ ap (λ z. z.bag) same;
    }
  where
    same_code : (c : Cell) → b.code ≡ (with_fault c b).code
    same_code cell.Unknown = refl
    same_code (cell.Known v) = refl
    same_code (cell.Faulted o k) = refl

    same_bag : (c : Cell) → b.bag ≡ (with_fault c b).bag
    same_bag cell.Unknown = refl
    same_bag (cell.Known v) = refl
    same_bag (cell.Faulted o k) = refl

test_agree : (c : Cell) (P Q : Option Stepped) (p q : Index → MustCan) (a : Stepped)
    → ((a : Stepped) → P ≡ Some a → Agree (p Executed) a)
    → ((a : Stepped) → Q ≡ Some a → Agree (q Executed) a) → on_test c P Q ≡ Some a
    → Agree (chosen c Executed p q) a
test_agree cell.Unknown P Q p q a h g e = cc
test_agree (cell.Known v) P Q p q a h g e = cond_agree (truth v) P Q (p Executed) (q Executed) a h g e
test_agree (cell.Faulted o k) P Q p q a h g e = fault_agree (cell.Faulted o k) Q (q Executed) a g e

guard_agree : (c : Cell) (b : Stepped) (Q : Option Stepped) (q : Index → MustCan) (a : Stepped)
    → b.code ≡ 1 → b.bag ≡ [] → ((a : Stepped) → Q ≡ Some a → Agree (q Executed) a)
    → on_test c (Some b) Q ≡ Some a → Agree (held c Executed q) a
guard_agree cell.Unknown b Q q a x y g e = cc
guard_agree (cell.Known v) b Q q a x y g e =
    cond_agree (truth v) (Some b) Q (gives [] 1 Executed) (q Executed) a
    (λ a f. let same : b ≡ a = some_inv b a f in
    record { code = ap Some (sym x ∙ ap (λ z. z.code) same); must = sym y ∙ ap (λ z. z.bag) same }) g e
guard_agree (cell.Faulted o k) b Q q a x y g e = fault_agree (cell.Faulted o k) Q (q Executed) a g e

then_agree : (f g : Selection → Selection) (P Q : Option Stepped) (s : MustCan) (q : Index → MustCan)
    (a : Stepped) → ((a : Stepped) → P ≡ Some a → Agree s a)
    → ((a : Stepped) → Q ≡ Some a → Agree (q Executed) a) → NothingSure (q Possible)
    → then_start f g P Q ≡ Some a → Agree (sequence s q) a
then_agree f g None Q s q a h k z e = cc
then_agree f g (Some b) Q s q a h k z e = at_test (eqb b.code 0) refl e
  where
    nothing_more : (x : Bag) → x ++ [] ≡ x
    nothing_more [] = refl
    nothing_more (y ∷ x) = ap (λ w. y ∷ w) (nothing_more x)

    is_other : (m : ℕ) → eqb m 0 ≡ false → is_end (Some m) ≡ Possible
    is_other zero e = cc
    is_other (suc m) e = refl

    goes_other : (m : ℕ) (n : Option ℕ) → eqb m 0 ≡ false → go_on (Some m) n ≡ Some m
    goes_other zero n e = cc
    goes_other (suc m) n e = refl

    at_test : (t : Bool) → eqb b.code 0 ≡ t
        → cond t (Q >>= (λ c. Some (joined b (wrapped g c)))) (Some (wrapped f b)) ≡ Some a
        → Agree (sequence s q) a
    at_test true t e =
        let r = bind_inv Q (λ c. Some (joined b (wrapped g c))) a e in
        let same : joined b (wrapped g r.0) ≡ a = some_inv (joined b (wrapped g r.0)) a r.2 in
        let hs = h b refl in
        let hq = k r.0 r.1 in
        let end : s.code ≡ Some 0 = hs.code ∙ ap Some (eqb-true b.code 0 t) in
        let sure : is_end s.code ≡ Executed = ap is_end end in
        record {
          code = ap (λ m. go_on m (q (is_end s.code)).code) end ∙ ap (λ i. (q i).code) sure ∙ hq.code
              ∙ ap (λ z. Some z.code) same;
          must = ap (λ i. s.must ++ (q i).must) sure ∙ ap (λ m. m ++ (q Executed).must) hs.must
              ∙ ap (λ m. b.bag ++ m) hq.must ∙ ap (λ z. z.bag) same;
        }
    at_test false t e =
        let same : wrapped f b ≡ a = some_inv (wrapped f b) a e in
        let hs = h b refl in
        let other : is_end s.code ≡ Possible = ap is_end hs.code ∙ is_other b.code t in
        record {
          code = ap (λ m. go_on m (q (is_end s.code)).code) hs.code
              ∙ goes_other b.code (q (is_end s.code)).code t ∙ ap (λ z. Some z.code) same;
          must = ap (λ i. s.must ++ (q i).must) other ∙ ap (λ m. s.must ++ m) z.must ∙ nothing_more s.must
              ∙ hs.must ∙ ap (λ z. z.bag) same;
        }

closed_code : (a : Stepped) → (closed a).code ≡ a.code
closed_code a = at_test (eqb a.code 1)
  where
    at_test : (b : Bool)
        → (cond b a (record a { next = None; touches = map stopped a.touches })).code ≡ a.code
    at_test true = refl
    at_test false = refl

closed_bag : (a : Stepped) → (closed a).bag ≡ a.bag
closed_bag a = at_test (eqb a.code 1)
  where
    at_test : (b : Bool) → (cond b a (record a { next = None; touches = map stopped a.touches })).bag ≡ a.bag
    at_test true = refl
    at_test false = refl

both_agree : (s u : MustCan) (a b c : Stepped) → Agree s a → Agree u b → beside a b ≡ c
    → Agree (parallel s u) c
both_agree s u a b c h g e =
    let j : Stepped = record (joined a b) { code = max a.code b.code; next = both_marks a.next b.next } in
    record {
      code = ap (λ m. greater m u.code) h.code ∙ ap (greater (Some a.code)) g.code
          ∙ ap Some (sym (closed_code j)) ∙ ap (λ z. Some z.code) e;
      must = ap (λ m. m ++ u.must) h.must ∙ ap (λ m. a.bag ++ m) g.must ∙ sym (closed_bag j)
          ∙ ap (λ z. z.bag) e;
    }

trap_agree : (P : Option Stepped) (s : MustCan) (a : Stepped) → ((b : Stepped) → P ≡ Some b → Agree s b)
    → (P >>= (λ b. Some (trap_step b))) ≡ Some a → Agree (trapped s) a
trap_agree P s a h e =
    let r = bind_inv P (λ b. Some (trap_step b)) a e in
    let g = h r.0 r.1 in
    let same : trap_step r.0 ≡ a = some_inv (trap_step r.0) a r.2 in
    record { code = ap lower_code g.code ∙ ap (λ z. Some z.code) same; must = g.must ∙ ap (λ z. z.bag) same }

one_agree : (b : Bag) (k : ℕ) (x a : Stepped) → x.code ≡ k → x.bag ≡ b → Some x ≡ Some a
    → Agree (gives b k Executed) a
one_agree b k x a ec eb e = let same : x ≡ a = some_inv x a e in
    record { code = ap Some (sym ec ∙ ap (λ z. z.code) same); must = sym eb ∙ ap (λ z. z.bag) same }

emit_agree : (s : ℕ) (c : Cell) (a : Stepped) → emit_step s c ≡ Some a
    → Agree (gives ((s, c) ∷ []) 0 Executed) a
emit_agree s cell.Unknown a e = cc
emit_agree s (cell.Known v) a e = one_agree ((s, cell.Known v) ∷ []) 0 _ a refl refl e
emit_agree s (cell.Faulted o k) a e = one_agree ((s, cell.Faulted o k) ∷ []) 0 _ a refl refl e

faults_code : (cs : List Cell) (a : Stepped) → (add_faults cs a).code ≡ a.code
faults_code [] a = refl
faults_code (cell.Unknown ∷ cs) a = faults_code cs a
faults_code (cell.Known v ∷ cs) a = faults_code cs a
faults_code (cell.Faulted o k ∷ cs) a = faults_code cs a

faults_bag : (cs : List Cell) (a : Stepped) → (add_faults cs a).bag ≡ a.bag
faults_bag [] a = refl
faults_bag (cell.Unknown ∷ cs) a = faults_bag cs a
faults_bag (cell.Known v ∷ cs) a = faults_bag cs a
faults_bag (cell.Faulted o k ∷ cs) a = faults_bag cs a

start_agree : (T : Table) (n : ℕ) (cs : List Cell) (a : Stepped) → async_step T n cs ≡ Some a
    → Agree (gives [] 1 Executed) a
start_agree T n cs a e = at_test (all_known cs) e
  where
    x : Stepped
    x = start_async n (map argument_value (zip (T.params n) cs))

    at_test : (b : Bool) → cond b (Some (add_faults cs x)) None ≡ Some a → Agree (gives [] 1 Executed) a
    at_test true e = one_agree [] 1 (add_faults cs x) a (faults_code cs x) (faults_bag cs x) e
    at_test false e = cc

answer_code_agree : (T : Table) (n id : ℕ) (args : List Value) (last : Bool) (queue : List Item)
    → (answer_step T n id args last queue).code ≡ answer_code last
answer_code_agree T n id args true queue = refl
answer_code_agree T n id args false queue = refl

resume_agree : (T : Table) (n id : ℕ) (args : List Value) (queue : List Item) (a : Stepped)
    → Some (resume_async T n id args queue) ≡ Some a → Agree (answered (T.target n) queue Executed) a
resume_agree T n id args [] a e = one_agree [] 1 _ a refl refl e
resume_agree T n id args (first ∷ queue) a e =
    one_agree (answer_bag (T.target n) first.value) (answer_code first.last) _ a
    (answer_code_agree T n id args first.last queue) refl e

local_agree : (T : Table) (s : ℕ) (p : Env → MustCan) (q : Env → Option Stepped) (E : Env) (c : SigCell)
    (a : Stepped) → ((F : Env) (b : Stepped) → q F ≡ Some b → Agree (p F) b)
    → local_step T s p q E c ≡ Some a → Agree (hide s (p (put E s (solve T s p E c)))) a
local_agree T s p q E c a h e =
    at_test (is_decided (solve T s p E c).status && is_known (solve T s p E c).value) e
  where
    d : SigCell
    d = solve T s p E c

    at_test : (b : Bool)
        → cond b (q (put E s d) >>= (λ a. Some (leave T s (wrapped (scope_mark d) a)))) None ≡ Some a
        → Agree (hide s (p (put E s d))) a
    at_test true e =
        let r = bind_inv (q (put E s d)) (λ a. Some (leave T s (wrapped (scope_mark d) a))) a e in
        let g = h (put E s d) r.0 r.1 in
        let same : leave T s (wrapped (scope_mark d) r.0) ≡ a =
        some_inv (leave T s (wrapped (scope_mark d) r.0)) a r.2 in
        record {
          code = g.code ∙ ap (λ z. Some z.code) same;
          must = ap (without s) g.must
              ∙ ap (λ z. z.bag) same;
        }
    at_test false e = cc

nothing_started : (T : Table) (p : Statement) (E : Env) → NothingSure (must_can T p Start Possible E)
nothing_started T p E = (must_can_lawful T p Start).nothing E

-- ---- the statements

pub step_agrees : (T : Table) (p : Statement) (t : Task) (E : Env) (a : Stepped) → step T p t E ≡ Some a
    → Agree (must_can T p t Executed E) a
step_agrees T Nothing t E a e = one_agree [] 0 _ a refl refl e
step_agrees T Pause Start E a e = one_agree [] 1 _ a refl refl e
step_agrees T Pause (Resume m) E a e = one_agree [] 0 _ a refl refl e
step_agrees T (Emit s x) t E a e = emit_agree s (emitted x E) a e
step_agrees T (Exit k) t E a e = one_agree [] (k + 2) _ a refl refl e
step_agrees T (If x p q) Start E a e =
    test_agree (eval_of x E []) (wrap First (step T p Start E)) (wrap Second (step T q Start E))
    (λ j. must_can T p Start j E) (λ j. must_can T q Start j E) a
    (λ b f. wrap_agree First (step T p Start E) (must_can T p Start Executed E) b (step_agrees T p Start E) f)
    (λ b f. wrap_agree Second (step T q Start E) (must_can T q Start Executed E) b
    (step_agrees T q Start E) f) e
step_agrees T (If x p q) (Resume (First m)) E a e =
    wrap_agree First (step T p (Resume m) E) (must_can T p (Resume m) Executed E) a
    (step_agrees T p (Resume m) E) e
step_agrees T (If x p q) (Resume (Second m)) E a e =
    wrap_agree Second (step T q (Resume m) E) (must_can T q (Resume m) Executed E) a
    (step_agrees T q (Resume m) E) e
step_agrees T (Suspend x p) Start E a e =
    wrap_agree Inside (step T p Start E) (must_can T p Start Executed E) a (step_agrees T p Start E) e
step_agrees T (Suspend x p) (Resume (Inside m)) E a e =
    guard_agree (eval_of x E []) (rests (Inside (held_mark m)) (held_touches p m))
    (wrap Inside (step T p (Resume m) E)) (λ j. must_can T p (Resume m) j E) a refl refl
    (λ b f. wrap_agree Inside (step T p (Resume m) E) (must_can T p (Resume m) Executed E) b
    (step_agrees T p (Resume m) E) f) e
step_agrees T (Seq p q) Start E a e =
    then_agree First Second (step T p Start E) (step T q Start E) (must_can T p Start Executed E)
    (λ j. must_can T q Start j E) a (step_agrees T p Start E) (step_agrees T q Start E)
    (nothing_started T q E) e
step_agrees T (Seq p q) (Resume (First m)) E a e =
    then_agree First Second (step T p (Resume m) E) (step T q Start E)
    (must_can T p (Resume m) Executed E) (λ j. must_can T q Start j E) a (step_agrees T p (Resume m) E)
    (step_agrees T q Start E) (nothing_started T q E) e
step_agrees T (Seq p q) (Resume (Second m)) E a e =
    wrap_agree Second (step T q (Resume m) E) (must_can T q (Resume m) Executed E) a
    (step_agrees T q (Resume m) E) e
step_agrees T (Par p q) Start E a e =
    let r = bind_inv (step T p Start E) (λ a. step T q Start E >>= (λ b. Some (beside a b))) a e in
    let r' = bind_inv (step T q Start E) (λ b. Some (beside r.0 b)) a r.2 in
    both_agree (must_can T p Start Executed E) (must_can T q Start Executed E) r.0 r'.0 a
    (step_agrees T p Start E r.0 r.1) (step_agrees T q Start E r'.0 r'.1)
    (some_inv (beside r.0 r'.0) a r'.2)
step_agrees T (Par p q) (Resume (First m)) E a e =
    let r = bind_inv (step T p (Resume m) E) (λ a. Some (beside a (completes 0))) a e in
    both_agree (must_can T p (Resume m) Executed E) (gives [] 0 Executed) r.0 (completes 0) a
    (step_agrees T p (Resume m) E r.0 r.1) (one_agree [] 0 (completes 0) (completes 0) refl refl refl)
    (some_inv (beside r.0 (completes 0)) a r.2)
step_agrees T (Par p q) (Resume (Second m)) E a e =
    let r = bind_inv (step T q (Resume m) E) (λ b. Some (beside (completes 0) b)) a e in
    both_agree (gives [] 0 Executed) (must_can T q (Resume m) Executed E) (completes 0) r.0 a
    (one_agree [] 0 (completes 0) (completes 0) refl refl refl) (step_agrees T q (Resume m) E r.0 r.1)
    (some_inv (beside (completes 0) r.0) a r.2)
step_agrees T (Par p q) (Resume (Both m n)) E a e =
    let r = bind_inv (step T p (Resume m) E) (λ a. step T q (Resume n) E >>= (λ b. Some (beside a b))) a e in
    let r' = bind_inv (step T q (Resume n) E) (λ b. Some (beside r.0 b)) a r.2 in
    both_agree (must_can T p (Resume m) Executed E) (must_can T q (Resume n) Executed E) r.0 r'.0 a
    (step_agrees T p (Resume m) E r.0 r.1) (step_agrees T q (Resume n) E r'.0 r'.1)
    (some_inv (beside r.0 r'.0) a r'.2)
step_agrees T (Loop p) Start E a e =
    wrap_agree Inside (step T p Start E) (must_can T p Start Executed E) a (step_agrees T p Start E) e
step_agrees T (Loop p) (Resume (Inside m)) E a e =
    then_agree Inside Inside (step T p (Resume m) E) (step T p Start E)
    (must_can T p (Resume m) Executed E) (λ j. must_can T p Start j E) a (step_agrees T p (Resume m) E)
    (step_agrees T p Start E) (nothing_started T p E) e
step_agrees T (Trap p) Start E a e =
    trap_agree (step T p Start E) (must_can T p Start Executed E) a (step_agrees T p Start E) e
step_agrees T (Trap p) (Resume (Inside m)) E a e =
    trap_agree (step T p (Resume m) E) (must_can T p (Resume m) Executed E) a
    (step_agrees T p (Resume m) E) e
step_agrees T (Local s p) Start E a e =
    local_agree T s (must_can T p Start Executed) (step T p Start) E (unsolved false (T.first s)) a
    (λ F b f. step_agrees T p Start F b f) e
step_agrees T (Local s p) (Resume (Scope m b v)) E a e =
    local_agree T s (must_can T p (Resume m) Executed) (step T p (Resume m)) E (unsolved b v) a
    (λ F b f. step_agrees T p (Resume m) F b f) e
step_agrees T (Async n) Start E a e = start_agree T n (map (λ x. eval_of x E []) (T.args n)) a e
step_agrees T (Async n) (Resume (AtAsync id args queue suspended)) E a e = resume_agree T n id args queue a e
step_agrees T _ _ E a e = cc

pub step_has_the_bag_of_must : StepHasTheBagOfMust
step_has_the_bag_of_must T p t E a e = (step_agrees T p t E a e).must

pub step_has_the_code_of_must : StepHasTheCodeOfMust
step_has_the_code_of_must T p t E a e = (step_agrees T p t E a e).code

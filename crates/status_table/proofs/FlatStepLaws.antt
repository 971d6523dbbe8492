-- The step with a flat table at a standstill is the nested step.
use Rattle.std.proofs.Common.{◌≡◌, refl, sym, ap, subst, ◌∙◌, ℕ, suc, Bool, true, false, cond, ◌&&◌, eqb}
use Rattle.std.proofs.Common.{Option, Some, None, [], eqb-true}
use Rattle.hh_base.specs.declared.value.Tri.{Tri}
use Rattle.hh_base.specs.declared.value.Tri.TheVariants.{One, Unknown, Zero}
use Rattle.hh_base.specs.declared.value.Value.{Value}
use Rattle.host_expr.specs.declared.cell.Cell.{Cell}
use Rattle.host_expr.specs.declared.cell.Cell.TheVariants as cell
use Rattle.host_expr.specs.declared.cell.SigCell.{SigCell}
use Rattle.host_expr.specs.Environment.{Env, is_decided, is_known, put, unsolved}
use Rattle.host_expr.specs.Evaluation.{eval_of, truth}
use Rattle.host_expr.specs.Knows.{CellBelow, SignalBelow, TriBelow}
use Rattle.host_expr.proofs.Information.{env_refl}
use Rattle.hh_term.specs.Statement.{Async, Emit, Exit, If, Local, Loop, Nothing, Par, Pause, Seq, Statement}
use Rattle.hh_term.specs.Statement.{Suspend, Trap}
use Rattle.hh_term.specs.Selection.{AtAsync, Both, First, Inside, Resume, Scope, Second, Selection, Start}
use Rattle.hh_term.specs.Selection.{Task}
use Rattle.hh_term.specs.MustCan.{Executed, Index, MustCan, Table, is_end, must_can, raised, round, solve}
use Rattle.hh_term.specs.Knows.{CodeBelow, MustCanBelow}
use Rattle.hh_term.specs.Step.{Stepped, beside, completes, joined, leave, local_step, on_test, rests}
use Rattle.hh_term.specs.Step.{scope_mark, step, then_start, trap_step, with_fault, wrap, wrapped, ◌>>=◌}
use Rattle.hh_term.specs.Touches.{held_mark, held_touches}
use Rattle.hh_term.proofs.Rounds.{put_up, raised_up}
use Rattle.hh_term.proofs.MustCanLaws.{must_can_lawful}
use Rattle.hh_term.proofs.Stepping.{step_agrees}
use Rattle.status_table.specs.Flat.{Cells, cell_with, flat}
use Rattle.status_table.specs.FlatStep.{flat_step, local_in}
use Rattle.status_table.specs.Standing.{ChosenAt, HeldAt, Pick, Stands}
use Rattle.status_table.proofs.Bounding.{Bounded}
use Rattle.status_table.proofs.FlatLaws.{flat_above, flat_fair}

tri_same : (x y : Tri) → TriBelow x y → TriBelow y x → x ≡ y
tri_same Unknown Unknown h g = refl
tri_same Unknown Zero h g = g
tri_same Unknown One h g = g
tri_same Zero y h g = sym h
tri_same One y h g = sym h

cell_same : (x y : Cell) → CellBelow x y → CellBelow y x → x ≡ y
cell_same cell.Unknown cell.Unknown h g = refl
cell_same cell.Unknown (cell.Known v) h g = g
cell_same cell.Unknown (cell.Faulted o k) h g = g
cell_same (cell.Known v) y h g = sym h
cell_same (cell.Faulted o k) y h g = sym h

pub sig_same : (c d : SigCell) → SignalBelow c d → SignalBelow d c → c ≡ d
sig_same c d h g =
    ap (λ x. let r : SigCell = record { status = x; value = c.value; pre = c.pre; preval = c.preval } in r)
    (tri_same c.status d.status h.status g.status)
    ∙ ap (λ x. let r : SigCell = record { status = d.status; value = x; pre = c.pre; preval = c.preval } in r)
    (cell_same c.value d.value h.value g.value)
    ∙ ap (λ x. let r : SigCell = record { status = d.status; value = d.value; pre = x; preval = c.preval } in
    r) h.pre
    ∙ ap (λ x. let r : SigCell = record { status = d.status; value = d.value; pre = d.pre; preval = x } in r)
    h.preval

follow_of : (b : Bool) (P : Type 0) → b ≡ true → Pick b P (Unit {0}) → P
follow_of true P e h = h
follow_of false P e h = cc

-- at a standstill the table's cell is at least the solved one
solve_below : (T : Table) (τ : Cells) (s : ℕ) (p : Statement) (d l : ℕ) (t : Task) (b : Bool) (v : Value)
    (E : Env) →
    let c = cell_with (τ s l) b v in
    raised T s c (flat T τ p d l t Executed (put E s c)) ≡ c → Stands T τ p d l t Executed (put E s c) →
    SignalBelow (solve T s (must_can T p t Executed) E (unsolved b v)) c
solve_below T τ s p d l t b v E e k =
    let c : SigCell = cell_with (τ s l) b v in
    let q : Env → MustCan = must_can T p t Executed in
    let body : (x : SigCell) → SignalBelow x c → MustCanBelow (q (put E s x))
    (flat T τ p d l t Executed (put E s c)) = λ x le. flat_above T τ p d l t Executed Executed (put E s x)
    (put E s c) refl (put_up E E s x c (env_refl E) le) k in
    let up : (x : SigCell) → x.pre ≡ b → x.preval ≡ v → SignalBelow x c → SignalBelow (round T s q E x) c = λ
    x pb pv le. subst (SignalBelow (round T s q E x)) e
    (raised_up T s x c (q (put E s x)) (flat T τ p d l t Executed (put E s c)) pb pv (body x le)
    ((flat_fair T τ p d l t (put E s c)).within Executed)) in
    let c0 : SigCell = unsolved b v in
    up (round T s q E c0) refl refl
    (up c0 refl refl (record { status = tt; value = tt; pre = refl; preval = refl }))

test_same : (c : Cell) (P P' Q Q' : Option Stepped) (A B A' B' : Index → Type 0) →
    (A Executed → A' Executed → P ≡ P') → (B Executed → B' Executed → Q ≡ Q') → ChosenAt c Executed A B →
    ChosenAt c Executed A' B' → on_test c P Q ≡ on_test c P' Q'
test_same cell.Unknown P P' Q Q' A B A' B' f g k k' = refl
test_same (cell.Known v) P P' Q Q' A B A' B' f g k k' = at_test (truth v) k k'
  where
    at_test : (b : Bool) → Pick b (A Executed) (B Executed) → Pick b (A' Executed) (B' Executed) → cond b P Q
        ≡ cond b P' Q'
    at_test true h h' = f h h'
    at_test false h h' = g h h'
test_same (cell.Faulted o n) P P' Q Q' A B A' B' f g k k' = ap
    (λ x. x >>= (λ a. Some (with_fault (cell.Faulted o n) a))) (g k k')

guard_same : (c : Cell) (P Q Q' : Option Stepped) (A A' : Index → Type 0) →
    (A Executed → A' Executed → Q ≡ Q') → HeldAt c Executed A → HeldAt c Executed A' → on_test c P Q ≡ on_test
    c P Q'
guard_same cell.Unknown P Q Q' A A' f k k' = refl
guard_same (cell.Known v) P Q Q' A A' f k k' = at_test (truth v) k k'
  where
    at_test : (b : Bool) → Pick b (Unit {0}) (A Executed) → Pick b (Unit {0}) (A' Executed) → cond b P Q ≡
        cond b P Q'
    at_test true h h' = refl
    at_test false h h' = ap (cond false P) (f h h')
guard_same (cell.Faulted o n) P Q Q' A A' f k k' = ap
    (λ x. x >>= (λ a. Some (with_fault (cell.Faulted o n) a))) (f k k')

then_same : (f g : Selection → Selection) (P P' Q Q' : Option Stepped) → P ≡ P' →
    ((a : Stepped) → P' ≡ Some a → a.code ≡ 0 → Q ≡ Q') → then_start f g P Q ≡ then_start f g P' Q'
then_same f g P None Q Q' e h = ap (λ x. then_start f g x Q) e
then_same f g P (Some a) Q Q' e h = ap (λ x. then_start f g x Q) e ∙ at_test (eqb a.code 0) refl
  where
    at_test : (b : Bool) → eqb a.code 0 ≡ b → cond (eqb a.code 0) (Q >>= (λ b. Some (joined a (wrapped g b))))
        (Some (wrapped f a)) ≡ cond (eqb a.code 0) (Q' >>= (λ b. Some (joined a (wrapped g b))))
        (Some (wrapped f a))
    at_test true t = ap (λ x. cond (eqb a.code 0) (x >>= (λ b. Some (joined a (wrapped g b))))
        (Some (wrapped f a))) (h a refl (eqb-true a.code 0 t))
    at_test false t = ap (λ b. cond b (Q >>= (λ b. Some (joined a (wrapped g b)))) (Some (wrapped f a))) t ∙
        sym (ap (λ b. cond b (Q' >>= (λ b. Some (joined a (wrapped g b)))) (Some (wrapped f a))) t)

bind_same : {A B : Type 0} (x y : Option A) (f g : A → Option B) → x ≡ y → ((a : A) → f a ≡ g a) → (x >>= f) ≡
    (y >>= g)
bind_same x None f g e h = ap (λ z. z >>= f) e
bind_same x (Some a) f g e h = ap (λ z. z >>= f) e ∙ h a

local_same : (T : Table) (τ : Cells) (s : ℕ) (p : Statement) (d l : ℕ) (t : Task) (b : Bool) (v : Value)
    (E : Env) →
    let c = cell_with (τ s l) b v in
    let x = solve T s (must_can T p t Executed) E (unsolved b v) in
    c ≡ x → flat_step T τ p d l t (put E s c) ≡ step T p t (put E s c) → local_in T s (flat_step T τ p d l t)
    E c ≡ local_step T s (must_can T p t Executed) (step T p t) E (unsolved b v)
local_same T τ s p d l t b v E e h =
    let c : SigCell = cell_with (τ s l) b v in
    ap (λ z. cond (is_decided c.status && is_known c.value)
    (z >>= (λ a. Some (leave T s (wrapped (scope_mark c) a)))) None) h
    ∙ ap (λ y. cond (is_decided y.status && is_known y.value)
    (step T p t (put E s y) >>= (λ a. Some (leave T s (wrapped (scope_mark y) a)))) None) e

pub flat_step_is : (T : Table) (τ : Cells) (p : Statement) (d l : ℕ) (t : Task) (E : Env) → Stands T τ p d l t
    Executed E → Bounded T τ p d l t Executed E → flat_step T τ p d l t E ≡ step T p t E
flat_step_is T τ Nothing d l t E h k = refl
flat_step_is T τ Pause d l Start E h k = refl
flat_step_is T τ Pause d l (Resume m) E h k = refl
flat_step_is T τ (Emit s e) d l t E h k = refl
flat_step_is T τ (Exit x) d l t E h k = refl
flat_step_is T τ (Async n) d l Start E h k = refl
flat_step_is T τ (Async n) d l (Resume (AtAsync id args queue suspended)) E h k = refl
flat_step_is T τ (If e p q) d l Start E h k = test_same (eval_of e E [])
    (wrap First (flat_step T τ p d l Start E)) (wrap First (step T p Start E))
    (wrap Second (flat_step T τ q d l Start E)) (wrap Second (step T q Start E))
    (λ j. Stands T τ p d l Start j E) (λ j. Stands T τ q d l Start j E) (λ j. Bounded T τ p d l Start j E)
    (λ j. Bounded T τ q d l Start j E) (λ x y. ap (wrap First) (flat_step_is T τ p d l Start E x y))
    (λ x y. ap (wrap Second) (flat_step_is T τ q d l Start E x y)) h k
flat_step_is T τ (If e p q) d l (Resume (First m)) E h k = ap (wrap First)
    (flat_step_is T τ p d l (Resume m) E h k)
flat_step_is T τ (If e p q) d l (Resume (Second m)) E h k = ap (wrap Second)
    (flat_step_is T τ q d l (Resume m) E h k)
flat_step_is T τ (Suspend e p) d l Start E h k = ap (wrap Inside) (flat_step_is T τ p d l Start E h k)
flat_step_is T τ (Suspend e p) d l (Resume (Inside m)) E h k = guard_same (eval_of e E [])
    (Some (rests (Inside (held_mark m)) (held_touches p m))) (wrap Inside (flat_step T τ p d l (Resume m) E))
    (wrap Inside (step T p (Resume m) E)) (λ j. Stands T τ p d l (Resume m) j E)
    (λ j. Bounded T τ p d l (Resume m) j E)
    (λ x y. ap (wrap Inside) (flat_step_is T τ p d l (Resume m) E x y)) h k
flat_step_is T τ (Seq p q) d l Start E h k = then_same First Second (flat_step T τ p d l Start E)
    (step T p Start E) (flat_step T τ q d l Start E) (step T q Start E)
    (flat_step_is T τ p d l Start E h.0 k.0) (λ a e z.
    let ns : (must_can T p Start Executed E).code ≡ Some 0 = (step_agrees T p Start E a e).code ∙ ap Some z in
    let le = (flat_above T τ p d l Start Executed Executed E E refl (env_refl E) h.0).code in
    let nf : (flat T τ p d l Start Executed E).code ≡ Some 0 = subst
    (λ cd. CodeBelow cd (flat T τ p d l Start Executed E).code) ns le in
    let fe : (flat T τ p d l Start Executed E).codes 0 ≡ true =
    ((flat_fair T τ p d l Start E).within Executed).code 0 nf in
    let ne : (must_can T p Start Executed E).codes 0 ≡ true =
    ((must_can_lawful T p Start).within Executed E).code 0 ns in
    let sq : Stands T τ q d l Start (is_end (flat T τ p d l Start Executed E).code) E = follow_of
    ((flat T τ p d l Start Executed E).codes 0)
    (Stands T τ q d l Start (is_end (flat T τ p d l Start Executed E).code) E) fe h.1 in
    let bq : Bounded T τ q d l Start (is_end (must_can T p Start Executed E).code) E = follow_of
    ((must_can T p Start Executed E).codes 0)
    (Bounded T τ q d l Start (is_end (must_can T p Start Executed E).code) E) ne k.1 in
    flat_step_is T τ q d l Start E (subst (λ cd. Stands T τ q d l Start (is_end cd) E) nf sq)
    (subst (λ cd. Bounded T τ q d l Start (is_end cd) E) ns bq))
flat_step_is T τ (Seq p q) d l (Resume (First m)) E h k = then_same First Second
    (flat_step T τ p d l (Resume m) E) (step T p (Resume m) E) (flat_step T τ q d l Start E)
    (step T q Start E) (flat_step_is T τ p d l (Resume m) E h.0 k.0) (λ a e z.
    let ns : (must_can T p (Resume m) Executed E).code ≡ Some 0 = (step_agrees T p (Resume m) E a e).code ∙ ap
    Some z in
    let le = (flat_above T τ p d l (Resume m) Executed Executed E E refl (env_refl E) h.0).code in
    let nf : (flat T τ p d l (Resume m) Executed E).code ≡ Some 0 = subst
    (λ cd. CodeBelow cd (flat T τ p d l (Resume m) Executed E).code) ns le in
    let fe : (flat T τ p d l (Resume m) Executed E).codes 0 ≡ true =
    ((flat_fair T τ p d l (Resume m) E).within Executed).code 0 nf in
    let ne : (must_can T p (Resume m) Executed E).codes 0 ≡ true =
    ((must_can_lawful T p (Resume m)).within Executed E).code 0 ns in
    let sq : Stands T τ q d l Start (is_end (flat T τ p d l (Resume m) Executed E).code) E = follow_of
    ((flat T τ p d l (Resume m) Executed E).codes 0)
    (Stands T τ q d l Start (is_end (flat T τ p d l (Resume m) Executed E).code) E) fe h.1 in
    let bq : Bounded T τ q d l Start (is_end (must_can T p (Resume m) Executed E).code) E = follow_of
    ((must_can T p (Resume m) Executed E).codes 0)
    (Bounded T τ q d l Start (is_end (must_can T p (Resume m) Executed E).code) E) ne k.1 in
    flat_step_is T τ q d l Start E (subst (λ cd. Stands T τ q d l Start (is_end cd) E) nf sq)
    (subst (λ cd. Bounded T τ q d l Start (is_end cd) E) ns bq))
flat_step_is T τ (Seq p q) d l (Resume (Second m)) E h k = ap (wrap Second)
    (flat_step_is T τ q d l (Resume m) E h k)
flat_step_is T τ (Par p q) d l Start E h k = bind_same (flat_step T τ p d l Start E) (step T p Start E)
    (λ a. (flat_step T τ q d l Start E) >>= (λ b. Some (beside a b)))
    (λ a. (step T q Start E) >>= (λ b. Some (beside a b))) (flat_step_is T τ p d l Start E h.0 k.0)
    (λ a. ap (λ x. x >>= (λ b. Some (beside a b))) (flat_step_is T τ q d l Start E h.1 k.1))
flat_step_is T τ (Par p q) d l (Resume (First m)) E h k = ap (λ x. x >>= (λ a. Some (beside a (completes 0))))
    (flat_step_is T τ p d l (Resume m) E h k)
flat_step_is T τ (Par p q) d l (Resume (Second m)) E h k = ap
    (λ x. x >>= (λ b. Some (beside (completes 0) b))) (flat_step_is T τ q d l (Resume m) E h k)
flat_step_is T τ (Par p q) d l (Resume (Both m n)) E h k = bind_same (flat_step T τ p d l (Resume m) E)
    (step T p (Resume m) E) (λ a. (flat_step T τ q d l (Resume n) E) >>= (λ b. Some (beside a b)))
    (λ a. (step T q (Resume n) E) >>= (λ b. Some (beside a b))) (flat_step_is T τ p d l (Resume m) E h.0 k.0)
    (λ a. ap (λ x. x >>= (λ b. Some (beside a b))) (flat_step_is T τ q d l (Resume n) E h.1 k.1))
flat_step_is T τ (Loop p) d l Start E h k = ap (wrap Inside) (flat_step_is T τ p (suc d) l Start E h k)
flat_step_is T τ (Loop p) d l (Resume (Inside m)) E h k = then_same Inside Inside
    (flat_step T τ p (suc d) l (Resume m) E) (step T p (Resume m) E) (flat_step T τ p (suc d) (suc d) Start E)
    (step T p Start E) (flat_step_is T τ p (suc d) l (Resume m) E h.0 k.0) (λ a e z.
    let ns : (must_can T p (Resume m) Executed E).code ≡ Some 0 = (step_agrees T p (Resume m) E a e).code ∙ ap
    Some z in
    let le = (flat_above T τ p (suc d) l (Resume m) Executed Executed E E refl (env_refl E) h.0).code in
    let nf : (flat T τ p (suc d) l (Resume m) Executed E).code ≡ Some 0 = subst
    (λ cd. CodeBelow cd (flat T τ p (suc d) l (Resume m) Executed E).code) ns le in
    let fe : (flat T τ p (suc d) l (Resume m) Executed E).codes 0 ≡ true =
    ((flat_fair T τ p (suc d) l (Resume m) E).within Executed).code 0 nf in
    let ne : (must_can T p (Resume m) Executed E).codes 0 ≡ true =
    ((must_can_lawful T p (Resume m)).within Executed E).code 0 ns in
    let sq : Stands T τ p (suc d) (suc d) Start (is_end (flat T τ p (suc d) l (Resume m) Executed E).code) E =
    follow_of ((flat T τ p (suc d) l (Resume m) Executed E).codes 0)
    (Stands T τ p (suc d) (suc d) Start (is_end (flat T τ p (suc d) l (Resume m) Executed E).code) E) fe
    h.1 in
    let bq : Bounded T τ p (suc d) (suc d) Start (is_end (must_can T p (Resume m) Executed E).code) E =
    follow_of ((must_can T p (Resume m) Executed E).codes 0)
    (Bounded T τ p (suc d) (suc d) Start (is_end (must_can T p (Resume m) Executed E).code) E) ne k.1 in
    flat_step_is T τ p (suc d) (suc d) Start E
    (subst (λ cd. Stands T τ p (suc d) (suc d) Start (is_end cd) E) nf sq)
    (subst (λ cd. Bounded T τ p (suc d) (suc d) Start (is_end cd) E) ns bq))
flat_step_is T τ (Trap p) d l Start E h k = ap (λ x. x >>= (λ a. Some (trap_step a)))
    (flat_step_is T τ p d l Start E h k)
flat_step_is T τ (Trap p) d l (Resume (Inside m)) E h k = ap (λ x. x >>= (λ a. Some (trap_step a)))
    (flat_step_is T τ p d l (Resume m) E h k)
flat_step_is T τ (Local s p) d l Start E h k =
    let c : SigCell = cell_with (τ s l) false (T.first s) in
    let x : SigCell = solve T s (must_can T p Start Executed) E (unsolved false (T.first s)) in
    let e : c ≡ x = sig_same c x k.0 (solve_below T τ s p d l Start false (T.first s) E h.0 h.1) in
    local_same T τ s p d l Start false (T.first s) E e
    (flat_step_is T τ p d l Start (put E s c) h.1
    (subst (λ y. Bounded T τ p d l Start Executed (put E s y)) (sym e) k.1))
flat_step_is T τ (Local s p) d l (Resume (Scope m b v)) E h k =
    let c : SigCell = cell_with (τ s l) b v in
    let x : SigCell = solve T s (must_can T p (Resume m) Executed) E (unsolved b v) in
    let e : c ≡ x = sig_same c x k.0 (solve_below T τ s p d l (Resume m) b v E h.0 h.1) in
    local_same T τ s p d l (Resume m) b v E e
    (flat_step_is T τ p d l (Resume m) (put E s c) h.1
    (subst (λ y. Bounded T τ p d l (Resume m) Executed (put E s y)) (sym e) k.1))
flat_step_is T τ _ d l _ E h k = refl

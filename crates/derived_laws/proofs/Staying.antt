-- A statement without an exit to a trap does not leave that trap.
use Rattle.std.proofs.Common.{◌≡◌, refl, sym, ◌∙◌, ℕ, zero, suc, ◌+◌, Bool, true, false, cond, max, ◌&&◌, arith}
use Rattle.std.proofs.Common.{Option, Some, None, List, [], ◌∷◌, map, inl, inr}
use Rattle.std.proofs.lemmas.Bool.{cases_lt, eqb-false, ne_eqb}
use Rattle.std.specs.Prelude.{◌==◌, zip}
use Rattle.hh_base.specs.declared.item.Item.{Item}
use Rattle.hh_base.specs.declared.value.Value.{Value}
use Rattle.host_expr.specs.declared.cell.Cell.{Cell}
use Rattle.host_expr.specs.declared.cell.Cell.TheVariants as cell
use Rattle.host_expr.specs.declared.cell.SigCell.{SigCell}
use Rattle.host_expr.specs.Environment.{Env, is_known, is_decided, unsolved, put}
use Rattle.host_expr.specs.Evaluation.{eval_of, truth}
use Rattle.hh_term.specs.Statement.{Statement, Nothing, Pause, Emit, If, Suspend, Seq, Par, Loop, Trap, Exit, Local}
use Rattle.hh_term.specs.Statement.{Async}
use Rattle.hh_term.specs.Selection.{Selection, AtAsync, First, Second, Both, Inside, Scope, Task, Start}
use Rattle.hh_term.specs.Selection.{Resume}
use Rattle.hh_term.specs.MustCan.{Table, MustCan, Executed, must_can, solve, emitted, all_known, lower}
use Rattle.hh_term.specs.Touches.{held_mark, held_touches}
use Rattle.hh_term.specs.Step.{Stepped, ◌>>=◌, completes, rests, wrapped, wrap, with_fault, joined, beside}
use Rattle.hh_term.specs.Step.{trap_step, on_test, emit_step, then_start, leave, scope_mark, local_step, add_faults}
use Rattle.hh_term.specs.Step.{argument_value, start_async, async_step, answer_step, resume_async, step}
use Rattle.derived_laws.specs.Bodies.{NeverExits}
use Rattle.derived_laws.specs.Repeats.{StaysIn}

abbrev Avoids : ℕ → Option Stepped → Type 0
Avoids j (Some a) = a.code ≡ j + 2 → ⊥
Avoids j None = Unit {0}

no_end : (j : ℕ) → 0 ≡ j + 2 → ⊥
no_end j e = omega (arith, e)

no_rest : (j : ℕ) → 1 ≡ j + 2 → ⊥
no_rest j e = omega (arith, e)

wrap_avoids : (j : ℕ) (f : Selection → Selection) (o : Option Stepped) → Avoids j o → Avoids j (wrap f o)
wrap_avoids j f None h = tt
wrap_avoids j f (Some a) h = h

if_avoids : (j : ℕ) (b : Bool) (p q : Option Stepped) → Avoids j p → Avoids j q → Avoids j (cond b p q)
if_avoids j true p q h g = h
if_avoids j false p q h g = g

fault_avoids : (j : ℕ) (c : Cell) (a : Stepped) → (a.code ≡ j + 2 → ⊥) → (with_fault c a).code ≡ j + 2 → ⊥
fault_avoids j cell.Unknown a h = h
fault_avoids j (cell.Known v) a h = h
fault_avoids j (cell.Faulted o k) a h = h

test_avoids : (j : ℕ) (c : Cell) (p q : Option Stepped) → Avoids j p → Avoids j q → Avoids j (on_test c p q)
test_avoids j cell.Unknown p q h g = tt
test_avoids j (cell.Known v) p q h g = if_avoids j (truth v) p q h g
test_avoids j (cell.Faulted o k) p None h g = tt
test_avoids j (cell.Faulted o k) p (Some a) h g = g

second_avoids : (j : ℕ) (f g : Selection → Selection) (a : Stepped) (b : Bool) (q : Option Stepped)
    → (a.code ≡ j + 2 → ⊥) → Avoids j q
    → Avoids j (cond b (q >>= (λ y. Some (joined a (wrapped g y)))) (Some (wrapped f a)))
second_avoids j f g a true None h k = tt
second_avoids j f g a true (Some y) h k = k
second_avoids j f g a false q h k = h

then_avoids : (j : ℕ) (f g : Selection → Selection) (p q : Option Stepped) → Avoids j p → Avoids j q
    → Avoids j (then_start f g p q)
then_avoids j f g None q h k = tt
then_avoids j f g (Some a) q h k = second_avoids j f g a (a.code == 0) q h k

closed_code : (b : Bool) (x y : Stepped) → x.code ≡ y.code → (cond b x y).code ≡ x.code
closed_code true x y e = refl
closed_code false x y e = sym e

max_avoids : (j m n : ℕ) → (m ≡ j + 2 → ⊥) → (n ≡ j + 2 → ⊥) → max m n ≡ j + 2 → ⊥
max_avoids j m n h g e = elim (cases_lt m n) [
  | inl lt ↦ g (omega (arith, lt, e))
  | inr ge ↦ h (omega (arith, ge, e))
]

beside_avoids : (j : ℕ) (a b : Stepped) → (a.code ≡ j + 2 → ⊥) → (b.code ≡ j + 2 → ⊥) → (beside a b).code ≡ j + 2 → ⊥
beside_avoids j a b h g e =
    max_avoids j a.code b.code h g (sym (closed_code (max a.code b.code == 1) _ _ refl) ∙ e)

both_avoid : (j : ℕ) (p q : Option Stepped) → Avoids j p → Avoids j q
    → Avoids j (p >>= (λ a. q >>= (λ b. Some (beside a b))))
both_avoid j None q h g = tt
both_avoid j (Some a) None h g = tt
both_avoid j (Some a) (Some b) h g = beside_avoids j a b h g

first_avoids : (j : ℕ) (p : Option Stepped) → Avoids j p → Avoids j (p >>= (λ a. Some (beside a (completes 0))))
first_avoids j None h = tt
first_avoids j (Some a) h = beside_avoids j a (completes 0) h (no_end j)

other_avoids : (j : ℕ) (p : Option Stepped) → Avoids j p → Avoids j (p >>= (λ b. Some (beside (completes 0) b)))
other_avoids j None h = tt
other_avoids j (Some b) h = beside_avoids j (completes 0) b (no_end j) h

lower_avoids : (j c : ℕ) → (c ≡ suc j + 2 → ⊥) → lower c ≡ j + 2 → ⊥
lower_avoids j zero h e = no_end j e
lower_avoids j (suc zero) h e = no_rest j e
lower_avoids j (suc (suc zero)) h e = no_end j e
lower_avoids j (suc (suc (suc c))) h e = h (omega (arith, e))

trap_avoids : (j : ℕ) (p : Option Stepped) → Avoids (suc j) p → Avoids j (p >>= (λ a. Some (trap_step a)))
trap_avoids j None h = tt
trap_avoids j (Some a) h = lower_avoids j a.code h

left_avoids : (j : ℕ) (T : Table) (s : ℕ) (d : SigCell) (o : Option Stepped) → Avoids j o
    → Avoids j (o >>= (λ a. Some (leave T s (wrapped (scope_mark d) a))))
left_avoids j T s d None h = tt
left_avoids j T s d (Some a) h = h

local_avoids : (j : ℕ) (T : Table) (s : ℕ) (p : Env → MustCan) (q : Env → Option Stepped) (E : Env) (c : SigCell)
    → ((F : Env) → Avoids j (q F)) → Avoids j (local_step T s p q E c)
local_avoids j T s p q E c h =
    let d = solve T s p E c in
    if_avoids j (is_decided d.status && is_known d.value)
    (q (put E s d) >>= (λ a. Some (leave T s (wrapped (scope_mark d) a)))) None
    (left_avoids j T s d (q (put E s d)) (h (put E s d))) tt

emit_avoids : (j s : ℕ) (c : Cell) → Avoids j (emit_step s c)
emit_avoids j s cell.Unknown = tt
emit_avoids j s (cell.Known v) = no_end j
emit_avoids j s (cell.Faulted p k) = no_end j

faults_avoid : (j : ℕ) (cs : List Cell) (a : Stepped) → (a.code ≡ j + 2 → ⊥) → (add_faults cs a).code ≡ j + 2 → ⊥
faults_avoid j [] a h = h
faults_avoid j (c ∷ cs) a h = fault_avoids j c (add_faults cs a) (faults_avoid j cs a h)

async_avoids : (j : ℕ) (T : Table) (n : ℕ) (cs : List Cell) → Avoids j (async_step T n cs)
async_avoids j T n cs =
    let a = start_async n (map argument_value (zip (T.params n) cs)) in
    if_avoids j (all_known cs) (Some (add_faults cs a)) None (faults_avoid j cs a (no_rest j)) tt

answer_avoids : (j : ℕ) (T : Table) (n id : ℕ) (args : List Value) (b : Bool) (rest : List Item)
    → (answer_step T n id args b rest).code ≡ j + 2 → ⊥
answer_avoids j T n id args true rest = no_end j
answer_avoids j T n id args false rest = no_rest j

resume_avoids : (j : ℕ) (T : Table) (n id : ℕ) (args : List Value) (queue : List Item)
    → (resume_async T n id args queue).code ≡ j + 2 → ⊥
resume_avoids j T n id args [] = no_rest j
resume_avoids j T n id args (a ∷ rest) = answer_avoids j T n id args a.last rest

avoids : (T : Table) (j : ℕ) (p : Statement) (t : Task) (E : Env) → NeverExits j p → Avoids j (step T p t E)
avoids T j Nothing t E h = no_end j
avoids T j Pause Start E h = no_rest j
avoids T j Pause (Resume m) E h = no_end j
avoids T j (Emit s e) t E h = emit_avoids j s (emitted e E)
avoids T j (Exit k) t E h = λ e. eqb-false k j h (omega (arith, e))
avoids T j (If e p q) Start E h =
    test_avoids j (eval_of e E []) (wrap First (step T p Start E)) (wrap Second (step T q Start E))
    (wrap_avoids j First (step T p Start E) (avoids T j p Start E h.0))
    (wrap_avoids j Second (step T q Start E) (avoids T j q Start E h.1))
avoids T j (If e p q) (Resume (First m)) E h =
    wrap_avoids j First (step T p (Resume m) E) (avoids T j p (Resume m) E h.0)
avoids T j (If e p q) (Resume (Second m)) E h =
    wrap_avoids j Second (step T q (Resume m) E) (avoids T j q (Resume m) E h.1)
avoids T j (Suspend e p) Start E h = wrap_avoids j Inside (step T p Start E) (avoids T j p Start E h)
avoids T j (Suspend e p) (Resume (Inside m)) E h =
    test_avoids j (eval_of e E []) (Some (rests (Inside (held_mark m)) (held_touches p m)))
    (wrap Inside (step T p (Resume m) E)) (no_rest j)
    (wrap_avoids j Inside (step T p (Resume m) E) (avoids T j p (Resume m) E h))
avoids T j (Seq p q) Start E h =
    then_avoids j First Second (step T p Start E) (step T q Start E) (avoids T j p Start E h.0)
    (avoids T j q Start E h.1)
avoids T j (Seq p q) (Resume (First m)) E h =
    then_avoids j First Second (step T p (Resume m) E) (step T q Start E) (avoids T j p (Resume m) E h.0)
    (avoids T j q Start E h.1)
avoids T j (Seq p q) (Resume (Second m)) E h =
    wrap_avoids j Second (step T q (Resume m) E) (avoids T j q (Resume m) E h.1)
avoids T j (Par p q) Start E h =
    both_avoid j (step T p Start E) (step T q Start E) (avoids T j p Start E h.0) (avoids T j q Start E h.1)
avoids T j (Par p q) (Resume (First m)) E h =
    first_avoids j (step T p (Resume m) E) (avoids T j p (Resume m) E h.0)
avoids T j (Par p q) (Resume (Second m)) E h =
    other_avoids j (step T q (Resume m) E) (avoids T j q (Resume m) E h.1)
avoids T j (Par p q) (Resume (Both m n)) E h =
    both_avoid j (step T p (Resume m) E) (step T q (Resume n) E) (avoids T j p (Resume m) E h.0)
    (avoids T j q (Resume n) E h.1)
avoids T j (Loop p) Start E h = wrap_avoids j Inside (step T p Start E) (avoids T j p Start E h)
avoids T j (Loop p) (Resume (Inside m)) E h =
    then_avoids j Inside Inside (step T p (Resume m) E) (step T p Start E) (avoids T j p (Resume m) E h)
    (avoids T j p Start E h)
avoids T j (Trap p) Start E h = trap_avoids j (step T p Start E) (avoids T (suc j) p Start E h)
avoids T j (Trap p) (Resume (Inside m)) E h =
    trap_avoids j (step T p (Resume m) E) (avoids T (suc j) p (Resume m) E h)
avoids T j (Local s p) Start E h =
    local_avoids j T s (must_can T p Start Executed) (step T p Start) E (unsolved false (T.first s))
    (λ F. avoids T j p Start F h)
avoids T j (Local s p) (Resume (Scope m b v)) E h =
    local_avoids j T s (must_can T p (Resume m) Executed) (step T p (Resume m)) E (unsolved b v)
    (λ F. avoids T j p (Resume m) F h)
avoids T j (Async n) Start E h = async_avoids j T n (map (λ e. eval_of e E []) (T.args n))
avoids T j (Async n) (Resume (AtAsync id args queue suspended)) E h = resume_avoids j T n id args queue
avoids T j _ t E h = tt

stays_if : (o : Option Stepped) → Avoids 0 o → StaysIn o
stays_if None h = tt
stays_if (Some a) h = ne_eqb a.code 2 (λ e. h (omega (arith, e)))

pub stays : (T : Table) (p : Statement) (t : Task) (E : Env) → NeverExits 0 p → StaysIn (step T p t E)
stays T p t E h = stays_if (step T p t E) (avoids T 0 p t E h)

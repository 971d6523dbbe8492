-- What a statement does where all is decided: emissions, code, next mark, touches, faults and doubled
-- signals. Undefined (`None`)
-- where the status or the value of a local signal that it meets is left unknown. (Berry's constructive
-- behaviour; what it says of
-- async, of local marks, touches, faults and doubled signals is this project's own.)
use Rattle.std.specs.Prelude.{ℕ, ◌+◌, Bool, true, false, cond, ◌&&◌, ◌==◌, max, Option, Some, None, List}
use Rattle.std.specs.Prelude.{[], ◌∷◌, ◌++◌, map, zip}
use Rattle.hh_base.specs.declared.value.Pos.{Pos}
use Rattle.hh_base.specs.declared.value.Kind.{Kind}
use Rattle.hh_base.specs.declared.value.Value.{Value}
use Rattle.hh_base.specs.declared.value.FaultKind.{FaultKind}
use Rattle.hh_base.specs.declared.value.FaultKind.TheVariants.{Overflow}
use Rattle.hh_base.specs.declared.item.Item.{Item}
use Rattle.host_expr.specs.declared.cell.Cell.{Cell}
use Rattle.host_expr.specs.declared.cell.Cell.TheVariants as cell
use Rattle.host_expr.specs.declared.cell.SigCell.{SigCell}
use Rattle.host_expr.specs.Environment.{Env, is_known, is_decided, is_present, unsolved, put}
use Rattle.host_expr.specs.Evaluation.{eval_of, truth}
use Rattle.host_expr.specs.Combination.{counts_as, is_several, is_overflowed}
use Rattle.hh_term.specs.Statement.{Statement, Nothing, Pause, Emit, If, Suspend, Seq, Par, Loop, Trap}
use Rattle.hh_term.specs.Statement.{Exit, Local, Async}
use Rattle.hh_term.specs.Selection.{Selection, AtPause, AtAsync, First, Second, Both, Inside, Scope, Task}
use Rattle.hh_term.specs.Selection.{Start, Resume}
use Rattle.hh_term.specs.MustCan.{Table, MustCan, Bag, Executed, must_can, solve, cells_of, without}
use Rattle.hh_term.specs.MustCan.{emitted, answer_bag, all_known, lower}
use Rattle.hh_term.specs.Touches.{Touch, stopped, held_mark, held_touches}

pub record Stepped : Type 0 where
  pub bag : Bag
  pub code : ℕ
  pub next : Option Selection
  pub touches : List Touch
  pub faults : List (Pos × FaultKind)
  pub doubled : List ℕ

infixl 10 ◌>>=◌
abbrev pub ◌>>=◌ : {A B : Type 0} → Option A → (A → Option B) → Option B
None >>= f = None
(Some a) >>= f = f a

abbrev pub completes : ℕ → Stepped
completes c = record { bag = []; code = c; next = None; touches = []; faults = []; doubled = [] }

abbrev pub rests : Selection → List Touch → Stepped
rests m ts = record { bag = []; code = 1; next = Some m; touches = ts; faults = []; doubled = [] }

-- there is a mark after it, and its instances run on, exactly where the code is 1
abbrev pub closed : Stepped → Stepped
closed a = cond (a.code == 1) a (record a { next = None; touches = map stopped a.touches })

abbrev pub mark_map : (Selection → Selection) → Option Selection → Option Selection
mark_map f (Some m) = Some (f m)
mark_map f None = None

abbrev pub wrapped : (Selection → Selection) → Stepped → Stepped
wrapped f a = record a { next = mark_map f a.next }

abbrev pub wrap : (Selection → Selection) → Option Stepped → Option Stepped
wrap f None = None
wrap f (Some a) = Some (wrapped f a)

abbrev pub with_fault : Cell → Stepped → Stepped
with_fault (cell.Faulted p k) a = record a { faults = (p, k) ∷ a.faults }
with_fault _ a = a

-- the second after the first
abbrev pub joined : Stepped → Stepped → Stepped
joined a b =
    record {
      bag = a.bag ++ b.bag;
      code = b.code;
      next = b.next;
      touches = a.touches ++ b.touches;
      faults = a.faults ++ b.faults;
      doubled = a.doubled ++ b.doubled;
    }

abbrev pub both_marks : Option Selection → Option Selection → Option Selection
both_marks (Some m) (Some n) = Some (Both m n)
both_marks (Some m) None = Some (First m)
both_marks None (Some n) = Some (Second n)
both_marks None None = None

abbrev pub beside : Stepped → Stepped → Stepped
beside a b = closed (record (joined a b) { code = max a.code b.code; next = both_marks a.next b.next })

abbrev pub trap_step : Stepped → Stepped
trap_step a = record a { code = lower a.code; next = mark_map Inside a.next }

-- a test: undefined where it is unknown
abbrev pub on_test : Cell → Option Stepped → Option Stepped → Option Stepped
on_test cell.Unknown p q = None
on_test (cell.Known v) p q = cond (truth v) p q
on_test (cell.Faulted o k) p q = q >>= (λ a. Some (with_fault (cell.Faulted o k) a))

abbrev pub emit_step : ℕ → Cell → Option Stepped
emit_step s cell.Unknown = None
emit_step s (cell.Known v) = Some (record (completes 0) { bag = (s, cell.Known v) ∷ [] })
emit_step s (cell.Faulted p k) =
    Some (record (completes 0) { bag = (s, cell.Faulted p k) ∷ []; faults = (p, k) ∷ [] })

-- where the first ends, the second is started; the wrappings are of their marks
abbrev pub then_start : (Selection → Selection) → (Selection → Selection) → Option Stepped
    → Option Stepped → Option Stepped
then_start f g p q =
    p >>= (λ a. cond (a.code == 0) (q >>= (λ b. Some (joined a (wrapped g b)))) (Some (wrapped f a)))

-- what is said of a signal where its scope is left
abbrev pub doubled_by : Table → ℕ → List Value → List ℕ
doubled_by T s vs = cond (is_several (T.kind s) (T.word s) vs) (s ∷ []) []

abbrev pub overflow_by : Table → ℕ → List Value → List (Pos × FaultKind)
overflow_by T s vs = cond (is_overflowed (T.word s) vs) ((T.position s, Overflow) ∷ []) []

abbrev pub values_of : Table → ℕ → Bag → List Value
values_of T s bag = map (counts_as (T.kind s)) (cells_of s bag)

abbrev pub leave : Table → ℕ → Stepped → Stepped
leave T s a =
    record a {
      bag = without s a.bag;
      faults = overflow_by T s (values_of T s a.bag) ++ a.faults;
      doubled = doubled_by T s (values_of T s a.bag) ++ a.doubled;
    }

abbrev pub value_in : Value → Cell → Value
value_in v (cell.Known w) = w
value_in v _ = v

abbrev pub scope_mark : SigCell → Selection → Selection
scope_mark c m = Scope m (is_present c.status) (value_in c.preval c.value)

-- undefined where the signal is undecided
abbrev pub local_step : Table → ℕ → (Env → MustCan) → (Env → Option Stepped) → Env → SigCell → Option Stepped
local_step T s p q E c =
    let d = solve T s p E c in
    cond (is_decided d.status && is_known d.value)
    (q (put E s d) >>= (λ a. Some (leave T s (wrapped (scope_mark d) a)))) None

abbrev pub add_faults : List Cell → Stepped → Stepped
add_faults [] a = a
add_faults (c ∷ cs) a = with_fault c (add_faults cs a)

-- a faulted argument counts as its kind's default
abbrev pub argument_value : Kind × Cell → Value
argument_value p = counts_as p.0 p.1

abbrev pub start_async : ℕ → List Value → Stepped
start_async n args =
    rests (AtAsync 0 args [] false)
    (record {
      site = n;
      id = 0;
      started = Some args;
      used = false;
      ended = false;
      held = false;
      resumed = false;
      runs_after = true;
    } ∷ [])

abbrev pub async_step : Table → ℕ → List Cell → Option Stepped
async_step T n cs =
    cond (all_known cs)
    (Some (add_faults cs (start_async n (map argument_value (zip (T.params n) cs))))) None

-- where the first answer is the last the instance ends, else it runs on without that answer and without
-- the flag
abbrev pub answer_step : Table → ℕ → ℕ → List Value → Bool → List Item → Stepped
answer_step T n id args true rest =
    record (completes 0) {
      touches = record {
        site = n;
        id = id;
        started = None;
        used = false;
        ended = true;
        held = false;
        resumed = true;
        runs_after = false;
      } ∷ [];
    }
answer_step T n id args false rest =
    rests (AtAsync id args rest false)
    (record {
      site = n;
      id = id;
      started = None;
      used = true;
      ended = false;
      held = false;
      resumed = true;
      runs_after = true;
    } ∷ [])

abbrev pub resume_async : Table → ℕ → ℕ → List Value → List Item → Stepped
resume_async T n id args [] =
    rests (AtAsync id args [] false)
    (record {
      site = n;
      id = id;
      started = None;
      used = false;
      ended = false;
      held = false;
      resumed = true;
      runs_after = true;
    } ∷ [])
resume_async T n id args (a ∷ rest) =
    record (answer_step T n id args a.last rest) { bag = answer_bag (T.target n) a.value }

abbrev pub step : Table → Statement → Task → Env → Option Stepped
step T Nothing t E = Some (completes 0)
step T Pause Start E = Some (rests AtPause [])
step T Pause (Resume m) E = Some (completes 0)
step T (Emit s e) t E = emit_step s (emitted e E)
step T (Exit k) t E = Some (completes (k + 2))
step T (If e p q) Start E =
    on_test (eval_of e E []) (wrap First (step T p Start E)) (wrap Second (step T q Start E))
step T (If e p q) (Resume (First m)) E = wrap First (step T p (Resume m) E)
step T (If e p q) (Resume (Second m)) E = wrap Second (step T q (Resume m) E)
step T (Suspend e p) Start E = wrap Inside (step T p Start E)
step T (Suspend e p) (Resume (Inside m)) E =
    on_test (eval_of e E []) (Some (rests (Inside (held_mark m)) (held_touches p m)))
    (wrap Inside (step T p (Resume m) E))
step T (Seq p q) Start E = then_start First Second (step T p Start E) (step T q Start E)
step T (Seq p q) (Resume (First m)) E = then_start First Second (step T p (Resume m) E) (step T q Start E)
step T (Seq p q) (Resume (Second m)) E = wrap Second (step T q (Resume m) E)
step T (Par p q) Start E = step T p Start E >>= (λ a. step T q Start E >>= (λ b. Some (beside a b)))
step T (Par p q) (Resume (First m)) E = step T p (Resume m) E >>= (λ a. Some (beside a (completes 0)))
step T (Par p q) (Resume (Second m)) E = step T q (Resume m) E >>= (λ b. Some (beside (completes 0) b))
step T (Par p q) (Resume (Both m n)) E =
    step T p (Resume m) E >>= (λ a. step T q (Resume n) E >>= (λ b. Some (beside a b)))
step T (Loop p) Start E = wrap Inside (step T p Start E)
step T (Loop p) (Resume (Inside m)) E = then_start Inside Inside (step T p (Resume m) E) (step T p Start E)
step T (Trap p) Start E = step T p Start E >>= (λ a. Some (trap_step a))
step T (Trap p) (Resume (Inside m)) E = step T p (Resume m) E >>= (λ a. Some (trap_step a))
step T (Local s p) Start E =
    local_step T s (must_can T p Start Executed) (step T p Start) E (unsolved false (T.first s))
step T (Local s p) (Resume (Scope m b v)) E =
    local_step T s (must_can T p (Resume m) Executed) (step T p (Resume m)) E (unsolved b v)
step T (Async n) Start E = async_step T n (map (λ e. eval_of e E []) (T.args n))
step T (Async n) (Resume (AtAsync id args queue suspended)) E = Some (resume_async T n id args queue)
step T _ _ E = None

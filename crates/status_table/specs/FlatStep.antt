-- The step with one flat table of statuses and values. (This project's own.)
use Rattle.std.specs.Prelude.{ℕ, suc, ◌+◌, false, cond, ◌&&◌, Option, Some, None, [], map}
use Rattle.host_expr.specs.declared.cell.SigCell.{SigCell}
use Rattle.host_expr.specs.Environment.{Env, is_decided, is_known, put}
use Rattle.host_expr.specs.Evaluation.{eval_of}
use Rattle.hh_term.specs.Statement.{Async, Emit, Exit, If, Local, Loop, Nothing, Par, Pause, Seq, Statement}
use Rattle.hh_term.specs.Statement.{Suspend, Trap}
use Rattle.hh_term.specs.Selection.{AtAsync, AtPause, Both, First, Inside, Resume, Scope, Second, Start, Task}
use Rattle.hh_term.specs.MustCan.{Table, emitted}
use Rattle.hh_term.specs.Step.{Stepped, async_step, beside, completes, emit_step, leave, on_test, rests}
use Rattle.hh_term.specs.Step.{resume_async, scope_mark, then_start, trap_step, wrap, wrapped, ◌>>=◌}
use Rattle.hh_term.specs.Touches.{held_mark, held_touches}
use Rattle.status_table.specs.Flat.{Cells, cell_with}

abbrev pub local_in : Table → ℕ → (Env → Option Stepped) → Env → SigCell → Option Stepped
local_in T s q E d = cond (is_decided d.status && is_known d.value)
    (q (put E s d) >>= (λ a. Some (leave T s (wrapped (scope_mark d) a)))) None

-- the same step, with the cells of a flat table
abbrev pub flat_step : Table → Cells → Statement → ℕ → ℕ → Task → Env → Option Stepped
flat_step T τ Nothing d l t E = Some (completes 0)
flat_step T τ Pause d l Start E = Some (rests AtPause [])
flat_step T τ Pause d l (Resume m) E = Some (completes 0)
flat_step T τ (Emit s e) d l t E = emit_step s (emitted e E)
flat_step T τ (Exit k) d l t E = Some (completes (k + 2))
flat_step T τ (If e p q) d l Start E = on_test (eval_of e E []) (wrap First (flat_step T τ p d l Start E))
    (wrap Second (flat_step T τ q d l Start E))
flat_step T τ (If e p q) d l (Resume (First m)) E = wrap First (flat_step T τ p d l (Resume m) E)
flat_step T τ (If e p q) d l (Resume (Second m)) E = wrap Second (flat_step T τ q d l (Resume m) E)
flat_step T τ (Suspend e p) d l Start E = wrap Inside (flat_step T τ p d l Start E)
flat_step T τ (Suspend e p) d l (Resume (Inside m)) E = on_test (eval_of e E [])
    (Some (rests (Inside (held_mark m)) (held_touches p m))) (wrap Inside (flat_step T τ p d l (Resume m) E))
flat_step T τ (Seq p q) d l Start E = then_start First Second (flat_step T τ p d l Start E)
    (flat_step T τ q d l Start E)
flat_step T τ (Seq p q) d l (Resume (First m)) E = then_start First Second (flat_step T τ p d l (Resume m) E)
    (flat_step T τ q d l Start E)
flat_step T τ (Seq p q) d l (Resume (Second m)) E = wrap Second (flat_step T τ q d l (Resume m) E)
flat_step T τ (Par p q) d l Start E = flat_step T τ p d l Start E >>=
    (λ a. flat_step T τ q d l Start E >>= (λ b. Some (beside a b)))
flat_step T τ (Par p q) d l (Resume (First m)) E = flat_step T τ p d l (Resume m) E >>=
    (λ a. Some (beside a (completes 0)))
flat_step T τ (Par p q) d l (Resume (Second m)) E = flat_step T τ q d l (Resume m) E >>=
    (λ b. Some (beside (completes 0) b))
flat_step T τ (Par p q) d l (Resume (Both m n)) E = flat_step T τ p d l (Resume m) E >>=
    (λ a. flat_step T τ q d l (Resume n) E >>= (λ b. Some (beside a b)))
flat_step T τ (Loop p) d l Start E = wrap Inside (flat_step T τ p (suc d) l Start E)
flat_step T τ (Loop p) d l (Resume (Inside m)) E = then_start Inside Inside
    (flat_step T τ p (suc d) l (Resume m) E) (flat_step T τ p (suc d) (suc d) Start E)
flat_step T τ (Trap p) d l Start E = flat_step T τ p d l Start E >>= (λ a. Some (trap_step a))
flat_step T τ (Trap p) d l (Resume (Inside m)) E = flat_step T τ p d l (Resume m) E >>=
    (λ a. Some (trap_step a))
flat_step T τ (Local s p) d l Start E = local_in T s (flat_step T τ p d l Start) E
    (cell_with (τ s l) false (T.first s))
flat_step T τ (Local s p) d l (Resume (Scope m b v)) E = local_in T s (flat_step T τ p d l (Resume m)) E
    (cell_with (τ s l) b v)
flat_step T τ (Async n) d l Start E = async_step T n (map (λ e. eval_of e E []) (T.args n))
flat_step T τ (Async n) d l (Resume (AtAsync id args queue suspended)) E = Some
    (resume_async T n id args queue)
flat_step T τ _ d l _ E = None

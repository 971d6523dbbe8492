-- Must and Can with one flat table of statuses and values, with a place for each signal and the loop level of
-- its incarnation. (After Berry, The Constructive Semantics of Pure Esterel; the table is this project's
-- own.)
use Rattle.std.specs.Prelude.{ℕ, suc, ◌+◌, Bool, false, [], ◌∷◌}
use Rattle.hh_base.specs.declared.value.Tri.{Tri}
use Rattle.hh_base.specs.declared.value.Value.{Value}
use Rattle.host_expr.specs.declared.cell.Cell.{Cell}
use Rattle.host_expr.specs.declared.cell.SigCell.{SigCell}
use Rattle.host_expr.specs.Environment.{Env, put}
use Rattle.host_expr.specs.Evaluation.{eval_of}
use Rattle.hh_term.specs.Statement.{Async, Emit, Exit, If, Local, Loop, Nothing, Par, Pause, Seq, Statement}
use Rattle.hh_term.specs.Statement.{Suspend, Trap}
use Rattle.hh_term.specs.Selection.{AtAsync, Both, First, Inside, Resume, Scope, Second, Start, Task}
use Rattle.hh_term.specs.MustCan.{Index, MustCan, Table, answered, chosen, emitted, gives, held, hide}
use Rattle.hh_term.specs.MustCan.{parallel, sequence, trapped}

-- for a signal and a level, its status and value
abbrev pub Cells : Type 0
Cells = ℕ → ℕ → Tri × Cell

abbrev pub cell_with : Tri × Cell → Bool → Value → SigCell
cell_with c b v = record { status = c.0; value = c.1; pre = b; preval = v }

-- d loops are around the statement; l is 0, or the number of the loop whose body began anew
abbrev pub flat : Table → Cells → Statement → ℕ → ℕ → Task → Index → Env → MustCan
flat T τ Nothing d l t i E = gives [] 0 i
flat T τ Pause d l Start i E = gives [] 1 i
flat T τ Pause d l (Resume m) i E = gives [] 0 i
flat T τ (Emit s e) d l t i E = gives ((s, emitted e E) ∷ []) 0 i
flat T τ (If e p q) d l Start i E = chosen (eval_of e E []) i (λ j. flat T τ p d l Start j E)
    (λ j. flat T τ q d l Start j E)
flat T τ (If e p q) d l (Resume (First m)) i E = flat T τ p d l (Resume m) i E
flat T τ (If e p q) d l (Resume (Second m)) i E = flat T τ q d l (Resume m) i E
flat T τ (If e p q) d l (Resume _) i E = gives [] 0 i
flat T τ (Suspend e p) d l Start i E = flat T τ p d l Start i E
flat T τ (Suspend e p) d l (Resume (Inside m)) i E = held (eval_of e E []) i
    (λ j. flat T τ p d l (Resume m) j E)
flat T τ (Suspend e p) d l (Resume _) i E = gives [] 0 i
flat T τ (Seq p q) d l Start i E = sequence (flat T τ p d l Start i E) (λ j. flat T τ q d l Start j E)
flat T τ (Seq p q) d l (Resume (First m)) i E = sequence (flat T τ p d l (Resume m) i E)
    (λ j. flat T τ q d l Start j E)
flat T τ (Seq p q) d l (Resume (Second m)) i E = flat T τ q d l (Resume m) i E
flat T τ (Seq p q) d l (Resume _) i E = gives [] 0 i
flat T τ (Par p q) d l Start i E = parallel (flat T τ p d l Start i E) (flat T τ q d l Start i E)
flat T τ (Par p q) d l (Resume (First m)) i E = parallel (flat T τ p d l (Resume m) i E) (gives [] 0 i)
flat T τ (Par p q) d l (Resume (Second m)) i E = parallel (gives [] 0 i) (flat T τ q d l (Resume m) i E)
flat T τ (Par p q) d l (Resume (Both m n)) i E = parallel (flat T τ p d l (Resume m) i E)
    (flat T τ q d l (Resume n) i E)
flat T τ (Par p q) d l (Resume _) i E = gives [] 0 i
flat T τ (Loop p) d l Start i E = flat T τ p (suc d) l Start i E
flat T τ (Loop p) d l (Resume (Inside m)) i E = sequence (flat T τ p (suc d) l (Resume m) i E)
    (λ j. flat T τ p (suc d) (suc d) Start j E)
flat T τ (Loop p) d l (Resume _) i E = gives [] 0 i
flat T τ (Trap p) d l Start i E = trapped (flat T τ p d l Start i E)
flat T τ (Trap p) d l (Resume (Inside m)) i E = trapped (flat T τ p d l (Resume m) i E)
flat T τ (Trap p) d l (Resume _) i E = gives [] 0 i
flat T τ (Exit k) d l t i E = gives [] (k + 2) i
flat T τ (Local s p) d l Start i E = hide s
    (flat T τ p d l Start i (put E s (cell_with (τ s l) false (T.first s))))
flat T τ (Local s p) d l (Resume (Scope m b v)) i E = hide s
    (flat T τ p d l (Resume m) i (put E s (cell_with (τ s l) b v)))
flat T τ (Local s p) d l (Resume _) i E = gives [] 0 i
flat T τ (Async n) d l Start i E = gives [] 1 i
flat T τ (Async n) d l (Resume (AtAsync id args queue suspended)) i E = answered (T.target n) queue i
flat T τ (Async n) d l (Resume _) i E = gives [] 0 i

-- When a flat table is within the nested definition.
use Rattle.std.proofs.Common.{ℕ, suc, false, []}
use Rattle.host_expr.specs.Environment.{Env, put, unsolved}
use Rattle.host_expr.specs.Evaluation.{eval_of}
use Rattle.host_expr.specs.Knows.{SignalBelow}
use Rattle.hh_term.specs.Statement.{If, Local, Loop, Par, Seq, Statement, Suspend, Trap}
use Rattle.hh_term.specs.Selection.{Both, First, Inside, Resume, Scope, Second, Start, Task}
use Rattle.hh_term.specs.MustCan.{Index, Table, is_end, must_can, solve}
use Rattle.status_table.specs.Flat.{Cells, cell_with}
use Rattle.status_table.specs.Standing.{ChosenAt, HeldAt, Pick}

-- each cell that the nested definition meets is known at most as well in the table
abbrev pub Bounded : Table → Cells → Statement → ℕ → ℕ → Task → Index → Env → Type 0
Bounded T τ (If e p q) d l Start i E = ChosenAt (eval_of e E []) i (λ j. Bounded T τ p d l Start j E)
    (λ j. Bounded T τ q d l Start j E)
Bounded T τ (If e p q) d l (Resume (First m)) i E = Bounded T τ p d l (Resume m) i E
Bounded T τ (If e p q) d l (Resume (Second m)) i E = Bounded T τ q d l (Resume m) i E
Bounded T τ (Suspend e p) d l Start i E = Bounded T τ p d l Start i E
Bounded T τ (Suspend e p) d l (Resume (Inside m)) i E = HeldAt (eval_of e E []) i
    (λ j. Bounded T τ p d l (Resume m) j E)
Bounded T τ (Seq p q) d l Start i E = Bounded T τ p d l Start i E × Pick ((must_can T p Start i E).codes 0)
    (Bounded T τ q d l Start (is_end (must_can T p Start i E).code) E) (Unit {0})
Bounded T τ (Seq p q) d l (Resume (First m)) i E = Bounded T τ p d l (Resume m) i E × Pick
    ((must_can T p (Resume m) i E).codes 0)
    (Bounded T τ q d l Start (is_end (must_can T p (Resume m) i E).code) E) (Unit {0})
Bounded T τ (Seq p q) d l (Resume (Second m)) i E = Bounded T τ q d l (Resume m) i E
Bounded T τ (Par p q) d l Start i E = Bounded T τ p d l Start i E × Bounded T τ q d l Start i E
Bounded T τ (Par p q) d l (Resume (First m)) i E = Bounded T τ p d l (Resume m) i E
Bounded T τ (Par p q) d l (Resume (Second m)) i E = Bounded T τ q d l (Resume m) i E
Bounded T τ (Par p q) d l (Resume (Both m n)) i E = Bounded T τ p d l (Resume m) i E × Bounded T τ q d l
    (Resume n) i E
Bounded T τ (Loop p) d l Start i E = Bounded T τ p (suc d) l Start i E
Bounded T τ (Loop p) d l (Resume (Inside m)) i E = Bounded T τ p (suc d) l (Resume m) i E × Pick
    ((must_can T p (Resume m) i E).codes 0)
    (Bounded T τ p (suc d) (suc d) Start (is_end (must_can T p (Resume m) i E).code) E) (Unit {0})
Bounded T τ (Trap p) d l Start i E = Bounded T τ p d l Start i E
Bounded T τ (Trap p) d l (Resume (Inside m)) i E = Bounded T τ p d l (Resume m) i E
Bounded T τ (Local s p) d l Start i E =
    let c = solve T s (must_can T p Start i) E (unsolved false (T.first s)) in
    SignalBelow (cell_with (τ s l) false (T.first s)) c × Bounded T τ p d l Start i (put E s c)
Bounded T τ (Local s p) d l (Resume (Scope m b v)) i E =
    let c = solve T s (must_can T p (Resume m) i) E (unsolved b v) in
    SignalBelow (cell_with (τ s l) b v) c × Bounded T τ p d l (Resume m) i (put E s c)
Bounded T τ _ d l t i E = Unit {0}

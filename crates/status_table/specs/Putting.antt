-- What a round over a flat table puts into it. (This project's own.)
use Rattle.std.specs.Prelude.{◌≡◌, ℕ, suc, [], false, ◌⊎◌}
use Rattle.hh_base.specs.declared.value.Tri.{Tri}
use Rattle.host_expr.specs.declared.cell.Cell.{Cell}
use Rattle.host_expr.specs.declared.cell.Cell.TheVariants as cell
use Rattle.host_expr.specs.Environment.{Env, put}
use Rattle.host_expr.specs.Evaluation.{eval_of, truth}
use Rattle.hh_term.specs.Statement.{If, Local, Loop, Par, Seq, Statement, Suspend, Trap}
use Rattle.hh_term.specs.Selection.{Both, First, Inside, Resume, Scope, Second, Start, Task}
use Rattle.hh_term.specs.MustCan.{Index, Possible, Table, is_end, raised}
use Rattle.status_table.specs.Flat.{Cells, cell_with, flat}
use Rattle.status_table.specs.Standing.{Pick}

abbrev pub PutsChosen : Cell → Index → (Index → Type 0) → (Index → Type 0) → Type 0
PutsChosen cell.Unknown i P Q = P Possible ⊎ Q Possible
PutsChosen (cell.Known v) i P Q = Pick (truth v) (P i) (Q i)
PutsChosen (cell.Faulted _ _) i P Q = Q i

abbrev pub PutsHeld : Cell → Index → (Index → Type 0) → Type 0
PutsHeld cell.Unknown i P = P Possible
PutsHeld (cell.Known v) i P = Pick (truth v) ⊥ (P i)
PutsHeld (cell.Faulted _ _) i P = P i

-- a pass over the table puts this at this place
abbrev pub Puts : Table → Cells → Statement → ℕ → ℕ → Task → Index → Env → ℕ → ℕ → Tri × Cell → Type 0
Puts T τ (If e p q) d l Start i E s n v = PutsChosen (eval_of e E []) i (λ j. Puts T τ p d l Start j E s n v)
    (λ j. Puts T τ q d l Start j E s n v)
Puts T τ (If e p q) d l (Resume (First m)) i E s n v = Puts T τ p d l (Resume m) i E s n v
Puts T τ (If e p q) d l (Resume (Second m)) i E s n v = Puts T τ q d l (Resume m) i E s n v
Puts T τ (Suspend e p) d l Start i E s n v = Puts T τ p d l Start i E s n v
Puts T τ (Suspend e p) d l (Resume (Inside m)) i E s n v = PutsHeld (eval_of e E []) i
    (λ j. Puts T τ p d l (Resume m) j E s n v)
Puts T τ (Seq p q) d l Start i E s n v = Puts T τ p d l Start i E s n v ⊎ Pick
    ((flat T τ p d l Start i E).codes 0)
    (Puts T τ q d l Start (is_end (flat T τ p d l Start i E).code) E s n v) ⊥
Puts T τ (Seq p q) d l (Resume (First m)) i E s n v = Puts T τ p d l (Resume m) i E s n v ⊎ Pick
    ((flat T τ p d l (Resume m) i E).codes 0)
    (Puts T τ q d l Start (is_end (flat T τ p d l (Resume m) i E).code) E s n v) ⊥
Puts T τ (Seq p q) d l (Resume (Second m)) i E s n v = Puts T τ q d l (Resume m) i E s n v
Puts T τ (Par p q) d l Start i E s n v = Puts T τ p d l Start i E s n v ⊎ Puts T τ q d l Start i E s n v
Puts T τ (Par p q) d l (Resume (First m)) i E s n v = Puts T τ p d l (Resume m) i E s n v
Puts T τ (Par p q) d l (Resume (Second m)) i E s n v = Puts T τ q d l (Resume m) i E s n v
Puts T τ (Par p q) d l (Resume (Both m m')) i E s n v = Puts T τ p d l (Resume m) i E s n v ⊎ Puts T τ q d l
    (Resume m') i E s n v
Puts T τ (Loop p) d l Start i E s n v = Puts T τ p (suc d) l Start i E s n v
Puts T τ (Loop p) d l (Resume (Inside m)) i E s n v = Puts T τ p (suc d) l (Resume m) i E s n v ⊎ Pick
    ((flat T τ p (suc d) l (Resume m) i E).codes 0)
    (Puts T τ p (suc d) (suc d) Start (is_end (flat T τ p (suc d) l (Resume m) i E).code) E s n v) ⊥
Puts T τ (Trap p) d l Start i E s n v = Puts T τ p d l Start i E s n v
Puts T τ (Trap p) d l (Resume (Inside m)) i E s n v = Puts T τ p d l (Resume m) i E s n v
Puts T τ (Local u p) d l Start i E s n v =
    let c = cell_with (τ u l) false (T.first u) in
    let r = raised T u c (flat T τ p d l Start i (put E u c)) in
    ((s ≡ u) × (n ≡ l) × (v ≡ (r.status, r.value))) ⊎ Puts T τ p d l Start i (put E u c) s n v
Puts T τ (Local u p) d l (Resume (Scope m b w)) i E s n v =
    let c = cell_with (τ u l) b w in
    let r = raised T u c (flat T τ p d l (Resume m) i (put E u c)) in
    ((s ≡ u) × (n ≡ l) × (v ≡ (r.status, r.value))) ⊎ Puts T τ p d l (Resume m) i (put E u c) s n v
Puts T τ _ d l t i E s n v = ⊥

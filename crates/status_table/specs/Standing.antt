-- When a round over a flat table would change no cell that it meets. (This project's own.)
use Rattle.std.specs.Prelude.{◌≡◌, ℕ, suc, Bool, true, false, []}
use Rattle.host_expr.specs.declared.cell.Cell.{Cell}
use Rattle.host_expr.specs.declared.cell.Cell.TheVariants as cell
use Rattle.host_expr.specs.Environment.{Env, put}
use Rattle.host_expr.specs.Evaluation.{eval_of, truth}
use Rattle.hh_term.specs.Statement.{If, Local, Loop, Par, Seq, Statement, Suspend, Trap}
use Rattle.hh_term.specs.Selection.{Both, First, Inside, Resume, Scope, Second, Start, Task}
use Rattle.hh_term.specs.MustCan.{Index, Possible, Table, is_end, raised}
use Rattle.status_table.specs.Flat.{Cells, cell_with, flat}

-- what holds of the parts that a test lets run
abbrev pub Pick : Bool → Type 0 → Type 0 → Type 0
Pick true P Q = P
Pick false P Q = Q

abbrev pub ChosenAt : Cell → Index → (Index → Type 0) → (Index → Type 0) → Type 0
ChosenAt cell.Unknown j P Q = P Possible × Q Possible
ChosenAt (cell.Known v) j P Q = Pick (truth v) (P j) (Q j)
ChosenAt (cell.Faulted _ _) j P Q = Q j

abbrev pub HeldAt : Cell → Index → (Index → Type 0) → Type 0
HeldAt cell.Unknown j P = P Possible
HeldAt (cell.Known v) j P = Pick (truth v) (Unit {0}) (P j)
HeldAt (cell.Faulted _ _) j P = P j

-- a round over the table would change no cell that a pass meets
abbrev pub Stands : Table → Cells → Statement → ℕ → ℕ → Task → Index → Env → Type 0
Stands T τ (If e p q) d l Start i E = ChosenAt (eval_of e E []) i (λ j. Stands T τ p d l Start j E)
    (λ j. Stands T τ q d l Start j E)
Stands T τ (If e p q) d l (Resume (First m)) i E = Stands T τ p d l (Resume m) i E
Stands T τ (If e p q) d l (Resume (Second m)) i E = Stands T τ q d l (Resume m) i E
Stands T τ (Suspend e p) d l Start i E = Stands T τ p d l Start i E
Stands T τ (Suspend e p) d l (Resume (Inside m)) i E = HeldAt (eval_of e E []) i
    (λ j. Stands T τ p d l (Resume m) j E)
Stands T τ (Seq p q) d l Start i E = Stands T τ p d l Start i E × Pick ((flat T τ p d l Start i E).codes 0)
    (Stands T τ q d l Start (is_end (flat T τ p d l Start i E).code) E) (Unit {0})
Stands T τ (Seq p q) d l (Resume (First m)) i E = Stands T τ p d l (Resume m) i E × Pick
    ((flat T τ p d l (Resume m) i E).codes 0)
    (Stands T τ q d l Start (is_end (flat T τ p d l (Resume m) i E).code) E) (Unit {0})
Stands T τ (Seq p q) d l (Resume (Second m)) i E = Stands T τ q d l (Resume m) i E
Stands T τ (Par p q) d l Start i E = Stands T τ p d l Start i E × Stands T τ q d l Start i E
Stands T τ (Par p q) d l (Resume (First m)) i E = Stands T τ p d l (Resume m) i E
Stands T τ (Par p q) d l (Resume (Second m)) i E = Stands T τ q d l (Resume m) i E
Stands T τ (Par p q) d l (Resume (Both m n)) i E = Stands T τ p d l (Resume m) i E × Stands T τ q d l
    (Resume n) i E
Stands T τ (Loop p) d l Start i E = Stands T τ p (suc d) l Start i E
Stands T τ (Loop p) d l (Resume (Inside m)) i E = Stands T τ p (suc d) l (Resume m) i E × Pick
    ((flat T τ p (suc d) l (Resume m) i E).codes 0)
    (Stands T τ p (suc d) (suc d) Start (is_end (flat T τ p (suc d) l (Resume m) i E).code) E) (Unit {0})
Stands T τ (Trap p) d l Start i E = Stands T τ p d l Start i E
Stands T τ (Trap p) d l (Resume (Inside m)) i E = Stands T τ p d l (Resume m) i E
Stands T τ (Local s p) d l Start i E =
    let c = cell_with (τ s l) false (T.first s) in
    (raised T s c (flat T τ p d l Start i (put E s c)) ≡ c) × Stands T τ p d l Start i (put E s c)
Stands T τ (Local s p) d l (Resume (Scope m b v)) i E =
    let c = cell_with (τ s l) b v in
    (raised T s c (flat T τ p d l (Resume m) i (put E s c)) ≡ c) × Stands T τ p d l (Resume m) i (put E s c)
Stands T τ _ d l t i E = Unit {0}

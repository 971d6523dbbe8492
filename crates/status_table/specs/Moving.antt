-- Rounds over a flat table: what they may change, and the tables that they reach from nothing known. (This
-- project's own.)
use Rattle.std.specs.Prelude.{◌≡◌, ℕ, suc, ◌≤◌, ◌⊎◌}
use Rattle.hh_base.specs.declared.value.Tri.TheVariants.{Unknown}
use Rattle.host_expr.specs.declared.cell.Cell.TheVariants as cell
use Rattle.host_expr.specs.Environment.{Env}
use Rattle.hh_term.specs.Statement.{Statement, If, Suspend, Seq, Par, Loop, Trap, Local}
use Rattle.hh_term.specs.Selection.{Task, Start, Resume}
use Rattle.hh_term.specs.MustCan.{Table, Index}
use Rattle.status_table.specs.Flat.{Cells}
use Rattle.status_table.specs.Putting.{Puts}

-- the statement declares this local
abbrev pub Has : Statement → ℕ → Type 0
Has (If e p q) s = Has p s ⊎ Has q s
Has (Suspend e p) s = Has p s
Has (Seq p q) s = Has p s ⊎ Has q s
Has (Par p q) s = Has p s ⊎ Has q s
Has (Loop p) s = Has p s
Has (Trap p) s = Has p s
Has (Local u p) s = (s ≡ u) ⊎ Has p s
Has _ s = ⊥

abbrev pub Apart : Statement → Statement → Type 0
Apart p q = (s : ℕ) → Has p s → Has q s → ⊥

-- each local is declared once
abbrev pub Unique : Statement → Type 0
Unique (If e p q) = Unique p × Unique q × Apart p q
Unique (Suspend e p) = Unique p
Unique (Seq p q) = Unique p × Unique q × Apart p q
Unique (Par p q) = Unique p × Unique q × Apart p q
Unique (Loop p) = Unique p
Unique (Trap p) = Unique p
Unique (Local u p) = (Has p u → ⊥) × Unique p
Unique _ = Unit {0}

-- the levels at which a task meets locals
abbrev pub LevelOk : ℕ → ℕ → Task → ℕ → Type 0
LevelOk d l Start n = n ≡ l
LevelOk d l (Resume m) n = (n ≡ l) ⊎ (suc d ≤ n)

-- each cell of the statement stays, or takes what the pass puts
abbrev pub Moves : Table → Cells → Cells → Statement → ℕ → ℕ → Task → Index → Env → Type 0
Moves T τ τ' p d l t i E = (s n : ℕ) → Has p s → LevelOk d l t n → (τ' s n ≡ τ s n) ⊎ Puts T τ p d l t i E s n
    (τ' s n)

-- nothing is known
abbrev pub nothing_known : Cells
nothing_known s n = (Unknown, cell.Unknown)

-- the tables that rounds reach
pub data Reached (T : Table) (p : Statement) (t : Task) (i : Index) (E : Env) : Cells → Type 0 where
  unknown_all : Reached T p t i E nothing_known
  moved : {τ τ' : Cells} → Reached T p t i E τ → Moves T τ τ' p 0 0 t i E → Reached T p t i E τ'

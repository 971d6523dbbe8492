-- Rounds raise a flat table, and what they put is above what stands there.
use Rattle.std.proofs.Common.{◌≡◌, refl, sym, subst, ◌∙◌, ℕ, suc, ◌+◌, ◌≤◌, Bool, true, false, [], ◌⊎◌}
use Rattle.std.proofs.Common.{inl, inr, ⊎_elim, arith}
use Rattle.hh_base.specs.declared.value.Tri.{Tri}
use Rattle.hh_base.specs.declared.value.Tri.TheVariants.{Unknown, Zero, One}
use Rattle.hh_base.specs.declared.value.Value.{Value}
use Rattle.host_expr.specs.declared.cell.Cell.{Cell}
use Rattle.host_expr.specs.declared.cell.Cell.TheVariants as cell
use Rattle.host_expr.specs.declared.cell.SigCell.{SigCell}
use Rattle.host_expr.specs.Environment.{Env, put}
use Rattle.host_expr.specs.Evaluation.{eval_of, truth}
use Rattle.host_expr.specs.Knows.{TriBelow, CellBelow, SignalBelow, EnvBelow}
use Rattle.host_expr.proofs.Evaluating.{eval_up}
use Rattle.hh_term.specs.Statement.{Statement, Nothing, Pause, Emit, If, Suspend, Seq, Par, Loop, Trap, Exit}
use Rattle.hh_term.specs.Statement.{Local, Async}
use Rattle.hh_term.specs.Selection.{AtAsync, First, Second, Both, Inside, Scope, Task, Start, Resume}
use Rattle.hh_term.specs.MustCan.{Table, MustCan, Index, Possible, gives, is_end, raised}
use Rattle.hh_term.specs.Knows.{IndexBelow, MustCanBelow}
use Rattle.hh_term.proofs.Rises.{code_up, is_end_up, sequence_up, parallel_up, trapped_up, chosen_up}
use Rattle.hh_term.proofs.Rises.{held_up}
use Rattle.hh_term.proofs.Rounds.{raised_up, put_up, hide_up}
use Rattle.status_table.specs.Flat.{Cells, cell_with, flat}
use Rattle.status_table.specs.Standing.{Pick, ChosenAt, HeldAt}
use Rattle.status_table.specs.Putting.{PutsChosen, PutsHeld, Puts}
use Rattle.status_table.specs.Moving.{Has, Unique, LevelOk, Moves, nothing_known}
use Rattle.status_table.proofs.FlatLaws.{flat_fair, same_emit_up, answered_same}
use Rattle.status_table.proofs.Rounds.{follow_put, follow_all, puts_key, pick_build, parts_unknown}
use Rattle.status_table.proofs.Rounds.{parts_known, parts_faulted, deeper_level, anew_level, level_apart}
use Rattle.status_table.proofs.Rounds.{chosen_all, held_all}

-- the second table knows all that the first knows
pub record TableBelow (τ τ' : Cells) : Type 0 where
  pub at : (s n : ℕ) → TriBelow (τ s n).0 (τ' s n).0 × CellBelow (τ s n).1 (τ' s n).1

cell_up : (τ τ' : Cells) (s l : ℕ) (b : Bool) (v : Value) → TableBelow τ τ' → SignalBelow
    (cell_with (τ s l) b v) (cell_with (τ' s l) b v)
cell_up τ τ' s l b v u = record { status = (u.at s l).0; value = (u.at s l).1; pre = refl; preval = refl }

-- where the table and the environment know more, more must be done and less can be done
pub flat_up : (T : Table) (τ τ' : Cells) (p : Statement) (d l : ℕ) (t : Task) (i j : Index) (E F : Env) →
    IndexBelow i j → EnvBelow E F → TableBelow τ τ' → MustCanBelow (flat T τ p d l t i E)
    (flat T τ' p d l t j F)
flat_up T τ τ' Nothing d l t i j E F h g u = code_up 0 i j h
flat_up T τ τ' Pause d l Start i j E F h g u = code_up 1 i j h
flat_up T τ τ' Pause d l (Resume m) i j E F h g u = code_up 0 i j h
flat_up T τ τ' (Emit s e) d l t i j E F h g u = same_emit_up s e i j E F h g
flat_up T τ τ' (Exit x) d l t i j E F h g u = code_up (x + 2) i j h
flat_up T τ τ' (Async n) d l Start i j E F h g u = code_up 1 i j h
flat_up T τ τ' (Async n) d l (Resume (AtAsync id args queue suspended)) i j E F h g u = answered_same
    (T.target n) queue i j h
flat_up T τ τ' (Async n) d l (Resume _) i j E F h g u = code_up 0 i j h
flat_up T τ τ' (If e p q) d l Start i j E F h g u = chosen_up (eval_of e E []) (eval_of e F []) i j
    (λ n. flat T τ p d l Start n E) (λ n. flat T τ q d l Start n E) (λ n. flat T τ' p d l Start n F)
    (λ n. flat T τ' q d l Start n F) (eval_up E F [] g e) h
    (record { up = λ x y le. flat_up T τ τ' p d l Start x y E F le g u })
    (record { up = λ x y le. flat_up T τ τ' q d l Start x y E F le g u })
flat_up T τ τ' (If e p q) d l (Resume (First m)) i j E F h g u = flat_up T τ τ' p d l (Resume m) i j E F h g u
flat_up T τ τ' (If e p q) d l (Resume (Second m)) i j E F h g u = flat_up T τ τ' q d l (Resume m) i j E F h g
    u
flat_up T τ τ' (If e p q) d l (Resume _) i j E F h g u = code_up 0 i j h
flat_up T τ τ' (Suspend e p) d l Start i j E F h g u = flat_up T τ τ' p d l Start i j E F h g u
flat_up T τ τ' (Suspend e p) d l (Resume (Inside m)) i j E F h g u = held_up (eval_of e E []) (eval_of e F [])
    i j (λ n. flat T τ p d l (Resume m) n E) (λ n. flat T τ' p d l (Resume m) n F) (eval_up E F [] g e) h
    (record { up = λ x y le. flat_up T τ τ' p d l (Resume m) x y E F le g u })
flat_up T τ τ' (Suspend e p) d l (Resume _) i j E F h g u = code_up 0 i j h
flat_up T τ τ' (Seq p q) d l Start i j E F h g u = sequence_up (flat T τ p d l Start i E)
    (flat T τ' p d l Start j F) (λ n. flat T τ q d l Start n E) (λ n. flat T τ' q d l Start n F)
    (flat_up T τ τ' p d l Start i j E F h g u) (λ x y le. flat_up T τ τ' q d l Start x y E F le g u)
flat_up T τ τ' (Seq p q) d l (Resume (First m)) i j E F h g u = sequence_up (flat T τ p d l (Resume m) i E)
    (flat T τ' p d l (Resume m) j F) (λ n. flat T τ q d l Start n E) (λ n. flat T τ' q d l Start n F)
    (flat_up T τ τ' p d l (Resume m) i j E F h g u) (λ x y le. flat_up T τ τ' q d l Start x y E F le g u)
flat_up T τ τ' (Seq p q) d l (Resume (Second m)) i j E F h g u = flat_up T τ τ' q d l (Resume m) i j E F h g u
flat_up T τ τ' (Seq p q) d l (Resume _) i j E F h g u = code_up 0 i j h
flat_up T τ τ' (Par p q) d l Start i j E F h g u = parallel_up (flat T τ p d l Start i E)
    (flat T τ q d l Start i E) (flat T τ' p d l Start j F) (flat T τ' q d l Start j F)
    (flat_up T τ τ' p d l Start i j E F h g u) (flat_up T τ τ' q d l Start i j E F h g u)
flat_up T τ τ' (Par p q) d l (Resume (First m)) i j E F h g u = parallel_up (flat T τ p d l (Resume m) i E)
    (gives [] 0 i) (flat T τ' p d l (Resume m) j F) (gives [] 0 j)
    (flat_up T τ τ' p d l (Resume m) i j E F h g u) (code_up 0 i j h)
flat_up T τ τ' (Par p q) d l (Resume (Second m)) i j E F h g u = parallel_up (gives [] 0 i)
    (flat T τ q d l (Resume m) i E) (gives [] 0 j) (flat T τ' q d l (Resume m) j F) (code_up 0 i j h)
    (flat_up T τ τ' q d l (Resume m) i j E F h g u)
flat_up T τ τ' (Par p q) d l (Resume (Both m m')) i j E F h g u = parallel_up (flat T τ p d l (Resume m) i E)
    (flat T τ q d l (Resume m') i E) (flat T τ' p d l (Resume m) j F) (flat T τ' q d l (Resume m') j F)
    (flat_up T τ τ' p d l (Resume m) i j E F h g u) (flat_up T τ τ' q d l (Resume m') i j E F h g u)
flat_up T τ τ' (Par p q) d l (Resume _) i j E F h g u = code_up 0 i j h
flat_up T τ τ' (Loop p) d l Start i j E F h g u = flat_up T τ τ' p (suc d) l Start i j E F h g u
flat_up T τ τ' (Loop p) d l (Resume (Inside m)) i j E F h g u = sequence_up
    (flat T τ p (suc d) l (Resume m) i E) (flat T τ' p (suc d) l (Resume m) j F)
    (λ n. flat T τ p (suc d) (suc d) Start n E) (λ n. flat T τ' p (suc d) (suc d) Start n F)
    (flat_up T τ τ' p (suc d) l (Resume m) i j E F h g u)
    (λ x y le. flat_up T τ τ' p (suc d) (suc d) Start x y E F le g u)
flat_up T τ τ' (Loop p) d l (Resume _) i j E F h g u = code_up 0 i j h
flat_up T τ τ' (Trap p) d l Start i j E F h g u = trapped_up (flat T τ p d l Start i E)
    (flat T τ' p d l Start j F) (flat_up T τ τ' p d l Start i j E F h g u)
flat_up T τ τ' (Trap p) d l (Resume (Inside m)) i j E F h g u = trapped_up (flat T τ p d l (Resume m) i E)
    (flat T τ' p d l (Resume m) j F) (flat_up T τ τ' p d l (Resume m) i j E F h g u)
flat_up T τ τ' (Trap p) d l (Resume _) i j E F h g u = code_up 0 i j h
flat_up T τ τ' (Local s p) d l Start i j E F h g u =
    let c0 : SigCell = cell_with (τ s l) false (T.first s) in
    let c1 : SigCell = cell_with (τ' s l) false (T.first s) in
    hide_up s (flat T τ p d l Start i (put E s c0)) (flat T τ' p d l Start j (put F s c1))
    (flat_up T τ τ' p d l Start i j (put E s c0) (put F s c1) h
    (put_up E F s c0 c1 g (cell_up τ τ' s l false (T.first s) u)) u)
flat_up T τ τ' (Local s p) d l (Resume (Scope m b v)) i j E F h g u =
    let c0 : SigCell = cell_with (τ s l) b v in
    let c1 : SigCell = cell_with (τ' s l) b v in
    hide_up s (flat T τ p d l (Resume m) i (put E s c0)) (flat T τ' p d l (Resume m) j (put F s c1))
    (flat_up T τ τ' p d l (Resume m) i j (put E s c0) (put F s c1) h
    (put_up E F s c0 c1 g (cell_up τ τ' s l b v u)) u)
flat_up T τ τ' (Local s p) d l (Resume _) i j E F h g u = code_up 0 i j h

-- each cell that a round meets is at most what the round makes of it
abbrev pub Rising : Table → Cells → Statement → ℕ → ℕ → Task → Index → Env → Type 0
Rising T τ (If e p q) d l Start i E = ChosenAt (eval_of e E []) i (λ j. Rising T τ p d l Start j E)
    (λ j. Rising T τ q d l Start j E)
Rising T τ (If e p q) d l (Resume (First m)) i E = Rising T τ p d l (Resume m) i E
Rising T τ (If e p q) d l (Resume (Second m)) i E = Rising T τ q d l (Resume m) i E
Rising T τ (Suspend e p) d l Start i E = Rising T τ p d l Start i E
Rising T τ (Suspend e p) d l (Resume (Inside m)) i E = HeldAt (eval_of e E []) i
    (λ j. Rising T τ p d l (Resume m) j E)
Rising T τ (Seq p q) d l Start i E = Rising T τ p d l Start i E × Pick ((flat T τ p d l Start i E).codes 0)
    (Rising T τ q d l Start (is_end (flat T τ p d l Start i E).code) E) (Unit {0})
Rising T τ (Seq p q) d l (Resume (First m)) i E = Rising T τ p d l (Resume m) i E × Pick
    ((flat T τ p d l (Resume m) i E).codes 0)
    (Rising T τ q d l Start (is_end (flat T τ p d l (Resume m) i E).code) E) (Unit {0})
Rising T τ (Seq p q) d l (Resume (Second m)) i E = Rising T τ q d l (Resume m) i E
Rising T τ (Par p q) d l Start i E = Rising T τ p d l Start i E × Rising T τ q d l Start i E
Rising T τ (Par p q) d l (Resume (First m)) i E = Rising T τ p d l (Resume m) i E
Rising T τ (Par p q) d l (Resume (Second m)) i E = Rising T τ q d l (Resume m) i E
Rising T τ (Par p q) d l (Resume (Both m n)) i E = Rising T τ p d l (Resume m) i E × Rising T τ q d l
    (Resume n) i E
Rising T τ (Loop p) d l Start i E = Rising T τ p (suc d) l Start i E
Rising T τ (Loop p) d l (Resume (Inside m)) i E = Rising T τ p (suc d) l (Resume m) i E × Pick
    ((flat T τ p (suc d) l (Resume m) i E).codes 0)
    (Rising T τ p (suc d) (suc d) Start (is_end (flat T τ p (suc d) l (Resume m) i E).code) E) (Unit {0})
Rising T τ (Trap p) d l Start i E = Rising T τ p d l Start i E
Rising T τ (Trap p) d l (Resume (Inside m)) i E = Rising T τ p d l (Resume m) i E
Rising T τ (Local s p) d l Start i E =
    let c = cell_with (τ s l) false (T.first s) in
    (SignalBelow c (raised T s c (flat T τ p d l Start i (put E s c)))) × Rising T τ p d l Start i (put E s c)
Rising T τ (Local s p) d l (Resume (Scope m b v)) i E =
    let c = cell_with (τ s l) b v in
    (SignalBelow c (raised T s c (flat T τ p d l (Resume m) i (put E s c)))) × Rising T τ p d l (Resume m) i
    (put E s c)
Rising T τ _ d l t i E = Unit {0}

tri_trans : (x y z : Tri) → TriBelow x y → TriBelow y z → TriBelow x z
tri_trans Unknown y z h g = tt
tri_trans Zero y z h g = let k : TriBelow Zero z = subst (λ w. TriBelow w z) h g in k
tri_trans One y z h g = let k : TriBelow One z = subst (λ w. TriBelow w z) h g in k

cell_trans : (x y z : Cell) → CellBelow x y → CellBelow y z → CellBelow x z
cell_trans cell.Unknown y z h g = tt
cell_trans (cell.Known v) y z h g = let k : CellBelow (cell.Known v) z = subst (λ w. CellBelow w z) h g in k
cell_trans (cell.Faulted o n) y z h g = let k : CellBelow (cell.Faulted o n) z = subst (λ w. CellBelow w z) h
    g in k

pub signal_trans : (x y z : SigCell) → SignalBelow x y → SignalBelow y z → SignalBelow x z
signal_trans x y z h g = record {
  status = tri_trans x.status y.status z.status h.status g.status;
  value = cell_trans x.value y.value
      z.value h.value g.value;
  pre = h.pre ∙ g.pre;
  preval = h.preval ∙ g.preval;
}

-- ---- what a round puts is above what stands there

chosen_above : (c : Cell) (i : Index) (P Q X Y : Index → Type 0) (Z : Type 0) → ((j : Index) → P j → X j → Z)
    → ((j : Index) → Q j → Y j → Z) → ChosenAt c i P Q → PutsChosen c i X Y → Z
chosen_above cell.Unknown i P Q X Y Z f g k h = ⊎_elim (λ x. f Possible k.0 x) (λ y. g Possible k.1 y) h
chosen_above (cell.Known v) i P Q X Y Z f g k h = at_test (truth v) k h
  where
    at_test : (b : Bool) → Pick b (P i) (Q i) → Pick b (X i) (Y i) → Z
    at_test true r x = f i r x
    at_test false r x = g i r x
chosen_above (cell.Faulted o n) i P Q X Y Z f g k h = g i k h

held_above : (c : Cell) (i : Index) (P X : Index → Type 0) (Z : Type 0) → ((j : Index) → P j → X j → Z) →
    HeldAt c i P → PutsHeld c i X → Z
held_above cell.Unknown i P X Z f k h = f Possible k h
held_above (cell.Known v) i P X Z f k h = at_test (truth v) k h
  where
    at_test : (b : Bool) → Pick b (Unit {0}) (P i) → Pick b ⊥ (X i) → Z
    at_test true r x = absurd x
    at_test false r x = f i r x
held_above (cell.Faulted o n) i P X Z f k h = f i k h

follow_above : (b : Bool) (P X Z : Type 0) → (P → X → Z) → Pick b P (Unit {0}) → Pick b X ⊥ → Z
follow_above true P X Z f k h = f k h
follow_above false P X Z f k h = absurd h

abbrev pub Above : Cells → ℕ → ℕ → Tri × Cell → Type 0
Above τ s n v = TriBelow (τ s n).0 v.0 × CellBelow (τ s n).1 v.1

here_above : (τ : Cells) (u l s n : ℕ) (v : Tri × Cell) (b : Bool) (w : Value) (r : SigCell) → SignalBelow
    (cell_with (τ u l) b w) r → (s ≡ u) × (n ≡ l) × (v ≡ (r.status, r.value)) → Above τ s n v
here_above τ u l s n v b w r k h =
    subst (λ x. Above τ x n v) (sym h.0)
    (subst (λ x. Above τ u x v) (sym h.1) (subst (λ x. Above τ u l x) (sym h.2) (k.status, k.value)))

pub puts_above : (T : Table) (τ : Cells) (p : Statement) (d l : ℕ) (t : Task) (i : Index) (E : Env) (s n : ℕ)
    (v : Tri × Cell) → Rising T τ p d l t i E → Puts T τ p d l t i E s n v → Above τ s n v
puts_above T τ (If e p q) d l Start i E s n v k h = chosen_above (eval_of e E []) i
    (λ j. Rising T τ p d l Start j E) (λ j. Rising T τ q d l Start j E) (λ j. Puts T τ p d l Start j E s n v)
    (λ j. Puts T τ q d l Start j E s n v) (Above τ s n v) (λ j x y. puts_above T τ p d l Start j E s n v x y)
    (λ j x y. puts_above T τ q d l Start j E s n v x y) k h
puts_above T τ (If e p q) d l (Resume (First m)) i E s n v k h = puts_above T τ p d l (Resume m) i E s n v k h
puts_above T τ (If e p q) d l (Resume (Second m)) i E s n v k h = puts_above T τ q d l (Resume m) i E s n v k
    h
puts_above T τ (Suspend e p) d l Start i E s n v k h = puts_above T τ p d l Start i E s n v k h
puts_above T τ (Suspend e p) d l (Resume (Inside m)) i E s n v k h = held_above (eval_of e E []) i
    (λ j. Rising T τ p d l (Resume m) j E) (λ j. Puts T τ p d l (Resume m) j E s n v) (Above τ s n v)
    (λ j x y. puts_above T τ p d l (Resume m) j E s n v x y) k h
puts_above T τ (Seq p q) d l Start i E s n v k h = ⊎_elim (λ x. puts_above T τ p d l Start i E s n v k.0 x)
    (λ x. follow_above ((flat T τ p d l Start i E).codes 0)
    (Rising T τ q d l Start (is_end (flat T τ p d l Start i E).code) E)
    (Puts T τ q d l Start (is_end (flat T τ p d l Start i E).code) E s n v) (Above τ s n v)
    (λ y z. puts_above T τ q d l Start (is_end (flat T τ p d l Start i E).code) E s n v y z) k.1 x) h
puts_above T τ (Seq p q) d l (Resume (First m)) i E s n v k h = ⊎_elim
    (λ x. puts_above T τ p d l (Resume m) i E s n v k.0 x)
    (λ x. follow_above ((flat T τ p d l (Resume m) i E).codes 0)
    (Rising T τ q d l Start (is_end (flat T τ p d l (Resume m) i E).code) E)
    (Puts T τ q d l Start (is_end (flat T τ p d l (Resume m) i E).code) E s n v) (Above τ s n v)
    (λ y z. puts_above T τ q d l Start (is_end (flat T τ p d l (Resume m) i E).code) E s n v y z) k.1 x) h
puts_above T τ (Seq p q) d l (Resume (Second m)) i E s n v k h = puts_above T τ q d l (Resume m) i E s n v k h
puts_above T τ (Par p q) d l Start i E s n v k h = ⊎_elim (λ x. puts_above T τ p d l Start i E s n v k.0 x)
    (λ x. puts_above T τ q d l Start i E s n v k.1 x) h
puts_above T τ (Par p q) d l (Resume (First m)) i E s n v k h = puts_above T τ p d l (Resume m) i E s n v k h
puts_above T τ (Par p q) d l (Resume (Second m)) i E s n v k h = puts_above T τ q d l (Resume m) i E s n v k h
puts_above T τ (Par p q) d l (Resume (Both m m')) i E s n v k h = ⊎_elim
    (λ x. puts_above T τ p d l (Resume m) i E s n v k.0 x)
    (λ x. puts_above T τ q d l (Resume m') i E s n v k.1 x) h
puts_above T τ (Loop p) d l Start i E s n v k h = puts_above T τ p (suc d) l Start i E s n v k h
puts_above T τ (Loop p) d l (Resume (Inside m)) i E s n v k h = ⊎_elim
    (λ x. puts_above T τ p (suc d) l (Resume m) i E s n v k.0 x)
    (λ x. follow_above ((flat T τ p (suc d) l (Resume m) i E).codes 0)
    (Rising T τ p (suc d) (suc d) Start (is_end (flat T τ p (suc d) l (Resume m) i E).code) E)
    (Puts T τ p (suc d) (suc d) Start (is_end (flat T τ p (suc d) l (Resume m) i E).code) E s n v)
    (Above τ s n v) (λ y z. puts_above T τ p (suc d) (suc d) Start
    (is_end (flat T τ p (suc d) l (Resume m) i E).code) E s n v y z) k.1 x) h
puts_above T τ (Trap p) d l Start i E s n v k h = puts_above T τ p d l Start i E s n v k h
puts_above T τ (Trap p) d l (Resume (Inside m)) i E s n v k h = puts_above T τ p d l (Resume m) i E s n v k h
puts_above T τ (Local u p) d l Start i E s n v k h =
    let c : SigCell = cell_with (τ u l) false (T.first u) in
    ⊎_elim (λ x. here_above τ u l s n v false (T.first u) (raised T u c (flat T τ p d l Start i (put E u c)))
    k.0 x) (λ x. puts_above T τ p d l Start i (put E u c) s n v k.1 x) h
puts_above T τ (Local u p) d l (Resume (Scope m b w)) i E s n v k h =
    let c : SigCell = cell_with (τ u l) b w in
    ⊎_elim (λ x. here_above τ u l s n v b w (raised T u c (flat T τ p d l (Resume m) i (put E u c))) k.0 x)
    (λ x. puts_above T τ p d l (Resume m) i (put E u c) s n v k.1 x) h
puts_above T τ _ d l t i E s n v k h = absurd h

-- ---- a round over a table that rises gives one that rises

module _ (Hp Hq : ℕ → Type 0) (Lv : ℕ → Type 0) (St : ℕ → ℕ → Type 0) (PP PQ : Index → ℕ → ℕ → Type 0)
    (keyP : (j : Index) (s n : ℕ) → PP j s n → Hp s) (keyQ : (j : Index) (s n : ℕ) → PQ j s n → Hq s)
    (apart : (s : ℕ) → Hp s → Hq s → ⊥) where
  abbrev AtP : Index → Type 0
  AtP j = (s n : ℕ) → Hp s → Lv n → St s n ⊎ PP j s n

  abbrev AtQ : Index → Type 0
  AtQ j = (s n : ℕ) → Hq s → Lv n → St s n ⊎ PQ j s n

  abbrev AtBoth : Cell → Index → Type 0
  AtBoth c i = (s n : ℕ) → Hp s ⊎ Hq s → Lv n → St s n ⊎ PutsChosen c i (λ j. PP j s n) (λ j. PQ j s n)

  test_risen : (c d : Cell) (i j : Index) (P Q P' Q' : Index → Type 0) → CellBelow c d → IndexBelow i j →
      ((i' j' : Index) → IndexBelow i' j' → P i' → AtP i' → P' j') →
      ((i' j' : Index) → IndexBelow i' j' → Q i' → AtQ i' → Q' j') → AtBoth c i → ChosenAt c i P Q → ChosenAt
      d j P' Q'
  test_risen cell.Unknown cell.Unknown i j P Q P' Q' le h f g K k =
      let m = parts_unknown Hp Hq Lv St PP PQ keyP keyQ apart i K in
      (f Possible Possible tt k.0 m.0, g Possible Possible tt k.1 m.1)
  test_risen cell.Unknown (cell.Known v) i j P Q P' Q' le h f g K k =
      let m = parts_unknown Hp Hq Lv St PP PQ keyP keyQ apart i K in
      pick_build (truth v) (P' j) (Q' j) (λ e. f Possible j tt k.0 m.0) (λ e. g Possible j tt k.1 m.1)
  test_risen cell.Unknown (cell.Faulted o n) i j P Q P' Q' le h f g K k =
      let m = parts_unknown Hp Hq Lv St PP PQ keyP keyQ apart i K in g Possible j tt k.1 m.1
  test_risen (cell.Known v) d i j P Q P' Q' le h f g K k =
      subst (λ z. ChosenAt z j P' Q') (sym le)
      (at_test (truth v) k (parts_known Hp Hq Lv St PP PQ keyP keyQ apart i v K))
    where
      at_test : (b : Bool) → Pick b (P i) (Q i) → Pick b (AtP i) (AtQ i) → Pick b (P' j) (Q' j)
      at_test true r m = f i j h r m
      at_test false r m = g i j h r m
  test_risen (cell.Faulted o n) d i j P Q P' Q' le h f g K k =
      subst (λ z. ChosenAt z j P' Q') (sym le)
      (g i j h k (parts_faulted Hp Hq Lv St PP PQ keyP keyQ apart i o n K))

guard_risen : (c d : Cell) (i j : Index) (Hp Lv : ℕ → Type 0) (St : ℕ → ℕ → Type 0)
    (PP : Index → ℕ → ℕ → Type 0) (P P' : Index → Type 0) → CellBelow c d → IndexBelow i j →
    ((i' j' : Index) → IndexBelow i' j' → P i' → ((s n : ℕ) → Hp s → Lv n → St s n ⊎ PP i' s n) → P' j') →
    ((s n : ℕ) → Hp s → Lv n → St s n ⊎ PutsHeld c i (λ j. PP j s n)) → HeldAt c i P → HeldAt d j P'
guard_risen cell.Unknown cell.Unknown i j Hp Lv St PP P P' le h f K k = f Possible Possible tt k K
guard_risen cell.Unknown (cell.Known v) i j Hp Lv St PP P P' le h f K k = pick_build (truth v) (Unit {0})
    (P' j) (λ e. tt) (λ e. f Possible j tt k K)
guard_risen cell.Unknown (cell.Faulted o n) i j Hp Lv St PP P P' le h f K k = f Possible j tt k K
guard_risen (cell.Known v) d i j Hp Lv St PP P P' le h f K k =
    subst (λ z. HeldAt z j P') (sym le) (at_test (truth v) k K)
  where
    at_test : (b : Bool) → Pick b (Unit {0}) (P i) → ((s n : ℕ) → Hp s → Lv n → St s n ⊎ Pick b ⊥ (PP i s n))
        → Pick b (Unit {0}) (P' j)
    at_test true r m = tt
    at_test false r m = f i j h r m
guard_risen (cell.Faulted o n) d i j Hp Lv St PP P P' le h f K k =
    subst (λ z. HeldAt z j P') (sym le) (f i j h k K)

follow_risen : (b b' : Bool) (P P' : Type 0) → (b' ≡ true → b ≡ true) → (P → P') → Pick b P (Unit {0}) → Pick
    b' P' (Unit {0})
follow_risen b false P P' e f h = tt
follow_risen b true P P' e f h = f (subst (λ z. Pick z P (Unit {0})) (e refl) h)

local_risen : (T : Table) (τ τ' : Cells) (u : ℕ) (p : Statement) (d l : ℕ) (t : Task) (b : Bool) (w : Value)
    (i j : Index) (E F : Env) → IndexBelow i j → EnvBelow E F → TableBelow τ τ' →
    let c = cell_with (τ u l) b w in
    let c' = cell_with (τ' u l) b w in
    let r = raised T u c (flat T τ p d l t i (put E u c)) in
    SignalBelow c r → (τ' u l ≡ τ u l) ⊎ (τ' u l ≡ (r.status, r.value)) → SignalBelow c'
    (raised T u c' (flat T τ' p d l t j (put F u c')))
local_risen T τ τ' u p d l t b w i j E F h g z k m =
    let c : SigCell = cell_with (τ u l) b w in
    let c' : SigCell = cell_with (τ' u l) b w in
    let a : MustCan = flat T τ p d l t i (put E u c) in
    let a' : MustCan = flat T τ' p d l t j (put F u c') in
    let r : SigCell = raised T u c a in
    let r' : SigCell = raised T u c' a' in
    let up : SignalBelow r r' = raised_up T u c c' a a' refl refl
    (flat_up T τ τ' p d l t i j (put E u c) (put F u c') h (put_up E F u c c' g (cell_up τ τ' u l b w z))
    z) ((flat_fair T τ' p d l t (put F u c')).within j) in
    ⊎_elim
    (λ e. subst (λ x. SignalBelow (cell_with x b w) r') (sym e) (signal_trans c r r' k up))
    (λ e. subst (λ x. SignalBelow (cell_with x b w) r') (sym e)
    (record { status = up.status; value = up.value; pre = refl; preval = refl }))
    m

pub risen : (T : Table) (τ τ' : Cells) (p : Statement) (d l : ℕ) (t : Task) (i j : Index) (E F : Env) →
    IndexBelow i j → EnvBelow E F → TableBelow τ τ' → l ≤ d → Unique p → Rising T τ p d l t i E → Moves T τ τ'
    p d l t i E → Rising T τ' p d l t j F
risen T τ τ' (If e p q) d l Start i j E F h g z ld u k K = test_risen (Has p) (Has q)
    (λ n. LevelOk d l Start n) (λ s n. τ' s n ≡ τ s n) (λ x s n. Puts T τ p d l Start x E s n (τ' s n))
    (λ x s n. Puts T τ q d l Start x E s n (τ' s n))
    (λ x s n y. (puts_key T τ p d l Start x E s n (τ' s n) y).0)
    (λ x s n y. (puts_key T τ q d l Start x E s n (τ' s n) y).0) u.2 (eval_of e E []) (eval_of e F []) i j
    (λ n. Rising T τ p d l Start n E) (λ n. Rising T τ q d l Start n E) (λ n. Rising T τ' p d l Start n F)
    (λ n. Rising T τ' q d l Start n F) (eval_up E F [] g e) h
    (λ x y le r M. risen T τ τ' p d l Start x y E F le g z ld u.0 r (M))
    (λ x y le r M. risen T τ τ' q d l Start x y E F le g z ld u.1 r (M)) K k
risen T τ τ' (If e p q) d l (Resume (First m)) i j E F h g z ld u k K = risen T τ τ' p d l (Resume m) i j E F
    h g z ld u.0 k (λ s n a lv. K s n (inl a) lv)
risen T τ τ' (If e p q) d l (Resume (Second m)) i j E F h g z ld u k K = risen T τ τ' q d l (Resume m) i j E F
    h g z ld u.1 k (λ s n a lv. K s n (inr a) lv)
risen T τ τ' (Suspend e p) d l Start i j E F h g z ld u k K = risen T τ τ' p d l Start i j E F h g z ld u k
    (K)
risen T τ τ' (Suspend e p) d l (Resume (Inside m)) i j E F h g z ld u k K = guard_risen (eval_of e E [])
    (eval_of e F []) i j (Has p) (λ n. LevelOk d l (Resume m) n) (λ s n. τ' s n ≡ τ s n)
    (λ x s n. Puts T τ p d l (Resume m) x E s n (τ' s n)) (λ n. Rising T τ p d l (Resume m) n E)
    (λ n. Rising T τ' p d l (Resume m) n F) (eval_up E F [] g e) h
    (λ x y le r M. risen T τ τ' p d l (Resume m) x y E F le g z ld u r (M)) K k
risen T τ τ' (Seq p q) d l Start i j E F h g z ld u k K = (
  risen T τ τ' p d l Start i j E F h g z ld u.0 k.0
      (λ s n a lv. ⊎_elim (λ e. inl e)
      (λ r. ⊎_elim (λ y. inr y)
      (λ y. absurd (u.2 s a
      (puts_key T τ q d l Start (is_end (flat T τ p d l Start i E).code) E s n (τ' s n)
      (follow_put ((flat T τ p d l Start i E).codes 0)
      (Puts T τ q d l Start (is_end (flat T τ p d l Start i E).code) E s n (τ' s n)) y)).0)) r)
      (K s n (inl a) lv)),
  follow_risen ((flat T τ p d l Start i E).codes 0)
      ((flat T τ' p d l Start j F).codes 0) (Rising T τ q d l Start (is_end (flat T τ p d l Start i E).code) E)
      (Rising T τ' q d l Start (is_end (flat T τ' p d l Start j F).code) F)
      ((flat_up T τ τ' p d l Start i j E F h g z).codes 0)
      (λ r. risen T τ τ' q d l Start (is_end (flat T τ p d l Start i E).code)
      (is_end (flat T τ' p d l Start j F).code) E F
      (is_end_up (flat T τ p d l Start i E).code (flat T τ' p d l Start j F).code
      (flat_up T τ τ' p d l Start i j E F h g z).code) g z ld u.1 r
      (λ s n a lv. ⊎_elim (λ e. inl e)
      (λ r. ⊎_elim (λ y. absurd (u.2 s (puts_key T τ p d l Start i E s n (τ' s n) y).0 a))
      (λ y. inr (follow_put ((flat T τ p d l Start i E).codes 0)
      (Puts T τ q d l Start (is_end (flat T τ p d l Start i E).code) E s n (τ' s n)) y)) r) (K s n (inr a) lv)))
      k.1,
)
risen T τ τ' (Seq p q) d l (Resume (First m)) i j E F h g z ld u k K = (
  risen T τ τ' p d l (Resume m) i j E F h g z ld u.0 k.0
      (λ s n a lv. ⊎_elim (λ e. inl e)
      (λ r. ⊎_elim (λ y. inr y)
      (λ y. absurd (u.2 s a
      (puts_key T τ q d l Start (is_end (flat T τ p d l (Resume m) i E).code) E s n (τ' s n)
      (follow_put ((flat T τ p d l (Resume m) i E).codes 0)
      (Puts T τ q d l Start (is_end (flat T τ p d l (Resume m) i E).code) E s n (τ' s n)) y)).0)) r)
      (K s n (inl a) lv)),
  follow_risen ((flat T τ p d l (Resume m) i E).codes 0)
      ((flat T τ' p d l (Resume m) j F).codes 0)
      (Rising T τ q d l Start (is_end (flat T τ p d l (Resume m) i E).code) E)
      (Rising T τ' q d l Start (is_end (flat T τ' p d l (Resume m) j F).code) F)
      ((flat_up T τ τ' p d l (Resume m) i j E F h g z).codes 0)
      (λ r. risen T τ τ' q d l Start (is_end (flat T τ p d l (Resume m) i E).code)
      (is_end (flat T τ' p d l (Resume m) j F).code) E F
      (is_end_up (flat T τ p d l (Resume m) i E).code (flat T τ' p d l (Resume m) j F).code
      (flat_up T τ τ' p d l (Resume m) i j E F h g z).code) g z ld u.1 r
      (λ s n a lv. ⊎_elim (λ e. inl e)
      (λ r. ⊎_elim (λ y. absurd (u.2 s (puts_key T τ p d l (Resume m) i E s n (τ' s n) y).0 a))
      (λ y. inr (follow_put ((flat T τ p d l (Resume m) i E).codes 0)
      (Puts T τ q d l Start (is_end (flat T τ p d l (Resume m) i E).code) E s n (τ' s n)) y)) r)
      (K s n (inr a) (inl lv)))) k.1,
)
risen T τ τ' (Seq p q) d l (Resume (Second m)) i j E F h g z ld u k K = risen T τ τ' q d l (Resume m) i j E F
    h g z ld u.1 k (λ s n a lv. K s n (inr a) lv)
risen T τ τ' (Par p q) d l Start i j E F h g z ld u k K = (
  risen T τ τ' p d l Start i j E F h g z ld u.0 k.0
      (λ s n a lv. ⊎_elim (λ e. inl e)
      (λ r. ⊎_elim (λ y. inr y) (λ y. absurd (u.2 s a (puts_key T τ q d l Start i E s n (τ' s n) y).0)) r)
      (K s n (inl a) lv)),
  risen T τ τ' q d l Start i j E F h g z ld u.1 k.1
      (λ s n a lv. ⊎_elim (λ e. inl e)
      (λ r. ⊎_elim (λ y. absurd (u.2 s (puts_key T τ p d l Start i E s n (τ' s n) y).0 a)) (λ y. inr y) r)
      (K s n (inr a) lv)),
)
risen T τ τ' (Par p q) d l (Resume (First m)) i j E F h g z ld u k K = risen T τ τ' p d l (Resume m) i j E F h
    g z ld u.0 k (λ s n a lv. K s n (inl a) lv)
risen T τ τ' (Par p q) d l (Resume (Second m)) i j E F h g z ld u k K = risen T τ τ' q d l (Resume m) i j E F
    h g z ld u.1 k (λ s n a lv. K s n (inr a) lv)
risen T τ τ' (Par p q) d l (Resume (Both m m')) i j E F h g z ld u k K = (
  risen T τ τ' p d l (Resume m) i j E F h g z ld u.0 k.0
      (λ s n a lv. ⊎_elim (λ e. inl e)
      (λ r. ⊎_elim (λ y. inr y) (λ y. absurd (u.2 s a (puts_key T τ q d l (Resume m') i E s n (τ' s n) y).0)) r)
      (K s n (inl a) lv)),
  risen T τ τ' q d l (Resume m') i j E F h g z ld u.1 k.1
      (λ s n a lv. ⊎_elim (λ e. inl e)
      (λ r. ⊎_elim (λ y. absurd (u.2 s (puts_key T τ p d l (Resume m) i E s n (τ' s n) y).0 a)) (λ y. inr y) r)
      (K s n (inr a) lv)),
)
risen T τ τ' (Loop p) d l Start i j E F h g z ld u k K = risen T τ τ' p (suc d) l Start i j E F h g z
    (omega arith) u k (K)
risen T τ τ' (Loop p) d l (Resume (Inside m)) i j E F h g z ld u k K = (
  risen T τ τ' p (suc d) l (Resume m) i j E F h g z (omega arith) u k.0
      (λ s n a lv. ⊎_elim (λ e. inl e)
      (λ r. ⊎_elim (λ y. inr y)
      (λ y. absurd (level_apart d l n m ld lv
      (puts_key T τ p (suc d) (suc d) Start (is_end (flat T τ p (suc d) l (Resume m) i E).code) E s n (τ' s n)
      (follow_put ((flat T τ p (suc d) l (Resume m) i E).codes 0)
      (Puts T τ p (suc d) (suc d) Start (is_end (flat T τ p (suc d) l (Resume m) i E).code) E s n (τ' s n))
      y)).1)) r) (K s n a (deeper_level d l n m (Inside m) lv))),
  follow_risen
      ((flat T τ p (suc d) l (Resume m) i E).codes 0) ((flat T τ' p (suc d) l (Resume m) j F).codes 0)
      (Rising T τ p (suc d) (suc d) Start (is_end (flat T τ p (suc d) l (Resume m) i E).code) E)
      (Rising T τ' p (suc d) (suc d) Start (is_end (flat T τ' p (suc d) l (Resume m) j F).code) F)
      ((flat_up T τ τ' p (suc d) l (Resume m) i j E F h g z).codes 0)
      (λ r. risen T τ τ' p (suc d) (suc d) Start (is_end (flat T τ p (suc d) l (Resume m) i E).code)
      (is_end (flat T τ' p (suc d) l (Resume m) j F).code) E F
      (is_end_up (flat T τ p (suc d) l (Resume m) i E).code (flat T τ' p (suc d) l (Resume m) j F).code
      (flat_up T τ τ' p (suc d) l (Resume m) i j E F h g z).code) g z (omega arith) u r
      (λ s n a lv. ⊎_elim (λ e. inl e)
      (λ r. ⊎_elim (λ y. absurd
      (level_apart d l n m ld (puts_key T τ p (suc d) l (Resume m) i E s n (τ' s n) y).1 lv))
      (λ y. inr (follow_put ((flat T τ p (suc d) l (Resume m) i E).codes 0)
      (Puts T τ p (suc d) (suc d) Start (is_end (flat T τ p (suc d) l (Resume m) i E).code) E s n (τ' s n)) y))
      r) (K s n a (anew_level d l n (Inside m) lv)))) k.1,
)
risen T τ τ' (Trap p) d l Start i j E F h g z ld u k K = risen T τ τ' p d l Start i j E F h g z ld u k (K)
risen T τ τ' (Trap p) d l (Resume (Inside m)) i j E F h g z ld u k K = risen T τ τ' p d l (Resume m) i j E F h
    g z ld u k (K)
risen T τ τ' (Local x p) d l Start i j E F h g z ld u k K =
    let c : SigCell = cell_with (τ x l) false (T.first x) in
    let y : SigCell = cell_with (τ' x l) false (T.first x) in
    let r : SigCell = raised T x c (flat T τ p d l Start i (put E x c)) in
    let mv : (τ' x l ≡ τ x l) ⊎ (τ' x l ≡ (r.status, r.value)) = ⊎_elim (λ e. inl e)
    (λ q. ⊎_elim (λ q. inr q.2)
    (λ q. absurd (u.0 (puts_key T τ p d l Start i (put E x c) x l (τ' x l) q).0)) q)
    (K x l (inl refl) refl) in (
      local_risen T τ τ' x p d l Start false (T.first x) i j E F h g z k.0 mv,
      risen T τ τ' p d l Start i j (put E x c) (put F x y) h
          (put_up E F x c y g (cell_up τ τ' x l false (T.first x) z)) z ld u.1 k.1
          (λ s n a lv. ⊎_elim (λ e. inl e)
          (λ q. ⊎_elim (λ q. absurd (u.0 (subst (Has p) q.0 a))) (λ q. inr q) q) (K s n (inr a) lv)),
    )
risen T τ τ' (Local x p) d l (Resume (Scope m b w)) i j E F h g z ld u k K =
    let c : SigCell = cell_with (τ x l) b w in
    let y : SigCell = cell_with (τ' x l) b w in
    let r : SigCell = raised T x c (flat T τ p d l (Resume m) i (put E x c)) in
    let mv : (τ' x l ≡ τ x l) ⊎ (τ' x l ≡ (r.status, r.value)) = ⊎_elim (λ e. inl e)
    (λ q. ⊎_elim (λ q. inr q.2)
    (λ q. absurd (u.0 (puts_key T τ p d l (Resume m) i (put E x c) x l (τ' x l) q).0)) q)
    (K x l (inl refl) (inl refl)) in (
      local_risen T τ τ' x p d l (Resume m) b w i j E F h g z k.0 mv,
      risen T τ τ' p d l (Resume m) i j (put E x c) (put F x y) h
          (put_up E F x c y g (cell_up τ τ' x l b w z)) z ld u.1 k.1
          (λ s n a lv. ⊎_elim (λ e. inl e)
          (λ q. ⊎_elim (λ q. absurd (u.0 (subst (Has p) q.0 a))) (λ q. inr q) q) (K s n (inr a) lv)),
    )
risen T τ τ' _ d l t i j E F h g z ld u k K = tt

pub rising_start : (T : Table) (p : Statement) (d l : ℕ) (t : Task) (i : Index) (E : Env) → Rising T
    nothing_known p d l t i E
rising_start T (If e p q) d l Start i E = chosen_all (eval_of e E []) i
    (λ j. Rising T nothing_known p d l Start j E) (λ j. Rising T nothing_known q d l Start j E)
    (λ j. rising_start T p d l Start j E) (λ j. rising_start T q d l Start j E)
rising_start T (If e p q) d l (Resume (First m)) i E = rising_start T p d l (Resume m) i E
rising_start T (If e p q) d l (Resume (Second m)) i E = rising_start T q d l (Resume m) i E
rising_start T (Suspend e p) d l Start i E = rising_start T p d l Start i E
rising_start T (Suspend e p) d l (Resume (Inside m)) i E = held_all (eval_of e E []) i
    (λ j. Rising T nothing_known p d l (Resume m) j E) (λ j. rising_start T p d l (Resume m) j E)
rising_start T (Seq p q) d l Start i E = (
  rising_start T p d l Start i E,
  follow_all ((flat T nothing_known p d l Start i E).codes 0)
      (Rising T nothing_known q d l Start (is_end (flat T nothing_known p d l Start i E).code) E)
      (rising_start T q d l Start (is_end (flat T nothing_known p d l Start i E).code) E),
)
rising_start T (Seq p q) d l (Resume (First m)) i E = (
  rising_start T p d l (Resume m) i E,
  follow_all ((flat T nothing_known p d l (Resume m) i E).codes 0)
      (Rising T nothing_known q d l Start (is_end (flat T nothing_known p d l (Resume m) i E).code) E)
      (rising_start T q d l Start (is_end (flat T nothing_known p d l (Resume m) i E).code) E),
)
rising_start T (Seq p q) d l (Resume (Second m)) i E = rising_start T q d l (Resume m) i E
rising_start T (Par p q) d l Start i E = (rising_start T p d l Start i E, rising_start T q d l Start i E)
rising_start T (Par p q) d l (Resume (First m)) i E = rising_start T p d l (Resume m) i E
rising_start T (Par p q) d l (Resume (Second m)) i E = rising_start T q d l (Resume m) i E
rising_start T (Par p q) d l (Resume (Both m m')) i E =
    (rising_start T p d l (Resume m) i E, rising_start T q d l (Resume m') i E)
rising_start T (Loop p) d l Start i E = rising_start T p (suc d) l Start i E
rising_start T (Loop p) d l (Resume (Inside m)) i E = (
  rising_start T p (suc d) l (Resume m) i E,
  follow_all
      ((flat T nothing_known p (suc d) l (Resume m) i E).codes 0)
      (Rising T nothing_known p (suc d) (suc d) Start
      (is_end (flat T nothing_known p (suc d) l (Resume m) i E).code) E)
      (rising_start T p (suc d) (suc d) Start (is_end (flat T nothing_known p (suc d) l (Resume m) i E).code)
      E),
)
rising_start T (Trap p) d l Start i E = rising_start T p d l Start i E
rising_start T (Trap p) d l (Resume (Inside m)) i E = rising_start T p d l (Resume m) i E
rising_start T (Local s p) d l Start i E = (
  record { status = tt; value = tt; pre = refl; preval = refl },
  rising_start T p d l Start i
      (put E s (cell_with (Unknown, cell.Unknown) false (T.first s))),
)
rising_start T (Local s p) d l (Resume (Scope m b w)) i E = (
  record { status = tt; value = tt; pre = refl; preval = refl },
  rising_start T p d l (Resume m) i
      (put E s (cell_with (Unknown, cell.Unknown) b w)),
)
rising_start T _ d l t i E = tt

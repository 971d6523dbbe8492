-- A round over a flat table keeps it within the nested definition.
use Rattle.std.proofs.Common.{◌≡◌, refl, sym, subst, ℕ, suc, ◌≤◌, Bool, true, false, [], ◌⊎◌, inl, inr}
use Rattle.std.proofs.Common.{⊎_elim, arith}
use Rattle.hh_base.specs.declared.value.Tri.{Tri}
use Rattle.hh_base.specs.declared.value.Value.{Value}
use Rattle.hh_base.specs.declared.value.Pos.{Pos}
use Rattle.hh_base.specs.declared.value.FaultKind.{FaultKind}
use Rattle.host_expr.specs.declared.cell.Cell.{Cell}
use Rattle.host_expr.specs.declared.cell.Cell.TheVariants as cell
use Rattle.host_expr.specs.declared.cell.SigCell.{SigCell}
use Rattle.host_expr.specs.Environment.{Env, put, unsolved}
use Rattle.host_expr.specs.Evaluation.{eval_of, truth}
use Rattle.host_expr.specs.Knows.{CellBelow, EnvBelow, SignalBelow}
use Rattle.host_expr.proofs.Evaluating.{eval_up}
use Rattle.hh_term.specs.Statement.{If, Local, Loop, Par, Seq, Statement, Suspend, Trap}
use Rattle.hh_term.specs.Selection.{Both, First, Inside, Resume, Scope, Second, Selection, Start, Task}
use Rattle.hh_term.specs.MustCan.{Executed, Index, MustCan, Possible, Table, is_end, must_can, raised, round}
use Rattle.hh_term.specs.MustCan.{solve}
use Rattle.hh_term.specs.Knows.{IndexBelow, MustCanBelow}
use Rattle.hh_term.proofs.Rises.{is_end_up}
use Rattle.hh_term.proofs.Rounds.{put_up, raised_up}
use Rattle.hh_term.proofs.MustCanLaws.{grows, must_can_lawful}
use Rattle.hh_term.proofs.Standstill.{two_rounds}
use Rattle.status_table.specs.Flat.{Cells, cell_with, flat}
use Rattle.status_table.specs.Moving.{Has, Unique, LevelOk, Moves, nothing_known}
use Rattle.status_table.specs.Standing.{ChosenAt, HeldAt, Pick}
use Rattle.status_table.proofs.Bounding.{Bounded}
use Rattle.status_table.proofs.FlatLaws.{flat_below}
use Rattle.status_table.specs.Putting.{Puts, PutsChosen, PutsHeld}

-- ---- a second part is met only where the first can end

pub follow_put : (b : Bool) (P : Type 0) → Pick b P ⊥ → P
follow_put true P h = h
follow_put false P h = absurd h

pub follow_kept : (b : Bool) (P P' : Type 0) → (P → P') → Pick b P (Unit {0}) → Pick b P' (Unit {0})
follow_kept true P P' f h = f h
follow_kept false P P' f h = tt

pub follow_all : (b : Bool) (P : Type 0) → P → Pick b P (Unit {0})
follow_all true P h = h
follow_all false P h = tt

-- ---- what a pass puts, it puts at a local of the statement, at a level of the task

pub chosen_key : (c : Cell) (i : Index) (P Q : Index → Type 0) (X Y : Type 0) → ((j : Index) → P j → X) →
    ((j : Index) → Q j → Y) → PutsChosen c i P Q → X ⊎ Y
chosen_key cell.Unknown i P Q X Y f g (inl h) = inl (f Possible h)
chosen_key cell.Unknown i P Q X Y f g (inr h) = inr (g Possible h)
chosen_key (cell.Known v) i P Q X Y f g h = pick_key (truth v) h
  where
    pick_key : (b : Bool) → Pick b (P i) (Q i) → X ⊎ Y
    pick_key true k = inl (f i k)
    pick_key false k = inr (g i k)
chosen_key (cell.Faulted o k) i P Q X Y f g h = inr (g i h)

pub held_key : (c : Cell) (i : Index) (P : Index → Type 0) (X : Type 0) → ((j : Index) → P j → X) → PutsHeld c
    i P → X
held_key cell.Unknown i P X f h = f Possible h
held_key (cell.Known v) i P X f h = pick_key (truth v) h
  where
    pick_key : (b : Bool) → Pick b ⊥ (P i) → X
    pick_key true k = absurd k
    pick_key false k = f i k
held_key (cell.Faulted o k) i P X f h = f i h

pub side : {A B L : Type 0} → (A × L) ⊎ (B × L) → (A ⊎ B) × L
side (inl h) = (inl h.0, h.1)
side (inr h) = (inr h.0, h.1)

pub started : {A : Type 0} (d l n : ℕ) (m : Selection) → A × (n ≡ l) → A × LevelOk d l (Resume m) n
started d l n m h = (h.0, inl h.1)

pub deeper : {A : Type 0} (d l n : ℕ) (m m' : Selection) → A × LevelOk (suc d) l (Resume m) n → A × LevelOk d
    l (Resume m') n
deeper d l n m m' h = (h.0, ⊎_elim (λ e. inl e) (λ le. inr (omega arith)) h.1)

pub anew : {A : Type 0} (d l n : ℕ) (m : Selection) → A × (n ≡ suc d) → A × LevelOk d l (Resume m) n
anew d l n m h = let e = h.1 in (h.0, inr (omega arith))

pub puts_key : (T : Table) (τ : Cells) (p : Statement) (d l : ℕ) (t : Task) (i : Index) (E : Env) (s n : ℕ)
    (v : Tri × Cell) → Puts T τ p d l t i E s n v → Has p s × LevelOk d l t n
puts_key T τ (If e p q) d l Start i E s n v h = side
    (chosen_key (eval_of e E []) i (λ j. Puts T τ p d l Start j E s n v) (λ j. Puts T τ q d l Start j E s n v)
    (Has p s × (n ≡ l)) (Has q s × (n ≡ l)) (λ j g. puts_key T τ p d l Start j E s n v g)
    (λ j g. puts_key T τ q d l Start j E s n v g) h)
puts_key T τ (If e p q) d l (Resume (First m)) i E s n v h = let g = puts_key T τ p d l (Resume m) i E s n v h
    in (inl g.0, g.1)
puts_key T τ (If e p q) d l (Resume (Second m)) i E s n v h = let g = puts_key T τ q d l (Resume m) i E s n v
    h in (inr g.0, g.1)
puts_key T τ (Suspend e p) d l Start i E s n v h = puts_key T τ p d l Start i E s n v h
puts_key T τ (Suspend e p) d l (Resume (Inside m)) i E s n v h = held_key (eval_of e E []) i
    (λ j. Puts T τ p d l (Resume m) j E s n v) (Has p s × LevelOk d l (Resume m) n)
    (λ j g. puts_key T τ p d l (Resume m) j E s n v g) h
puts_key T τ (Seq p q) d l Start i E s n v h = ⊎_elim
    (λ g. let r = puts_key T τ p d l Start i E s n v g in (inl r.0, r.1))
    (λ g. let r = puts_key T τ q d l Start (is_end (flat T τ p d l Start i E).code) E s n v
    (follow_put ((flat T τ p d l Start i E).codes 0)
    (Puts T τ q d l Start (is_end (flat T τ p d l Start i E).code) E s n v) g) in (inr r.0, r.1)) h
puts_key T τ (Seq p q) d l (Resume (First m)) i E s n v h = ⊎_elim
    (λ g. let r = puts_key T τ p d l (Resume m) i E s n v g in (inl r.0, r.1))
    (λ g. let r = started d l n m
    (puts_key T τ q d l Start (is_end (flat T τ p d l (Resume m) i E).code) E s n v
    (follow_put ((flat T τ p d l (Resume m) i E).codes 0)
    (Puts T τ q d l Start (is_end (flat T τ p d l (Resume m) i E).code) E s n v) g)) in (inr r.0, r.1)) h
puts_key T τ (Seq p q) d l (Resume (Second m)) i E s n v h = let g = puts_key T τ q d l (Resume m) i E s n v h
    in (inr g.0, g.1)
puts_key T τ (Par p q) d l Start i E s n v h = ⊎_elim
    (λ g. let r = puts_key T τ p d l Start i E s n v g in (inl r.0, r.1))
    (λ g. let r = puts_key T τ q d l Start i E s n v g in (inr r.0, r.1)) h
puts_key T τ (Par p q) d l (Resume (First m)) i E s n v h = let g = puts_key T τ p d l (Resume m) i E s n v h
    in (inl g.0, g.1)
puts_key T τ (Par p q) d l (Resume (Second m)) i E s n v h = let g = puts_key T τ q d l (Resume m) i E s n v h
    in (inr g.0, g.1)
puts_key T τ (Par p q) d l (Resume (Both m m')) i E s n v h = ⊎_elim
    (λ g. let r = puts_key T τ p d l (Resume m) i E s n v g in (inl r.0, r.1))
    (λ g. let r = puts_key T τ q d l (Resume m') i E s n v g in (inr r.0, r.1)) h
puts_key T τ (Loop p) d l Start i E s n v h = puts_key T τ p (suc d) l Start i E s n v h
puts_key T τ (Loop p) d l (Resume (Inside m)) i E s n v h = ⊎_elim
    (λ g. deeper d l n m (Inside m) (puts_key T τ p (suc d) l (Resume m) i E s n v g))
    (λ g. anew d l n (Inside m)
    (puts_key T τ p (suc d) (suc d) Start (is_end (flat T τ p (suc d) l (Resume m) i E).code) E s n v
    (follow_put ((flat T τ p (suc d) l (Resume m) i E).codes 0)
    (Puts T τ p (suc d) (suc d) Start (is_end (flat T τ p (suc d) l (Resume m) i E).code) E s n v) g))) h
puts_key T τ (Trap p) d l Start i E s n v h = puts_key T τ p d l Start i E s n v h
puts_key T τ (Trap p) d l (Resume (Inside m)) i E s n v h = puts_key T τ p d l (Resume m) i E s n v h
puts_key T τ (Local u p) d l Start i E s n v h = ⊎_elim (λ g. (inl g.0, g.1))
    (λ g. let r = puts_key T τ p d l Start i (put E u (cell_with (τ u l) false (T.first u))) s n v g in
    (inr r.0, r.1)) h
puts_key T τ (Local u p) d l (Resume (Scope m b w)) i E s n v h = ⊎_elim (λ g. (inl g.0, inl g.1))
    (λ g. let r = puts_key T τ p d l (Resume m) i (put E u (cell_with (τ u l) b w)) s n v g in (inr r.0, r.1))
    h
puts_key T τ _ d l t i E s n v h = absurd h

-- ---- a round keeps it within

-- a fact on cells that stay or take what is put, by the test that decides which part runs
pub chosen_kept : (c d : Cell) (i j : Index) (P Q P' Q' : Index → Type 0) (M N : Index → Type 0) → CellBelow c
    d → IndexBelow i j → ((i' j' : Index) → IndexBelow i' j' → P j' → M i' → P' j') →
    ((i' j' : Index) → IndexBelow i' j' → Q j' → N i' → Q' j') → (c ≡ cell.Unknown → M Possible × N Possible)
    → ((v : Value) → c ≡ cell.Known v → Pick (truth v) (M i) (N i)) →
    ((o : _) (k : _) → c ≡ cell.Faulted o k → N i) → ChosenAt d j P Q → ChosenAt d j P' Q'
chosen_kept cell.Unknown cell.Unknown i j P Q P' Q' M N le h f g mu mk mf k =
    (f Possible Possible tt k.0 (mu refl).0, g Possible Possible tt k.1 (mu refl).1)
chosen_kept cell.Unknown (cell.Known v) i j P Q P' Q' M N le h f g mu mk mf k = pick_kept (truth v) k
  where
    pick_kept : (b : Bool) → Pick b (P j) (Q j) → Pick b (P' j) (Q' j)
    pick_kept true r = f Possible j tt r (mu refl).0
    pick_kept false r = g Possible j tt r (mu refl).1
chosen_kept cell.Unknown (cell.Faulted o n) i j P Q P' Q' M N le h f g mu mk mf k = g Possible j tt k
    (mu refl).1
chosen_kept (cell.Known v) d i j P Q P' Q' M N le h f g mu mk mf k =
    subst (λ z. ChosenAt z j P' Q') (sym le)
    (pick_kept (truth v) (subst (λ z. ChosenAt z j P Q) le k) (mk v refl))
  where
    pick_kept : (b : Bool) → Pick b (P j) (Q j) → Pick b (M i) (N i) → Pick b (P' j) (Q' j)
    pick_kept true r m = f i j h r m
    pick_kept false r m = g i j h r m
chosen_kept (cell.Faulted o n) d i j P Q P' Q' M N le h f g mu mk mf k =
    subst (λ z. ChosenAt z j P' Q') (sym le) (g i j h (subst (λ z. ChosenAt z j P Q) le k) (mf o n refl))

-- ---- the parts of a test

pub pick_build : (b : Bool) (X Y : Type 0) → (b ≡ true → X) → (b ≡ false → Y) → Pick b X Y
pick_build true X Y f g = f refl
pick_build false X Y f g = g refl

module _ (Hp Hq : ℕ → Type 0) (Lv : ℕ → Type 0) (St : ℕ → ℕ → Type 0) (PP PQ : Index → ℕ → ℕ → Type 0)
    (keyP : (j : Index) (s n : ℕ) → PP j s n → Hp s) (keyQ : (j : Index) (s n : ℕ) → PQ j s n → Hq s)
    (apart : (s : ℕ) → Hp s → Hq s → ⊥) where
  abbrev MovesP : Index → Type 0
  MovesP j = (s n : ℕ) → Hp s → Lv n → St s n ⊎ PP j s n

  abbrev MovesQ : Index → Type 0
  MovesQ j = (s n : ℕ) → Hq s → Lv n → St s n ⊎ PQ j s n

  abbrev MovesBoth : Cell → Index → Type 0
  MovesBoth c i = (s n : ℕ) → Hp s ⊎ Hq s → Lv n → St s n ⊎ PutsChosen c i (λ j. PP j s n) (λ j. PQ j s n)

  pub parts_unknown : (i : Index) → MovesBoth cell.Unknown i → MovesP Possible × MovesQ Possible
  parts_unknown i K = (
    λ s n h lv. ⊎_elim (λ e. inl e)
        (λ r. ⊎_elim (λ x. inr x) (λ y. absurd (apart s h (keyQ Possible s n y))) r) (K s n (inl h) lv),
    λ s n h lv. ⊎_elim (λ e. inl e)
        (λ r. ⊎_elim (λ x. absurd (apart s (keyP Possible s n x) h)) (λ y. inr y) r) (K s n (inr h) lv),
  )

  pub parts_known : (i : Index) (v : Value) → MovesBoth (cell.Known v) i → Pick (truth v) (MovesP i)
      (MovesQ i)
  parts_known i v K =
      pick_build (truth v) (MovesP i) (MovesQ i)
      (λ e s n h lv. ⊎_elim (λ e. inl e) (λ r. inr (subst (λ b. Pick b (PP i s n) (PQ i s n)) e r))
      (K s n (inl h) lv))
      (λ e s n h lv. ⊎_elim (λ e. inl e) (λ r. inr (subst (λ b. Pick b (PP i s n) (PQ i s n)) e r))
      (K s n (inr h) lv))

  pub parts_faulted : (i : Index) (o : Pos) (k : FaultKind) → MovesBoth (cell.Faulted o k) i → MovesQ i
  parts_faulted i o k K = λ s n h lv. K s n (inr h) lv

  test_kept : (c d : Cell) (i j : Index) (P Q P' Q' : Index → Type 0) → CellBelow c d → IndexBelow i j →
      ((i' j' : Index) → IndexBelow i' j' → P j' → MovesP i' → P' j') →
      ((i' j' : Index) → IndexBelow i' j' → Q j' → MovesQ i' → Q' j') → MovesBoth c i → ChosenAt d j P Q →
      ChosenAt d j P' Q'
  test_kept c d i j P Q P' Q' le h f g K k =
      chosen_kept c d i j P Q P' Q' MovesP MovesQ le h f g
      (λ e. parts_unknown i (subst (λ z. MovesBoth z i) e K))
      (λ v e. parts_known i v (subst (λ z. MovesBoth z i) e K))
      (λ o n e. parts_faulted i o n (subst (λ z. MovesBoth z i) e K))
      k

pub guard_kept : (c d : Cell) (i j : Index) (Hp Lv : ℕ → Type 0) (St : ℕ → ℕ → Type 0)
    (PP : Index → ℕ → ℕ → Type 0) (P P' : Index → Type 0) → CellBelow c d → IndexBelow i j →
    ((i' j' : Index) → IndexBelow i' j' → P j' → ((s n : ℕ) → Hp s → Lv n → St s n ⊎ PP i' s n) → P' j') →
    ((s n : ℕ) → Hp s → Lv n → St s n ⊎ PutsHeld c i (λ j. PP j s n)) → HeldAt d j P → HeldAt d j P'
guard_kept cell.Unknown cell.Unknown i j Hp Lv St PP P P' le h f K k = f Possible Possible tt k K
guard_kept cell.Unknown (cell.Known v) i j Hp Lv St PP P P' le h f K k = pick_kept (truth v) k
  where
    pick_kept : (b : Bool) → Pick b (Unit {0}) (P j) → Pick b (Unit {0}) (P' j)
    pick_kept true r = tt
    pick_kept false r = f Possible j tt r K
guard_kept cell.Unknown (cell.Faulted o n) i j Hp Lv St PP P P' le h f K k = f Possible j tt k K
guard_kept (cell.Known v) d i j Hp Lv St PP P P' le h f K k =
    subst (λ z. HeldAt z j P') (sym le) (pick_kept (truth v) (subst (λ z. HeldAt z j P) le k) K)
  where
    pick_kept : (b : Bool) → Pick b (Unit {0}) (P j) →
        ((s n : ℕ) → Hp s → Lv n → St s n ⊎ Pick b ⊥ (PP i s n)) → Pick b (Unit {0}) (P' j)
    pick_kept true r m = tt
    pick_kept false r m = f i j h r m
guard_kept (cell.Faulted o n) d i j Hp Lv St PP P P' le h f K k =
    subst (λ z. HeldAt z j P') (sym le) (f i j h (subst (λ z. HeldAt z j P) le k) K)

pub index_same : (i : Index) → IndexBelow i i
index_same Executed = refl
index_same Possible = tt

-- ---- the local

local_kept : (T : Table) (τ τ' : Cells) (u : ℕ) (p : Statement) (d l : ℕ) (t : Task) (b : Bool) (w : Value)
    (i j : Index) (E F : Env) → IndexBelow i j → EnvBelow E F →
    let c = cell_with (τ u l) b w in
    let x = solve T u (must_can T p t j) F (unsolved b w) in
    SignalBelow c x → Bounded T τ p d l t j (put F u x) →
    (let r = raised T u c (flat T τ p d l t i (put E u c)) in (τ' u l ≡ τ u l) ⊎
    (τ' u l ≡ (r.status, r.value))) →
    SignalBelow (cell_with (τ' u l) b w) x
local_kept T τ τ' u p d l t b w i j E F h g k0 k1 m =
    let c : SigCell = cell_with (τ u l) b w in
    let q : Env → MustCan = must_can T p t j in
    let x : SigCell = solve T u q F (unsolved b w) in
    let a : MustCan = flat T τ p d l t i (put E u c) in
    let r : SigCell = raised T u c a in
    let le : MustCanBelow a (q (put F u x)) = flat_below T τ p d l t i j (put E u c) (put F u x) h
    (put_up E F u c x g k0) k1 in
    let up : SignalBelow r (round T u q F x) = raised_up T u c x a (q (put F u x)) refl refl le
    ((must_can_lawful T p t).within j (put F u x)) in
    let up' : SignalBelow r x = subst (SignalBelow r)
    (two_rounds T u q F b w (grows (must_can T p t) (must_can_lawful T p t) j j (index_same j))) up in
    ⊎_elim
    (λ e. subst (λ z. SignalBelow (cell_with z b w) x) (sym e) k0)
    (λ e. subst (λ z. SignalBelow (cell_with z b w) x) (sym e)
    (record { status = up'.status; value = up'.value; pre = refl; preval = refl }))
    m

-- ---- the induction

pub deeper_level : (d l n : ℕ) (m m' : Selection) → LevelOk (suc d) l (Resume m) n → LevelOk d l (Resume m') n
deeper_level d l n m m' h = ⊎_elim (λ e. inl e) (λ le. inr (omega arith)) h

pub anew_level : (d l n : ℕ) (m : Selection) → n ≡ suc d → LevelOk d l (Resume m) n
anew_level d l n m e = inr (omega arith)

pub level_apart : (d l n : ℕ) (m : Selection) → l ≤ d → LevelOk (suc d) l (Resume m) n → n ≡ suc d → ⊥
level_apart d l n m ld lv e = ⊎_elim (λ f. omega arith) (λ le. omega arith) lv

pub kept : (T : Table) (τ τ' : Cells) (p : Statement) (d l : ℕ) (t : Task) (i j : Index) (E F : Env) →
    IndexBelow i j → EnvBelow E F → l ≤ d → Unique p → Bounded T τ p d l t j F → Moves T τ τ' p d l t i E →
    Bounded T τ' p d l t j F
kept T τ τ' (If e p q) d l Start i j E F h g ld u k K = test_kept (Has p) (Has q) (λ n. LevelOk d l Start n)
    (λ s n. τ' s n ≡ τ s n) (λ x s n. Puts T τ p d l Start x E s n (τ' s n))
    (λ x s n. Puts T τ q d l Start x E s n (τ' s n))
    (λ x s n y. (puts_key T τ p d l Start x E s n (τ' s n) y).0)
    (λ x s n y. (puts_key T τ q d l Start x E s n (τ' s n) y).0) u.2 (eval_of e E []) (eval_of e F []) i j
    (λ n. Bounded T τ p d l Start n F) (λ n. Bounded T τ q d l Start n F) (λ n. Bounded T τ' p d l Start n F)
    (λ n. Bounded T τ' q d l Start n F) (eval_up E F [] g e) h
    (λ x y le r M. kept T τ τ' p d l Start x y E F le g ld u.0 r (M))
    (λ x y le r M. kept T τ τ' q d l Start x y E F le g ld u.1 r (M)) K k
kept T τ τ' (If e p q) d l (Resume (First m)) i j E F h g ld u k K = kept T τ τ' p d l (Resume m) i j E F h g
    ld u.0 k (λ s n a lv. K s n (inl a) lv)
kept T τ τ' (If e p q) d l (Resume (Second m)) i j E F h g ld u k K = kept T τ τ' q d l (Resume m) i j E F h g
    ld u.1 k (λ s n a lv. K s n (inr a) lv)
kept T τ τ' (Suspend e p) d l Start i j E F h g ld u k K = kept T τ τ' p d l Start i j E F h g ld u k (K)
kept T τ τ' (Suspend e p) d l (Resume (Inside m)) i j E F h g ld u k K = guard_kept (eval_of e E [])
    (eval_of e F []) i j (Has p) (λ n. LevelOk d l (Resume m) n) (λ s n. τ' s n ≡ τ s n)
    (λ x s n. Puts T τ p d l (Resume m) x E s n (τ' s n)) (λ n. Bounded T τ p d l (Resume m) n F)
    (λ n. Bounded T τ' p d l (Resume m) n F) (eval_up E F [] g e) h
    (λ x y le r M. kept T τ τ' p d l (Resume m) x y E F le g ld u r (M)) K k
kept T τ τ' (Seq p q) d l Start i j E F h g ld u k K = (
  kept T τ τ' p d l Start i j E F h g ld u.0 k.0
      (λ s n a lv. ⊎_elim (λ e. inl e)
      (λ r. ⊎_elim (λ y. inr y)
      (λ y. absurd (u.2 s a
      (puts_key T τ q d l Start (is_end (flat T τ p d l Start i E).code) E s n (τ' s n)
      (follow_put ((flat T τ p d l Start i E).codes 0)
      (Puts T τ q d l Start (is_end (flat T τ p d l Start i E).code) E s n (τ' s n)) y)).0)) r)
      (K s n (inl a) lv)),
  follow_kept ((must_can T p Start j F).codes 0)
      (Bounded T τ q d l Start (is_end (must_can T p Start j F).code) F)
      (Bounded T τ' q d l Start (is_end (must_can T p Start j F).code) F)
      (λ r. kept T τ τ' q d l Start (is_end (flat T τ p d l Start i E).code)
      (is_end (must_can T p Start j F).code) E F
      (is_end_up (flat T τ p d l Start i E).code (must_can T p Start j F).code
      (flat_below T τ p d l Start i j E F h g k.0).code) g ld u.1 r
      (λ s n a lv. ⊎_elim (λ e. inl e)
      (λ r. ⊎_elim (λ y. absurd (u.2 s (puts_key T τ p d l Start i E s n (τ' s n) y).0 a))
      (λ y. inr (follow_put ((flat T τ p d l Start i E).codes 0)
      (Puts T τ q d l Start (is_end (flat T τ p d l Start i E).code) E s n (τ' s n)) y)) r) (K s n (inr a) lv)))
      k.1,
)
kept T τ τ' (Seq p q) d l (Resume (First m)) i j E F h g ld u k K = (
  kept T τ τ' p d l (Resume m) i j E F h g ld u.0 k.0
      (λ s n a lv. ⊎_elim (λ e. inl e)
      (λ r. ⊎_elim (λ y. inr y)
      (λ y. absurd (u.2 s a
      (puts_key T τ q d l Start (is_end (flat T τ p d l (Resume m) i E).code) E s n (τ' s n)
      (follow_put ((flat T τ p d l (Resume m) i E).codes 0)
      (Puts T τ q d l Start (is_end (flat T τ p d l (Resume m) i E).code) E s n (τ' s n)) y)).0)) r)
      (K s n (inl a) lv)),
  follow_kept ((must_can T p (Resume m) j F).codes 0)
      (Bounded T τ q d l Start (is_end (must_can T p (Resume m) j F).code) F)
      (Bounded T τ' q d l Start (is_end (must_can T p (Resume m) j F).code) F)
      (λ r. kept T τ τ' q d l Start (is_end (flat T τ p d l (Resume m) i E).code)
      (is_end (must_can T p (Resume m) j F).code) E F
      (is_end_up (flat T τ p d l (Resume m) i E).code (must_can T p (Resume m) j F).code
      (flat_below T τ p d l (Resume m) i j E F h g k.0).code) g ld u.1 r
      (λ s n a lv. ⊎_elim (λ e. inl e)
      (λ r. ⊎_elim (λ y. absurd (u.2 s (puts_key T τ p d l (Resume m) i E s n (τ' s n) y).0 a))
      (λ y. inr (follow_put ((flat T τ p d l (Resume m) i E).codes 0)
      (Puts T τ q d l Start (is_end (flat T τ p d l (Resume m) i E).code) E s n (τ' s n)) y)) r)
      (K s n (inr a) (inl lv)))) k.1,
)
kept T τ τ' (Seq p q) d l (Resume (Second m)) i j E F h g ld u k K = kept T τ τ' q d l (Resume m) i j E F h g
    ld u.1 k (λ s n a lv. K s n (inr a) lv)
kept T τ τ' (Par p q) d l Start i j E F h g ld u k K = (
  kept T τ τ' p d l Start i j E F h g ld u.0 k.0
      (λ s n a lv. ⊎_elim (λ e. inl e)
      (λ r. ⊎_elim (λ y. inr y) (λ y. absurd (u.2 s a (puts_key T τ q d l Start i E s n (τ' s n) y).0)) r)
      (K s n (inl a) lv)),
  kept T τ τ' q d l Start i j E F h g ld u.1 k.1
      (λ s n a lv. ⊎_elim (λ e. inl e)
      (λ r. ⊎_elim (λ y. absurd (u.2 s (puts_key T τ p d l Start i E s n (τ' s n) y).0 a)) (λ y. inr y) r)
      (K s n (inr a) lv)),
)
kept T τ τ' (Par p q) d l (Resume (First m)) i j E F h g ld u k K = kept T τ τ' p d l (Resume m) i j E F h g
    ld u.0 k (λ s n a lv. K s n (inl a) lv)
kept T τ τ' (Par p q) d l (Resume (Second m)) i j E F h g ld u k K = kept T τ τ' q d l (Resume m) i j E F h g
    ld u.1 k (λ s n a lv. K s n (inr a) lv)
kept T τ τ' (Par p q) d l (Resume (Both m m')) i j E F h g ld u k K = (
  kept T τ τ' p d l (Resume m) i j E F h g ld u.0 k.0
      (λ s n a lv. ⊎_elim (λ e. inl e)
      (λ r. ⊎_elim (λ y. inr y) (λ y. absurd (u.2 s a (puts_key T τ q d l (Resume m') i E s n (τ' s n) y).0)) r)
      (K s n (inl a) lv)),
  kept T τ τ' q d l (Resume m') i j E F h g ld u.1 k.1
      (λ s n a lv. ⊎_elim (λ e. inl e)
      (λ r. ⊎_elim (λ y. absurd (u.2 s (puts_key T τ p d l (Resume m) i E s n (τ' s n) y).0 a)) (λ y. inr y) r)
      (K s n (inr a) lv)),
)
kept T τ τ' (Loop p) d l Start i j E F h g ld u k K = kept T τ τ' p (suc d) l Start i j E F h g (omega arith)
    u k (K)
kept T τ τ' (Loop p) d l (Resume (Inside m)) i j E F h g ld u k K = (
  kept T τ τ' p (suc d) l (Resume m) i j E F h g (omega arith) u k.0
      (λ s n a lv. ⊎_elim (λ e. inl e)
      (λ r. ⊎_elim (λ y. inr y)
      (λ y. absurd (level_apart d l n m ld lv
      (puts_key T τ p (suc d) (suc d) Start (is_end (flat T τ p (suc d) l (Resume m) i E).code) E s n (τ' s n)
      (follow_put ((flat T τ p (suc d) l (Resume m) i E).codes 0)
      (Puts T τ p (suc d) (suc d) Start (is_end (flat T τ p (suc d) l (Resume m) i E).code) E s n (τ' s n))
      y)).1)) r) (K s n a (deeper_level d l n m (Inside m) lv))),
  follow_kept
      ((must_can T p (Resume m) j F).codes 0)
      (Bounded T τ p (suc d) (suc d) Start (is_end (must_can T p (Resume m) j F).code) F)
      (Bounded T τ' p (suc d) (suc d) Start (is_end (must_can T p (Resume m) j F).code) F)
      (λ r. kept T τ τ' p (suc d) (suc d) Start (is_end (flat T τ p (suc d) l (Resume m) i E).code)
      (is_end (must_can T p (Resume m) j F).code) E F
      (is_end_up (flat T τ p (suc d) l (Resume m) i E).code (must_can T p (Resume m) j F).code
      (flat_below T τ p (suc d) l (Resume m) i j E F h g k.0).code) g (omega arith) u r
      (λ s n a lv. ⊎_elim (λ e. inl e)
      (λ r. ⊎_elim (λ y. absurd
      (level_apart d l n m ld (puts_key T τ p (suc d) l (Resume m) i E s n (τ' s n) y).1 lv))
      (λ y. inr (follow_put ((flat T τ p (suc d) l (Resume m) i E).codes 0)
      (Puts T τ p (suc d) (suc d) Start (is_end (flat T τ p (suc d) l (Resume m) i E).code) E s n (τ' s n)) y))
      r) (K s n a (anew_level d l n (Inside m) lv)))) k.1,
)
kept T τ τ' (Trap p) d l Start i j E F h g ld u k K = kept T τ τ' p d l Start i j E F h g ld u k (K)
kept T τ τ' (Trap p) d l (Resume (Inside m)) i j E F h g ld u k K = kept T τ τ' p d l (Resume m) i j E F h g
    ld u k (K)
kept T τ τ' (Local x p) d l Start i j E F h g ld u k K =
    let c : SigCell = cell_with (τ x l) false (T.first x) in
    let r : SigCell = raised T x c (flat T τ p d l Start i (put E x c)) in
    let y : SigCell = solve T x (must_can T p Start j) F (unsolved false (T.first x)) in
    let m : (τ' x l ≡ τ x l) ⊎ (τ' x l ≡ (r.status, r.value)) = ⊎_elim (λ e. inl e)
    (λ z. ⊎_elim (λ z. inr z.2)
    (λ z. absurd (u.0 (puts_key T τ p d l Start i (put E x c) x l (τ' x l) z).0)) z)
    (K x l (inl refl) refl) in (
      local_kept T τ τ' x p d l Start false (T.first x) i j E F h g k.0 k.1 m,
      kept T τ τ' p d l Start i j (put E x c) (put F x y) h (put_up E F x c y g k.0) ld u.1 k.1
          (λ s n a lv. ⊎_elim (λ e. inl e)
          (λ z. ⊎_elim (λ z. absurd (u.0 (subst (Has p) z.0 a))) (λ z. inr z) z) (K s n (inr a) lv)),
    )
kept T τ τ' (Local x p) d l (Resume (Scope m b w)) i j E F h g ld u k K =
    let c : SigCell = cell_with (τ x l) b w in
    let r : SigCell = raised T x c (flat T τ p d l (Resume m) i (put E x c)) in
    let y : SigCell = solve T x (must_can T p (Resume m) j) F (unsolved b w) in
    let mv : (τ' x l ≡ τ x l) ⊎ (τ' x l ≡ (r.status, r.value)) = ⊎_elim (λ e. inl e)
    (λ z. ⊎_elim (λ z. inr z.2)
    (λ z. absurd (u.0 (puts_key T τ p d l (Resume m) i (put E x c) x l (τ' x l) z).0)) z)
    (K x l (inl refl) (inl refl)) in (
      local_kept T τ τ' x p d l (Resume m) b w i j E F h g k.0 k.1 mv,
      kept T τ τ' p d l (Resume m) i j (put E x c) (put F x y) h (put_up E F x c y g k.0) ld u.1 k.1
          (λ s n a lv. ⊎_elim (λ e. inl e)
          (λ z. ⊎_elim (λ z. absurd (u.0 (subst (Has p) z.0 a))) (λ z. inr z) z) (K s n (inr a) lv)),
    )
kept T τ τ' _ d l t i j E F h g ld u k K = tt

-- ---- from nothing known

pub chosen_all : (c : Cell) (i : Index) (P Q : Index → Type 0) → ((j : Index) → P j) → ((j : Index) → Q j) →
    ChosenAt c i P Q
chosen_all cell.Unknown i P Q f g = (f Possible, g Possible)
chosen_all (cell.Known v) i P Q f g = pick_build (truth v) (P i) (Q i) (λ e. f i) (λ e. g i)
chosen_all (cell.Faulted o k) i P Q f g = g i

pub held_all : (c : Cell) (i : Index) (P : Index → Type 0) → ((j : Index) → P j) → HeldAt c i P
held_all cell.Unknown i P f = f Possible
held_all (cell.Known v) i P f = pick_build (truth v) (Unit {0}) (P i) (λ e. tt) (λ e. f i)
held_all (cell.Faulted o k) i P f = f i

pub bounded_start : (T : Table) (p : Statement) (d l : ℕ) (t : Task) (i : Index) (E : Env) → Bounded T
    nothing_known p d l t i E
bounded_start T (If e p q) d l Start i E = chosen_all (eval_of e E []) i
    (λ j. Bounded T nothing_known p d l Start j E) (λ j. Bounded T nothing_known q d l Start j E)
    (λ j. bounded_start T p d l Start j E) (λ j. bounded_start T q d l Start j E)
bounded_start T (If e p q) d l (Resume (First m)) i E = bounded_start T p d l (Resume m) i E
bounded_start T (If e p q) d l (Resume (Second m)) i E = bounded_start T q d l (Resume m) i E
bounded_start T (Suspend e p) d l Start i E = bounded_start T p d l Start i E
bounded_start T (Suspend e p) d l (Resume (Inside m)) i E = held_all (eval_of e E []) i
    (λ j. Bounded T nothing_known p d l (Resume m) j E) (λ j. bounded_start T p d l (Resume m) j E)
bounded_start T (Seq p q) d l Start i E = (
  bounded_start T p d l Start i E,
  follow_all ((must_can T p Start i E).codes 0)
      (Bounded T nothing_known q d l Start (is_end (must_can T p Start i E).code) E)
      (bounded_start T q d l Start (is_end (must_can T p Start i E).code) E),
)
bounded_start T (Seq p q) d l (Resume (First m)) i E = (
  bounded_start T p d l (Resume m) i E,
  follow_all ((must_can T p (Resume m) i E).codes 0)
      (Bounded T nothing_known q d l Start (is_end (must_can T p (Resume m) i E).code) E)
      (bounded_start T q d l Start (is_end (must_can T p (Resume m) i E).code) E),
)
bounded_start T (Seq p q) d l (Resume (Second m)) i E = bounded_start T q d l (Resume m) i E
bounded_start T (Par p q) d l Start i E = (bounded_start T p d l Start i E, bounded_start T q d l Start i E)
bounded_start T (Par p q) d l (Resume (First m)) i E = bounded_start T p d l (Resume m) i E
bounded_start T (Par p q) d l (Resume (Second m)) i E = bounded_start T q d l (Resume m) i E
bounded_start T (Par p q) d l (Resume (Both m m')) i E =
    (bounded_start T p d l (Resume m) i E, bounded_start T q d l (Resume m') i E)
bounded_start T (Loop p) d l Start i E = bounded_start T p (suc d) l Start i E
bounded_start T (Loop p) d l (Resume (Inside m)) i E = (
  bounded_start T p (suc d) l (Resume m) i E,
  follow_all ((must_can T p (Resume m) i E).codes 0)
      (Bounded T nothing_known p (suc d) (suc d) Start (is_end (must_can T p (Resume m) i E).code) E)
      (bounded_start T p (suc d) (suc d) Start (is_end (must_can T p (Resume m) i E).code) E),
)
bounded_start T (Trap p) d l Start i E = bounded_start T p d l Start i E
bounded_start T (Trap p) d l (Resume (Inside m)) i E = bounded_start T p d l (Resume m) i E
bounded_start T (Local s p) d l Start i E = (
  record { status = tt; value = tt; pre = refl; preval = refl },
  bounded_start T p d l Start i
      (put E s (solve T s (must_can T p Start i) E (unsolved false (T.first s)))),
)
bounded_start T (Local s p) d l (Resume (Scope m b w)) i E = (
  record { status = tt; value = tt; pre = refl; preval = refl },
  bounded_start T p d l (Resume m) i
      (put E s (solve T s (must_can T p (Resume m) i) E (unsolved b w))),
)
bounded_start T _ d l t i E = tt

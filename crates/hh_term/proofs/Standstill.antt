-- Two rounds of Solve reach the standstill: status and value can each rise once.
use Rattle.std.proofs.Common.{◌≡◌, refl, sym, ap, subst, ◌∙◌, ℕ, Bool, ◌⊎◌, inl, inr, ⊎_elim}
use Rattle.hh_base.specs.declared.value.Tri.{Tri}
use Rattle.hh_base.specs.declared.value.Tri.TheVariants.{Unknown, Zero, One}
use Rattle.hh_base.specs.declared.value.Value.{Value}
use Rattle.host_expr.specs.declared.cell.Cell.{Cell}
use Rattle.host_expr.specs.declared.cell.Cell.TheVariants as cell
use Rattle.host_expr.specs.declared.cell.SigCell.{SigCell}
use Rattle.host_expr.specs.Environment.{Env, unsolved}
use Rattle.host_expr.specs.Knows.{TriBelow, CellBelow, SignalBelow}
use Rattle.host_expr.proofs.Information.{env_refl}
use Rattle.hh_term.specs.MustCan.{Table, MustCan, Index, Executed, Possible, must_can, round, solve}
use Rattle.hh_term.specs.Knows.{IndexBelow}
use Rattle.hh_term.specs.Lawful.{TwoRoundsStandStill}
use Rattle.hh_term.proofs.Rounds.{Grows, round_up}
use Rattle.hh_term.proofs.MustCanLaws.{must_can_lawful, grows}

index_refl : (i : Index) → IndexBelow i i
index_refl Executed = refl
index_refl Possible = tt

tri_step : (y : Tri) → (y ≡ Unknown) ⊎ ((z : Tri) → TriBelow y z → z ≡ y)
tri_step Unknown = inl refl
tri_step Zero = inr (λ z h. h)
tri_step One = inr (λ z h. h)

cell_step : (y : Cell) → (y ≡ cell.Unknown) ⊎ ((z : Cell) → CellBelow y z → z ≡ y)
cell_step cell.Unknown = inl refl
cell_step (cell.Known v) = inr (λ z h. h)
cell_step (cell.Faulted p k) = inr (λ z h. h)

abbrev Same : SigCell → SigCell → Type 0
Same c d = (d.status ≡ c.status) × (d.value ≡ c.value)

-- from the unknown, by steps that only raise, the second step reaches the end
settled : (a b c d : SigCell) → a.status ≡ Unknown → a.value ≡ cell.Unknown → SignalBelow b c
    → SignalBelow c d → (Same a b → Same b c) → (Same b c → Same c d) → Same c d
settled a b c d us uv bc cd f g =
    ⊎_elim
    (λ yu. ⊎_elim
    (λ bu. g (f (yu ∙ sym us, bu ∙ sym uv)))
    (λ bk. let cb = bk c.value bc.value in ⊎_elim
    (λ zu. g (zu ∙ sym yu, cb))
    (λ zk. (
      zk d.status cd.status,
      subst (λ v. CellBelow v d.value → d.value ≡ v) (sym cb) (bk d.value) cd.value,
    ))
    (tri_step c.status))
    (cell_step b.value))
    (λ yk. let zy = yk c.status bc.status in ⊎_elim
    (λ cu. ⊎_elim
    (λ bu. g (zy, cu ∙ sym bu))
    (λ bk. g (zy, bk c.value bc.value))
    (cell_step b.value))
    (λ ck. (
      subst (λ v. TriBelow v d.status → d.status ≡ v) (sym zy) (yk d.status) cd.status,
      ck d.value cd.value,
    ))
    (cell_step c.value))
    (tri_step b.status)

same_cell : (c d : SigCell) → Same c d → c.pre ≡ d.pre → c.preval ≡ d.preval → d ≡ c
same_cell c d h p v =
    ap (λ x. let r : SigCell = record { status = x; value = d.value; pre = d.pre; preval = d.preval } in
    r) h.0
    ∙ ap (λ x. let r : SigCell = record {
      status = c.status;
      value = x;
      pre = d.pre;
      preval = d.preval;
    } in r) h.1
    ∙ ap (λ x. let r : SigCell = record {
      status = c.status;
      value = c.value;
      pre = x;
      preval = d.preval;
    } in r) (sym p)
    ∙ ap (λ x. let r : SigCell = record { status = c.status; value = c.value; pre = c.pre; preval = x } in
    r) (sym v)

-- a third round changes nothing
pub two_rounds : (T : Table) (s : ℕ) (p : Env → MustCan) (E : Env) (b : Bool) (v : Value) → Grows p p
    → round T s p E (solve T s p E (unsolved b v)) ≡ solve T s p E (unsolved b v)
two_rounds T s p E b v h =
    let turn : SigCell → SigCell = round T s p E in
    let c0 = unsolved b v in
    let c1 = turn c0 in
    let c2 = turn c1 in
    let c3 = turn c2 in
    let le1 : SignalBelow c0 c1 = record { status = tt; value = tt; pre = refl; preval = refl } in
    let le2 : SignalBelow c1 c2 = round_up T s p p E E c0 c1 h (env_refl E) le1 in
    let le3 : SignalBelow c2 c3 = round_up T s p p E E c1 c2 h (env_refl E) le2 in
    let same : Same c2 c3 =
    settled c0 c1 c2 c3 refl refl le2 le3
    (λ k. let e = ap turn (same_cell c0 c1 k refl refl) in
    (ap (λ c. c.status) e, ap (λ c. c.value) e))
    (λ k. let e = ap turn (same_cell c1 c2 k refl refl) in
    (ap (λ c. c.status) e, ap (λ c. c.value) e)) in
    same_cell c2 c3 same refl refl

pub two_rounds_stand_still : TwoRoundsStandStill
two_rounds_stand_still T p t i s E pre preval =
    two_rounds T s (must_can T p t i) E pre preval
    (grows (must_can T p t) (must_can_lawful T p t) i i (index_refl i))

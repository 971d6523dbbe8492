-- How much is unknown: each round that is not the last leaves less.
use Rattle.std.proofs.Common.{◌≡◌, refl, sym, ap, ◌∙◌, subst, ℕ, zero, suc, ◌+◌, ◌<◌, ◌≤◌, ◌⊎◌, inl, inr}
use Rattle.std.proofs.Common.{⊎_elim}
use Rattle.std.proofs.Common.{arith}
use Rattle.std.proofs.lemmas.Bool.{cases_lt}
use Rattle.hh_base.specs.declared.value.Tri.{Tri}
use Rattle.hh_base.specs.declared.value.Tri.TheVariants.{Unknown, Zero, One}
use Rattle.host_expr.specs.declared.cell.Cell.{Cell}
use Rattle.host_expr.specs.declared.cell.Cell.TheVariants as cell
use Rattle.host_expr.specs.declared.cell.SigCell.{SigCell}
use Rattle.host_expr.specs.Environment.{Env}
use Rattle.host_expr.specs.Knows.{TriBelow, CellBelow, SignalBelow}
use Rattle.status_table.specs.Flat.{Cells}

abbrev pub open_status : Tri → ℕ
open_status Unknown = 1
open_status _ = 0

abbrev pub open_value : Cell → ℕ
open_value cell.Unknown = 1
open_value _ = 0

abbrev pub unknowns : Tri × Cell → ℕ
unknowns v = open_status v.0 + open_value v.1

-- the sum over all numbers below
abbrev pub sum_below : ℕ → (ℕ → ℕ) → ℕ
sum_below zero f = 0
sum_below (suc n) f = f n + sum_below n f

-- what is unknown of the first signals of an environment, and in a table
abbrev pub left_in : ℕ → ℕ → ℕ → Env → Cells → ℕ
left_in I S N F τ =
    sum_below I (λ s. unknowns ((F s).status, (F s).value)) + sum_below N
    (λ n. sum_below S (λ s. unknowns (τ s n)))

abbrev pub Better : Tri × Cell → Tri × Cell → Type 0
Better x y = TriBelow x.0 y.0 × CellBelow x.1 y.1

status_less : (x y : Tri) → TriBelow x y → (x ≡ y) ⊎ (open_status y < open_status x)
status_less Unknown Unknown h = inl refl
status_less Unknown Zero h = inr (omega arith)
status_less Unknown One h = inr (omega arith)
status_less Zero y h = inl (sym h)
status_less One y h = inl (sym h)

value_less : (x y : Cell) → CellBelow x y → (x ≡ y) ⊎ (open_value y < open_value x)
value_less cell.Unknown cell.Unknown h = inl refl
value_less cell.Unknown (cell.Known v) h = inr (omega arith)
value_less cell.Unknown (cell.Faulted o k) h = inr (omega arith)
value_less (cell.Known v) y h = inl (sym h)
value_less (cell.Faulted o k) y h = inl (sym h)

-- the same, or less is unknown
pub pair_less : (x y : Tri × Cell) → Better x y → (x ≡ y) ⊎ (unknowns y < unknowns x)
pair_less x y h = ⊎_elim
    (λ e. ⊎_elim (λ f. inl (ap (λ z. (z, x.1)) e ∙ ap (λ z. (y.0, z)) f))
    (λ l. let g : open_status x.0 ≡ open_status y.0 = ap open_status e in inr (omega (arith, g, l)))
    (value_less x.1 y.1 h.1))
    (λ l. ⊎_elim (λ f. let g : open_value x.1 ≡ open_value y.1 = ap open_value f in inr (omega (arith, g, l)))
    (λ k. inr (omega (arith, k, l))) (value_less x.1 y.1 h.1))
    (status_less x.0 y.0 h.0)

pub pair_most : (x y : Tri × Cell) → Better x y → unknowns y ≤ unknowns x
pair_most x y h = ⊎_elim (λ e. let g : unknowns x ≡ unknowns y = ap unknowns e in omega (arith, g))
    (λ l. omega (arith, l)) (pair_less x y h)

pub pair_fewer : (x y : Tri × Cell) → Better x y → (y ≡ x → ⊥) → unknowns y < unknowns x
pair_fewer x y h other = ⊎_elim (λ e. absurd (other (sym e))) (λ l. l) (pair_less x y h)

pub sum_most : (n : ℕ) (f g : ℕ → ℕ) → ((k : ℕ) → g k ≤ f k) → sum_below n g ≤ sum_below n f
sum_most zero f g h = omega arith
sum_most (suc n) f g h = let a = h n in let b = sum_most n f g h in omega (arith, a, b)

pub sum_fewer : (n k : ℕ) (f g : ℕ → ℕ) → ((k : ℕ) → g k ≤ f k) → k < n → g k < f k → sum_below n g <
    sum_below
    n f
sum_fewer zero k f g h lt l = absurd (omega (arith, lt))
sum_fewer (suc n) k f g h lt l = ⊎_elim
    (λ below. let a = h n in let b = sum_fewer n k f g h below l in omega (arith, a, b))
    (λ here.
    let e : k ≡ n = omega (arith, here, lt) in
    let a : g n < f n = subst (λ z. g z < f z) e l in
    let b = sum_most n f g h in omega (arith, a, b))
    (cases_lt k n)

env_most : (I : ℕ) (F F' : Env) → ((s : ℕ) → SignalBelow (F s) (F' s)) → sum_below I
    (λ s. unknowns ((F' s).status, (F' s).value)) ≤ sum_below I (λ s. unknowns ((F s).status, (F s).value))
env_most I F F' h = sum_most I (λ s. unknowns ((F s).status, (F s).value))
    (λ s. unknowns ((F' s).status, (F' s).value))
    (λ s. pair_most ((F s).status, (F s).value) ((F' s).status, (F' s).value) ((h s).status, (h s).value))

table_most : (S N : ℕ) (τ τ' : Cells) → ((s n : ℕ) → Better (τ s n) (τ' s n)) → sum_below N
    (λ n. sum_below S (λ s. unknowns (τ' s n))) ≤ sum_below N (λ n. sum_below S (λ s. unknowns (τ s n)))
table_most S N τ τ' h = sum_most N (λ n. sum_below S (λ s. unknowns (τ s n)))
    (λ n. sum_below S (λ s. unknowns (τ' s n)))
    (λ n. sum_most S (λ s. unknowns (τ s n)) (λ s. unknowns (τ' s n)) (λ s. pair_most (τ s n) (τ' s n)
    (h s n)))

abbrev shown : SigCell → Tri × Cell
shown c = (c.status, c.value)

same_signal : (c d : SigCell) → SignalBelow c d → shown d ≡ shown c → d ≡ c
same_signal c d h e =
    ap (λ x. let r : SigCell = record { status = x.0; value = x.1; pre = d.pre; preval = d.preval } in r) e
    ∙ ap (λ x. let r : SigCell = record { status = c.status; value = c.value; pre = x; preval = d.preval } in
    r)
    (sym h.pre)
    ∙ ap (λ x. let r : SigCell = record { status = c.status; value = c.value; pre = c.pre; preval = x } in r)
    (sym h.preval)

-- a cell of the environment changed
pub fewer_in_env : (I S N s : ℕ) (F F' : Env) (τ τ' : Cells) → ((s : ℕ) → SignalBelow (F s) (F' s)) →
    ((s n : ℕ) → Better (τ s n) (τ' s n)) → s < I → (F' s ≡ F s → ⊥) → left_in I S N F' τ' < left_in I S N F τ
fewer_in_env I S N s F F' τ τ' h g lt other =
    let a = sum_fewer I s (λ s. unknowns ((F s).status, (F s).value))
    (λ s. unknowns ((F' s).status, (F' s).value))
    (λ s. pair_most ((F s).status, (F s).value) ((F' s).status, (F' s).value) ((h s).status, (h s).value)) lt
    (pair_fewer ((F s).status, (F s).value) ((F' s).status, (F' s).value) ((h s).status, (h s).value)
    (λ e. other (same_signal (F s) (F' s) (h s) e))) in
    let b = table_most S N τ τ' g in
    omega (arith, a, b)

-- a place of the table changed
pub fewer_in_table : (I S N s n : ℕ) (F F' : Env) (τ τ' : Cells) → ((s : ℕ) → SignalBelow (F s) (F' s)) →
    ((s n : ℕ) → Better (τ s n) (τ' s n)) → s < S → n < N → (τ' s n ≡ τ s n → ⊥) → left_in I S N F' τ' <
    left_in
    I S N F τ
fewer_in_table I S N s n F F' τ τ' h g ls ln other =
    let a = env_most I F F' h in
    let b = sum_fewer N n (λ n. sum_below S (λ s. unknowns (τ s n))) (λ n. sum_below S (λ s. unknowns
    (τ' s n)))
    (λ n. sum_most S (λ s. unknowns (τ s n)) (λ s. unknowns (τ' s n)) (λ s. pair_most (τ s n) (τ' s n)
    (h' s n)))
    ln (sum_fewer S s (λ s. unknowns (τ s n)) (λ s. unknowns (τ' s n))
    (λ s. pair_most (τ s n) (τ' s n) (g s n)) ls (pair_fewer (τ s n) (τ' s n) (g s n) other)) in
    omega (arith, a, b)
  where
    h' : (s n : ℕ) → Better (τ s n) (τ' s n)
    h' s n = g s n

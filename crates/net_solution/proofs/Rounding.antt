-- Rounds: each computes what the equations give, and the last one changes nothing.
use Rattle.std.proofs.Common.{◌≡◌, refl, sym, ap, subst, ◌∙◌, ℕ, zero, suc, ◌+◌, ◌≤◌, ◌<◌, ◌⊎◌, inl, inr}
use Rattle.std.proofs.Common.{⊎_elim, Bool, true, false, cond, not, ◌||◌, List, []}
use Rattle.std.proofs.Common.{◌∷◌, ◌++◌, map, get_or, slice_get, length, take, filter, nat_lt, arith}
use Rattle.std.proofs.lemmas.List.{take_more, flat_map_more, length-take-le}
use Rattle.std.proofs.lemmas.Bool.{cases_lt, lt-ltb, ltb-true}
use Rattle.std.specs.List.{flat_map}
use Rattle.hh_base.specs.declared.value.Tri.{Tri}
use Rattle.hh_base.specs.declared.value.Tri.TheVariants.{Unknown, Zero, One}
use Rattle.host_expr.specs.declared.cell.Cell.{Cell}
use Rattle.host_expr.specs.declared.cell.Cell.TheVariants as cell
use Rattle.host_expr.specs.declared.cell.SigCell.{SigCell}
use Rattle.host_expr.specs.Environment.{is_decided, is_known}
use Rattle.host_expr.specs.Knows.{TriBelow, CellBelow}
use Rattle.net_list.specs.declared.record.NetSignal.{NetSignal}
use Rattle.net_list.specs.declared.record.NetRecords.{NetRecords}
use Rattle.net_solution.specs.Question.{Question}
use Rattle.net_solution.specs.Seen.{View}
use Rattle.net_solution.specs.Equations.{Statuses, seen_signal, signal_value}
use Rattle.net_solution.specs.Solution.{Valuation, seen_at, view_of, numbered, given_by}
use Rattle.net_solution.specs.Solution.{IsBelow, IsLeast}
use Rattle.net_solution.specs.Places.{seen_by}
use Rattle.net_solution.specs.Rounds.{cell_given, known_given, open_gates, open_cells, open_values, has_more}
use Rattle.net_solution.specs.Solution.{HasSizes, Rises}
use Rattle.net_solution.proofs.Least.{given_sizes, rises_by_all, stands_least, below_same, nothing_rises}

numbered_append : {X Y : Type 0} (f : ℕ → X → Y) (m : ℕ) (xs : List X) (y : X)
    → numbered f m (xs ++ y ∷ []) ≡ numbered f m xs ++ f (m + length xs) y ∷ []
numbered_append f m [] y = let e : m ≡ m + 0 = omega arith in ap (λ n. f n y ∷ []) e
numbered_append f m (x ∷ xs) y =
    let e : suc m + length xs ≡ m + suc (length xs) = omega arith in
    ap (λ ys. f m x ∷ ys)
    (numbered_append f (suc m) xs y ∙ ap (λ n. numbered f (suc m) xs ++ f n y ∷ []) e)

pub numbered_step : {X Y : Type 0} (f : ℕ → X → Y) (xs : List X) (i : ℕ) (x : X) → i < length xs → x ≡
    get_or xs i x
    → numbered f 0 (take (i + 1) xs) ≡ numbered f 0 (take i xs) ++ f i x ∷ []
numbered_step f xs i x l read =
    let len : 0 + length (take i xs) ≡ i = let e = length-take-le i xs (omega (arith, l)) in omega
    (arith, e) in
    ap (numbered f 0) (take_more xs i x l) ∙ numbered_append f 0 (take i xs) (get_or xs i x)
    ∙ λ j. numbered f 0 (take i xs) ++ f (len j) (sym read j) ∷ []

pub flat_step : {X A : Type 0} (f : X → List A) (bs : List A) (xs : List X) (i : ℕ) (x : X) → i < length xs
    → x ≡ get_or xs i x
    → (bs ++ flat_map f (take i xs)) ++ f x ≡ bs ++ flat_map f (take (i + 1) xs)
flat_step f bs xs i x l read =
    flat_map_more f bs (take i xs) x
    ∙ ap (λ ys. bs ++ flat_map f ys) (ap (λ y. take i xs ++ y ∷ []) read ∙ sym (take_more xs i x l))

-- the values of cells that a round gives
values_numbered : {X : Type 0} (f : ℕ → X → SigCell) (g : ℕ → X → Cell) →
    ((n : ℕ) (x : X) → (f n x).value ≡ g n x)
    → (m : ℕ) (xs : List X) → map (λ c. c.value) (numbered f m xs) ≡ numbered g m xs
values_numbered f g h m [] = refl
values_numbered f g h m (x ∷ xs) = λ i. h m x i ∷ values_numbered f g h (suc m) xs i

module _ (N : NetRecords) (Q : Question) (γ : Statuses) (V : View) (δ : Statuses) where
  look : (m : ℕ) (ds : List NetSignal) (n k : ℕ) → k ≡ m + n
      → seen_by (numbered (cell_given N Q γ V δ) m ds) (map (known_given δ) ds) n
      ≡ seen_at Q δ (get_or (numbered (signal_value N Q γ V) m ds) n cell.Unknown) k (slice_get ds n)
  look m [] n k e = refl
  look m (d ∷ ds) zero k e =
      let same : m ≡ k = omega (arith, e) in
      ap (λ j. seen_signal Q δ (signal_value N Q γ V m d) j d) same
  look m (d ∷ ds) (suc n) k e = look (suc m) ds n k (omega (arith, e))

  pub values_are : (ds : List NetSignal)
      → map (λ c. c.value) (numbered (cell_given N Q γ V δ) 0 ds) ≡ numbered (signal_value N Q γ V) 0 ds
  values_are ds = values_numbered (cell_given N Q γ V δ) (signal_value N Q γ V) (λ n d. refl) 0 ds

  -- what a round gives is seen as its valuation says
  pub exact : (gates : List Tri) → δ ≡ (λ g. get_or gates g Unknown) → (values : List Cell)
      → values ≡ numbered (signal_value N Q γ V) 0 N.signals → (s : ℕ)
      → seen_by (numbered (cell_given N Q γ V δ) 0 N.signals) (map (known_given δ) N.signals) s
      ≡ view_of N Q (record { gates = gates; values = values }) s
  exact gates d values e s =
      look 0 N.signals s s (omega arith)
      ∙ λ i. seen_at Q (d i) (get_or (sym e i) s cell.Unknown) s (slice_get N.signals s)

module _ {X : Type 0} (known : X → Bool) (B : X → X → Type 0) (d : X)
    (less : (x y : X) → B x y → (x ≡ y) ⊎ ((known x ≡ false) × (known y ≡ true))) where
  abbrev pub open_count : List X → ℕ
  open_count xs = length (filter (λ x. not (known x)) xs)

  count_cons : (x : X) (xs : List X) (b : Bool) → known x ≡ b → open_count (x ∷ xs) ≡ cond b 0 1 +
      open_count xs
  count_cons x xs true e = ap (λ z. length (cond (not z) (x ∷ filter (λ x. not (known x)) xs)
      (filter (λ x. not (known x)) xs))) e ∙ omega arith
  count_cons x xs false e = ap (λ z. length (cond (not z) (x ∷ filter (λ x. not (known x)) xs)
      (filter (λ x. not (known x)) xs))) e ∙ omega arith

  pub fewer : (xs ys : List X) → length xs ≡ length ys → ((n : ℕ) → B (get_or xs n d) (get_or ys n d))
      → (open_count ys ≤ open_count xs) × (open_count xs ≤ open_count ys → xs ≡ ys)
  fewer [] [] e h = (omega arith, λ l. refl)
  fewer [] (y ∷ ys) e h = absurd (omega (arith, e))
  fewer (x ∷ xs) [] e h = absurd (omega (arith, e))
  fewer (x ∷ xs) (y ∷ ys) e h =
      let rest = fewer xs ys (omega (arith, e)) (λ n. h (suc n)) in
      ⊎_elim (λ same. by_same rest same (known x) refl) (λ more. by_more rest more) (less x y (h 0))
    where
      by_same : (open_count ys ≤ open_count xs) × (open_count xs ≤ open_count ys → xs ≡ ys) → x ≡ y →
          (b : Bool) → known x ≡ b
          → (open_count (y ∷ ys) ≤ open_count (x ∷ xs)) × (open_count (x ∷ xs) ≤ open_count (y ∷ ys) → x ∷
          xs ≡ y ∷ ys)
      by_same rest same b e =
          let cx = count_cons x xs b e in
          let cy = count_cons y ys b (ap known (sym same) ∙ e) in
          let le = rest.0 in (
            omega (arith, cx, cy, le),
            λ l. let tail = rest.1 (omega (arith, cx, cy, l)) in λ i. same i ∷
                tail i,
          )

      by_more : (open_count ys ≤ open_count xs) × (open_count xs ≤ open_count ys → xs ≡ ys) →
          (known x ≡ false) × (known y ≡ true)
          → (open_count (y ∷ ys) ≤ open_count (x ∷ xs)) × (open_count (x ∷ xs) ≤ open_count (y ∷ ys) → x ∷
          xs ≡ y ∷ ys)
      by_more rest more =
          let cx = count_cons x xs false more.0 in
          let cy = count_cons y ys true more.1 in
          let le = rest.0 in
          (omega (arith, cx, cy, le), λ l. absurd (omega (arith, cx, cy, le, l)))

tri_less : (x y : Tri) → TriBelow x y → (x ≡ y) ⊎ ((is_decided x ≡ false) × (is_decided y ≡ true))
tri_less Unknown Unknown h = inl refl
tri_less Unknown Zero h = inr (refl, refl)
tri_less Unknown One h = inr (refl, refl)
tri_less Zero y h = inl (sym h)
tri_less One y h = inl (sym h)

cell_less : (x y : Cell) → CellBelow x y → (x ≡ y) ⊎ ((is_known x ≡ false) × (is_known y ≡ true))
cell_less cell.Unknown cell.Unknown h = inl refl
cell_less cell.Unknown (cell.Known v) h = inr (refl, refl)
cell_less cell.Unknown (cell.Faulted p k) h = inr (refl, refl)
cell_less (cell.Known v) y h = inl (sym h)
cell_less (cell.Faulted p k) y h = inl (sym h)

pub gates_fewer : (N : NetRecords) (v w : Valuation) → HasSizes N v → HasSizes N w → IsBelow v w
    → (open_gates w.gates ≤ open_gates v.gates) × (open_gates v.gates ≤ open_gates w.gates → v.gates ≡
    w.gates)
gates_fewer N v w sv sw h = fewer is_decided TriBelow Unknown tri_less v.gates w.gates
    (sv.gates ∙ sym sw.gates) h.gates

pub values_fewer : (N : NetRecords) (v w : Valuation) → HasSizes N v → HasSizes N w → IsBelow v w
    → (open_values w.values ≤ open_values v.values) × (open_values v.values ≤ open_values w.values →
    v.values ≡ w.values)
values_fewer N v w sv sw h = fewer is_known CellBelow cell.Unknown cell_less v.values w.values
    (sv.values ∙ sym sw.values) h.values

pub open_map : (cs : List SigCell) → open_cells cs ≡ open_values (map (λ c. c.value) cs)
open_map [] = refl
open_map (c ∷ cs) = by_test (open_map cs) (not (is_known c.value))
  where
    by_test : open_cells cs ≡ open_values (map (λ c. c.value) cs) → (b : Bool)
        → length (cond b (c ∷ filter (λ x. not (is_known x.value)) cs)
        (filter (λ x. not (is_known x.value)) cs))
        ≡ length (cond b (c.value ∷ filter (λ x. not (is_known x)) (map (λ x. x.value) cs))
        (filter (λ x. not (is_known x)) (map (λ x. x.value) cs)))
    by_test e true = ap suc e
    by_test e false = e

-- how much is unknown
abbrev pub left_open : Valuation → ℕ
left_open v = open_gates v.gates + open_values v.values

-- what a loop of rounds keeps
pub record Rounded (N : NetRecords) (Q : Question) (v : Valuation) : Type 0 where
  pub sizes : HasSizes N v
  pub rises : Rises N Q v

pub rounds_begin : (N : NetRecords) (Q : Question) (v : Valuation)
    → v ≡ given_by N Q (record { gates = []; values = [] }) → Rounded N Q v
rounds_begin N Q v e =
    let nothing : Valuation = record { gates = []; values = [] } in
    subst (Rounded N Q) (sym e)
    (record {
      sizes = given_sizes N Q nothing;
      rises = rises_by_all N Q nothing
          (nothing_rises N Q nothing (λ g. refl) (λ s. refl));
    })

pub rounds_go_on : (N : NetRecords) (Q : Question) (v w : Valuation) → Rounded N Q v → w ≡ given_by N Q v
    → Rounded N Q w
rounds_go_on N Q v w r e =
    subst (Rounded N Q) (sym e) (record { sizes = given_sizes N Q v; rises = rises_by_all N Q v r.rises })

or_either : (a b : Bool) → (a || b) ≡ true → (a ≡ true) ⊎ (b ≡ true)
or_either true b h = inl refl
or_either false b h = inr h

or_none : (a b : Bool) → (a || b) ≡ false → (a ≡ false) × (b ≡ false)
or_none true b h = cc
or_none false b h = (refl, h)

pub less_open : (N : NetRecords) (Q : Question) (v w : Valuation) → Rounded N Q v → w ≡ given_by N Q v
    → has_more w v ≡ true → left_open w < left_open v
less_open N Q v w r e h =
    let sw = subst (HasSizes N) (sym e) (given_sizes N Q v) in
    let below = subst (IsBelow v) (sym e) r.rises.next in
    let gates = (gates_fewer N v w r.sizes sw below).0 in
    let values = (values_fewer N v w r.sizes sw below).0 in
    ⊎_elim (λ t. let l = ltb-true (open_gates w.gates) (open_gates v.gates) t in omega (arith, l, values))
    (λ t. let l = ltb-true (open_values w.values) (open_values v.values) t in omega (arith, l, gates))
    (or_either (nat_lt (open_gates w.gates) (open_gates v.gates))
    (nat_lt (open_values w.values) (open_values v.values)) h)

not_less : (m n : ℕ) → nat_lt m n ≡ false → n ≤ m
not_less m n e = ⊎_elim (λ l. absurd (let yes : nat_lt m n ≡ true = lt-ltb m n l in let no : ⊥ = cc in no))
    (λ l. l) (cases_lt m n)

pub rounds_end : (N : NetRecords) (Q : Question) (v w : Valuation) → Rounded N Q v → w ≡ given_by N Q v
    → has_more w v ≡ false → IsLeast N Q w
rounds_end N Q v w r e h =
    let sw = subst (HasSizes N) (sym e) (given_sizes N Q v) in
    let below = subst (IsBelow v) (sym e) r.rises.next in
    let none = or_none (nat_lt (open_gates w.gates) (open_gates v.gates))
    (nat_lt (open_values w.values) (open_values v.values)) h in
    let gates = (gates_fewer N v w r.sizes sw below).1 (not_less (open_gates w.gates) (open_gates v.gates)
    none.0) in
    let values = (values_fewer N v w r.sizes sw below).1 (not_less (open_values w.values)
    (open_values v.values) none.1) in
    let same : v ≡ w = λ i. record { gates = gates i; values = values i } in
    subst (IsLeast N Q) same
    (stands_least N Q v r.sizes r.rises (below_same (given_by N Q v) v (sym (same ∙ e))))

-- The least solution: there is one at most, and what rises to a standstill comes to it.
use Rattle.std.proofs.Common.{◌≡◌, refl, sym, ap, subst, ◌∙◌, ℕ, suc}
use Rattle.std.proofs.Common.{List, [], ◌∷◌, map, get_or, length, arith}
use Rattle.hh_base.specs.declared.value.Tri.{Tri}
use Rattle.hh_base.specs.declared.value.Tri.TheVariants.{Unknown}
use Rattle.host_expr.specs.declared.cell.Cell.{Cell}
use Rattle.host_expr.specs.declared.cell.Cell.TheVariants as cell
use Rattle.host_expr.specs.Knows.{TriBelow, CellBelow}
use Rattle.net_list.specs.declared.record.NetRecords.{NetRecords}
use Rattle.net_solution.specs.Question.{Question}
use Rattle.net_solution.specs.Solution.{Valuation, statuses, value_at, numbered, given_by, IsSolution}
use Rattle.net_solution.specs.Solution.{IsBelow}
use Rattle.net_solution.specs.Solution.{IsLeast, OneLeast, HasSizes, Rises, NothingRises}
use Rattle.net_solution.proofs.Truths.{tri_is, cell_is, tri_trans, cell_trans, tri_antisym, cell_antisym}
use Rattle.net_solution.proofs.Rising.{equations_rise}

length_map : {X Y : Type 0} (f : X → Y) (xs : List X) → length (map f xs) ≡ length xs
length_map f [] = refl
length_map f (x ∷ xs) = ap suc (length_map f xs)

pub length_numbered : {X Y : Type 0} (f : ℕ → X → Y) (n : ℕ) (xs : List X) → length (numbered f n xs) ≡ length xs
length_numbered f n [] = refl
length_numbered f n (x ∷ xs) = ap suc (length_numbered f (suc n) xs)

pub given_sizes : (N : NetRecords) (Q : Question) (v : Valuation) → HasSizes N (given_by N Q v)
given_sizes N Q v = record { gates = length_map _ N.gates; values = length_numbered _ 0 N.signals }

pub solution_sizes : (N : NetRecords) (Q : Question) (v : Valuation) → IsSolution N Q v → HasSizes N v
solution_sizes N Q v h = subst (HasSizes N) (sym h) (given_sizes N Q v)

no_more : {X : Type 0} (x : X) (xs : List X) → 0 ≡ suc (length xs) → ⊥
no_more x xs e = omega (arith, e)

one_less : (m n : ℕ) → suc m ≡ suc n → m ≡ n
one_less m n e = omega (arith, e)

pub same_items : {X : Type 0} (d : X) (xs ys : List X) → length xs ≡ length ys
    → ((n : ℕ) → get_or xs n d ≡ get_or ys n d) → xs ≡ ys
same_items d [] [] e h = refl
same_items d [] (y ∷ ys) e h = absurd (no_more y ys e)
same_items d (x ∷ xs) [] e h = absurd (no_more x xs (sym e))
same_items d (x ∷ xs) (y ∷ ys) e h =
    λ i. h 0 i ∷ same_items d xs ys (one_less (length xs) (length ys) e) (λ n. h (suc n)) i

pub same_valuation : (N : NetRecords) (v w : Valuation) → HasSizes N v → HasSizes N w → IsBelow v w →
    IsBelow w v
    → v ≡ w
same_valuation N v w sv sw h k =
    let gates = same_items Unknown v.gates w.gates (sv.gates ∙ sym sw.gates)
    (λ g. tri_antisym (statuses v g) (statuses w g) (h.gates g) (k.gates g)) in
    let values = same_items cell.Unknown v.values w.values (sv.values ∙ sym sw.values)
    (λ s. cell_antisym (value_at v s) (value_at w s) (h.values s) (k.values s)) in
    λ i. record { gates = gates i; values = values i }

pub one_least : OneLeast
one_least N Q v w h k =
    same_valuation N v w (solution_sizes N Q v h.solution) (solution_sizes N Q w k.solution)
    (h.below w k.solution) (k.below v h.solution)

pub below_same : (v w : Valuation) → v ≡ w → IsBelow v w
below_same v w e =
    record {
      gates = λ g. tri_is (statuses v g) (statuses w g) (ap (λ x. statuses x g) (sym e));
      values = λ s. cell_is (value_at v s) (value_at w s) (ap (λ x. value_at x s) (sym e));
    }

pub below_trans : (u v w : Valuation) → IsBelow u v → IsBelow v w → IsBelow u w
below_trans u v w h k =
    record {
      gates = λ g. tri_trans (statuses u g) (statuses v g) (statuses w g) (h.gates g) (k.gates g);
      values = λ s. cell_trans (value_at u s) (value_at v s) (value_at w s) (h.values s) (k.values s);
    }

-- what stands between such a one and what the equations give under it rises too
pub rises_on : (N : NetRecords) (Q : Question) (v w : Valuation) → Rises N Q v → IsBelow v w
    → IsBelow w (given_by N Q v) → Rises N Q w
rises_on N Q v w r h k =
    record {
      next = below_trans w (given_by N Q v) (given_by N Q w) k (equations_rise N Q v w h);
      below = λ u solution.
          below_trans w (given_by N Q v) u k
          (below_trans (given_by N Q v) (given_by N Q u) u (equations_rise N Q v u (r.below u solution))
          (below_same (given_by N Q u) u (sym solution)));
    }

pub rises_by_all : (N : NetRecords) (Q : Question) (v : Valuation) → Rises N Q v → Rises N Q (given_by N Q v)
rises_by_all N Q v r =
    rises_on N Q v (given_by N Q v) r r.next (below_same (given_by N Q v) (given_by N Q v) refl)

-- where it stands still, it is the least solution
pub stands_least : (N : NetRecords) (Q : Question) (v : Valuation) → HasSizes N v → Rises N Q v
    → IsBelow (given_by N Q v) v → IsLeast N Q v
stands_least N Q v sizes r h =
    record {
      solution = same_valuation N v (given_by N Q v) sizes (given_sizes N Q v) r.next h;
      below = r.below;
    }

unknown_below : (x y : Tri) → x ≡ Unknown → TriBelow x y
unknown_below x y e = subst (λ t. TriBelow t y) (sym e) tt

unknown_under : (x y : Cell) → x ≡ cell.Unknown → CellBelow x y
unknown_under x y e = subst (λ c. CellBelow c y) (sym e) tt

pub nothing_below : (v w : Valuation) → ((g : ℕ) → statuses v g ≡ Unknown) →
    ((s : ℕ) → value_at v s ≡ cell.Unknown)
    → IsBelow v w
nothing_below v w g s =
    record {
      gates = λ n. unknown_below (statuses v n) (statuses w n) (g n);
      values = λ n. unknown_under (value_at v n) (value_at w n) (s n);
    }

pub nothing_rises : NothingRises
nothing_rises N Q v g s =
    record {
      next = nothing_below v (given_by N Q v) g s;
      below = λ w solution. nothing_below v w g s;
    }

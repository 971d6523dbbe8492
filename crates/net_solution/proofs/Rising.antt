-- Where more is known, the equations give more.
use Rattle.std.proofs.Common.{◌≡◌, refl, sym, ap, ◌∙◌, ℕ, zero, suc, true}
use Rattle.std.proofs.Common.{Option, Some, None, List, [], ◌∷◌, map, get_or, slice_get, ◌==◌}
use Rattle.std.specs.List.{list_any, list_all, flat_map}
use Rattle.hh_base.specs.declared.value.Kind.{Kind}
use Rattle.hh_base.specs.declared.value.Value.TheVariants as value
use Rattle.hh_base.specs.declared.value.Tri.{Tri}
use Rattle.hh_base.specs.declared.value.Tri.TheVariants.{Unknown, Zero, One}
use Rattle.host_expr.specs.declared.cell.Cell.{Cell}
use Rattle.host_expr.specs.declared.cell.Cell.TheVariants as cell
use Rattle.host_expr.specs.Expression.{expression_of}
use Rattle.host_expr.specs.Environment.{is_decided, is_present}
use Rattle.host_expr.specs.Knows.{TriBelow, CellBelow}
use Rattle.net_list.specs.declared.gate.NetGate.{NetGate}
use Rattle.net_list.specs.declared.gate.NetGate.TheVariants as gate
use Rattle.net_list.specs.declared.record.Sent.{Sent}
use Rattle.net_list.specs.declared.record.Sent.TheVariants as sent
use Rattle.net_list.specs.declared.record.NetSignal.{NetSignal}
use Rattle.net_list.specs.declared.record.NetTest.{NetTest}
use Rattle.net_list.specs.declared.record.NetRecords.{NetRecords}
use Rattle.net_solution.specs.Question.{Question, first_item, state_of, is_given, is_last_item}
use Rattle.net_solution.specs.Question.{is_part_item}
use Rattle.net_solution.specs.Seen.{View, base_seen}
use Rattle.net_solution.specs.Equations.{Statuses, is_absent, status_of_truth, and_over, or_over, test_status}
use Rattle.net_solution.specs.Equations.{tested, gate_value, carried, emission_of, input_of, emissions_of}
use Rattle.net_solution.specs.Equations.{signal_value, base_value, last_value}
use Rattle.net_solution.specs.Solution.{Valuation, statuses, value_at, seen_at, view_of, numbered, given_by}
use Rattle.net_solution.specs.Solution.{IsBelow}
use Rattle.net_solution.proofs.Truths.{tri_is, decided_same, any_from, all_from, none_from}
use Rattle.net_solution.proofs.Truths.{absent_up}
use Rattle.net_solution.proofs.Truths.{present_up, present_not_absent, absent_not_present, opposite_up}
use Rattle.net_solution.proofs.Truths.{picked_up}
use Rattle.net_solution.proofs.Reading.{base_up, expression_up}
use Rattle.net_solution.specs.Seen.{SeenBelow, ViewBelow}
use Rattle.net_solution.proofs.Emitting.{EachBelow, each_append, each_same, each_flat}
use Rattle.net_solution.proofs.Emitting.{one_where}
use Rattle.net_solution.proofs.Emitting.{value_up}

test_up : (c d : Cell) → CellBelow c d → TriBelow (test_status c) (test_status d)
test_up cell.Unknown d h = tt
test_up (cell.Known v) d h = tri_is (test_status (cell.Known v)) (test_status d) (ap test_status h)
test_up (cell.Faulted p k) d h = ap test_status h

tri_same : (x : Tri) → TriBelow x x
tri_same x = tri_is x x refl

module _ (N : NetRecords) (Q : Question) (γ δ : Statuses) (V W : View)
    (less : (g : ℕ) → TriBelow (γ g) (δ g)) (up : ViewBelow V W) where
  and_rises : (gs : List ℕ) → TriBelow (and_over γ gs) (and_over δ gs)
  and_rises gs =
      picked_up Zero One (list_any (λ g. is_absent (γ g)) gs) (list_any (λ g. is_absent (δ g)) gs)
      (list_all (λ g. is_present (γ g)) gs) (list_all (λ g. is_present (δ g)) gs)
      (any_from (λ g. is_absent (γ g)) (λ g. is_absent (δ g)) (λ g. absent_up (γ g) (δ g) (less g)) gs)
      (all_from (λ g. is_present (γ g)) (λ g. is_present (δ g)) (λ g. present_up (γ g) (δ g) (less g)) gs)
      (none_from (λ g. is_present (γ g)) (λ g. is_absent (δ g))
      (λ g. present_not_absent (γ g) (δ g) (less g)) gs)

  or_rises : (gs : List ℕ) → TriBelow (or_over γ gs) (or_over δ gs)
  or_rises gs =
      picked_up One Zero (list_any (λ g. is_present (γ g)) gs) (list_any (λ g. is_present (δ g)) gs)
      (list_all (λ g. is_absent (γ g)) gs) (list_all (λ g. is_absent (δ g)) gs)
      (any_from (λ g. is_present (γ g)) (λ g. is_present (δ g)) (λ g. present_up (γ g) (δ g) (less g)) gs)
      (all_from (λ g. is_absent (γ g)) (λ g. is_absent (δ g)) (λ g. absent_up (γ g) (δ g) (less g)) gs)
      (none_from (λ g. is_absent (γ g)) (λ g. is_present (δ g))
      (λ g. absent_not_present (γ g) (δ g) (less g)) gs)

  tested_up : (t : Option NetTest) → CellBelow (tested V t) (tested W t)
  tested_up (Some t) = expression_up V W up (expression_of t.expr)
  tested_up None = tt

  pub gate_rises : (x : NetGate) → TriBelow (gate_value N Q γ V x) (gate_value N Q δ W x)
  gate_rises gate.Zero = refl
  gate_rises gate.One = refl
  gate_rises (gate.Not g) = opposite_up (γ g) (δ g) (less g)
  gate_rises (gate.And gs) = and_rises gs
  gate_rises (gate.Or gs) = or_rises gs
  gate_rises (gate.Reg r) = tri_same (status_of_truth (state_of Q r))
  gate_rises (gate.Test t) =
      test_up (tested V (slice_get N.tests t)) (tested W (slice_get N.tests t))
      (tested_up (slice_get N.tests t))
  gate_rises (gate.Input s) = tri_same (status_of_truth (is_given Q s))
  gate_rises (gate.Answer x) = tri_same (status_of_truth (is_last_item (first_item Q x)))
  gate_rises (gate.Part x) = tri_same (status_of_truth (is_part_item (first_item Q x)))

  carried_up : (k : Kind) (x : Sent) → CellBelow (carried Q V k x) (carried Q W k x)
  carried_up k sent.Nothing = refl
  carried_up k (sent.Computed e) = expression_up V W up (expression_of e)
  carried_up k (sent.Answer x) = refl

  emissions_up : (k : Kind) (s : ℕ) → EachBelow (emissions_of N Q γ V k s) (emissions_of N Q δ W k s)
  emissions_up k s =
      each_append (flat_map (input_of s) Q.given) (flat_map (input_of s) Q.given)
      (flat_map (emission_of Q γ V k s) N.emits) (flat_map (emission_of Q δ W k s) N.emits)
      (each_same (flat_map (input_of s) Q.given))
      (each_flat (emission_of Q γ V k s) (emission_of Q δ W k s)
      (λ e. one_where (e.signal == s) (γ e.control, carried Q V k e.sent) (δ e.control, carried Q W k e.sent)
      (record { control = less e.control; carried = carried_up k e.sent })) N.emits)

  pub signal_rises : (s : ℕ) (d : NetSignal) → CellBelow (signal_value N Q γ V s d) (signal_value N Q δ W s d)
  signal_rises s d =
      value_up d.decl.kind d.decl.combine (base_seen (V s)) (base_seen (W s))
      (emissions_of N Q γ V d.decl.kind s)
      (emissions_of N Q δ W d.decl.kind s) (base_up (V s) (W s) (up s)) (emissions_up d.decl.kind s)

-- a status that is known is known in both, and what depends on it is the same
decided_keeps : {X : Type 0} (f : Tri → X) (x y : Tri) → TriBelow x y → is_decided x ≡ true
    → (is_decided y ≡ true) × (f x ≡ f y)
decided_keeps f x y h e =
    let same = decided_same x y h e in
    (ap is_decided same ∙ e, ap f (sym same))

pub seen_rises : (Q : Question) (γ δ : Statuses) (c d : Cell) (s : ℕ) → ((g : ℕ) → TriBelow (γ g) (δ g))
    → CellBelow c d → (o : Option NetSignal) → SeenBelow (seen_at Q γ c s o) (seen_at Q δ d s o)
seen_rises Q γ δ c d s less h (Some x) =
    record {
      status = less x.status;
      value = h;
      pre = decided_keeps is_present (γ x.pre) (δ x.pre) (less x.pre);
      base = decided_keeps (λ t. base_value t x.decl.first (last_value Q s)) (γ x.sel) (δ x.sel) (less x.sel);
    }
seen_rises Q γ δ c d s less h None =
    record { status = tt; value = tt; pre = λ e. cc; base = λ e. cc }

pub view_rises : (N : NetRecords) (Q : Question) (v w : Valuation) → IsBelow v w → ViewBelow (view_of N Q v)
    (view_of N Q w)
view_rises N Q v w h s =
    seen_rises Q (statuses v) (statuses w) (value_at v s) (value_at w s) s h.gates (h.values s)
    (slice_get N.signals s)

pub map_rises : {X : Type 0} (f g : X → Tri) → ((x : X) → TriBelow (f x) (g x)) → (xs : List X) (n : ℕ)
    → TriBelow (get_or (map f xs) n Unknown) (get_or (map g xs) n Unknown)
map_rises f g h [] n = tt
map_rises f g h (x ∷ xs) zero = h x
map_rises f g h (x ∷ xs) (suc n) = map_rises f g h xs n

pub numbered_rises : {X : Type 0} (f g : ℕ → X → Cell) → ((n : ℕ) (x : X) → CellBelow (f n x) (g n x))
    → (m : ℕ) (xs : List X) (n : ℕ)
    → CellBelow (get_or (numbered f m xs) n cell.Unknown) (get_or (numbered g m xs) n cell.Unknown)
numbered_rises f g h m [] n = tt
numbered_rises f g h m (x ∷ xs) zero = h m x
numbered_rises f g h m (x ∷ xs) (suc n) = numbered_rises f g h (suc m) xs n

pub equations_rise : (N : NetRecords) (Q : Question) (v w : Valuation) → IsBelow v w
    → IsBelow (given_by N Q v) (given_by N Q w)
equations_rise N Q v w h =
    let up = view_rises N Q v w h in
    record {
      gates =
          map_rises (gate_value N Q (statuses v) (view_of N Q v))
          (gate_value N Q (statuses w) (view_of N Q w))
          (gate_rises N Q (statuses v) (statuses w) (view_of N Q v) (view_of N Q w) h.gates up) N.gates;
      values =
          numbered_rises (signal_value N Q (statuses v) (view_of N Q v))
          (signal_value N Q (statuses w) (view_of N Q w))
          (signal_rises N Q (statuses v) (statuses w) (view_of N Q v) (view_of N Q w) h.gates up) 0 N.signals;
    }

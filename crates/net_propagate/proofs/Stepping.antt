-- Steps of a valuation that rises: a gate, a value, or what is known of a signal.
use Rattle.std.proofs.Common.{◌≡◌, refl, sym, ap, subst, ◌∙◌, ℕ, zero, suc, ◌≤◌, ◌<◌, ◌+◌, Bool, true, false, not, ◌&&◌}
use Rattle.std.proofs.Common.{Some, None, List, [], ◌∷◌, map, get_or, set, slice_get, length, arith, ⊎_elim}
use Rattle.std.proofs.lemmas.List.{map-set, length-set, get_or-set_same, get_or-set_other, get_or_past, length-map, get_or-replicate, length-replicate}
use Rattle.std.proofs.Common.{replicate}
use Rattle.std.proofs.lemmas.Option.{slice_get_past, slice_get_within, slice_get_cases}
use Rattle.std.proofs.lemmas.Bool.{cases_eq, cases_lt}
use Rattle.hh_base.specs.declared.value.Value.{Value}
use Rattle.hh_base.specs.declared.value.Value.TheVariants as value
use Rattle.hh_base.specs.declared.value.Tri.{Tri}
use Rattle.hh_base.specs.declared.value.Tri.TheVariants.{Unknown, Zero, One}
use Rattle.host_expr.specs.declared.cell.Cell.{Cell}
use Rattle.host_expr.specs.declared.cell.Cell.TheVariants as cell
use Rattle.host_expr.specs.declared.cell.SigCell.{SigCell}
use Rattle.host_expr.specs.Environment.{is_decided, is_known, env_of, unsolved}
use Rattle.host_expr.specs.Knows.{TriBelow, CellBelow}
use Rattle.net_list.specs.declared.gate.NetGate.{NetGate}
use Rattle.net_list.specs.declared.record.NetSignal.{NetSignal}
use Rattle.net_list.specs.declared.record.NetRecords.{NetRecords}
use Rattle.net_solution.specs.declared.valuation.Valuation.{Valuation as Place}
use Rattle.net_solution.specs.Question.{Question}
use Rattle.net_solution.specs.Seen.{Seen, View, SeenBelow, ViewBelow}
use Rattle.net_solution.specs.Equations.{Statuses, gate_value, signal_value, seen_signal}
use Rattle.net_solution.specs.Solution.{Valuation, statuses, value_at, seen_at, view_of, numbered, given_by, IsBelow}
use Rattle.net_solution.specs.Solution.{HasSizes, Rises, IsLeast}
use Rattle.net_solution.specs.Places.{seen_by, seen_in, valuation_of, statuses_in, known_by, neither, IsExact}
use Rattle.net_solution.specs.Rounds.{known_given}
use Rattle.std.proofs.Math.Seq.{map-set_same}
use Rattle.net_solution.proofs.Truths.{tri_is, cell_is, tri_trans, cell_trans}
use Rattle.net_solution.proofs.Rising.{gate_rises, signal_rises, map_rises, numbered_rises, view_rises}
use Rattle.net_solution.proofs.Least.{rises_on}
use Rattle.net_propagate.specs.Settling.{HasRoom, IsRising, given_seen, cell_as, SeesOneMore, IsSeen, left_open, left_in, Taken, SweptAll, IsBlank, HasRoomOf}
use Rattle.net_propagate.specs.Settling.{is_gate_given, is_value_given}
use Rattle.net_solution.proofs.Least.{length_numbered, stands_least, nothing_rises}
use Rattle.net_solution.proofs.Rounding.{gates_fewer, values_fewer}

module _ {X : Type 0} (B : X → X → Type 0) (d : X) (bottom : (y : X) → B d y) (same : (x : X) → B x x) where
  -- a place that held the least item is over what it was
  pub set_over : (xs : List X) (n : ℕ) (t : X) → B (get_or xs n d) t → (m : ℕ)
      → B (get_or xs m d) (get_or (set xs n t) m d)
  set_over [] n t h m = bottom d
  set_over (x ∷ xs) zero t h zero = h
  set_over (x ∷ xs) zero t h (suc m) = same (get_or xs m d)
  set_over (x ∷ xs) (suc n) t h zero = same x
  set_over (x ∷ xs) (suc n) t h (suc m) = set_over xs n t h m

  pub set_under : (xs : List X) (n : ℕ) (t : X) (u : ℕ → X) → B t (u n) → ((m : ℕ) → B (get_or xs m d) (u m))
      → (m : ℕ) → B (get_or (set xs n t) m d) (u m)
  set_under [] n t u h k m = bottom (u m)
  set_under (x ∷ xs) zero t u h k zero = h
  set_under (x ∷ xs) zero t u h k (suc m) = k (suc m)
  set_under (x ∷ xs) (suc n) t u h k zero = k 0
  set_under (x ∷ xs) (suc n) t u h k (suc m) = set_under xs n t (λ i. u (suc i)) h (λ i. k (suc i)) m

tri_same : (x : Tri) → TriBelow x x
tri_same x = tri_is x x refl

cell_same : (x : Cell) → CellBelow x x
cell_same x = cell_is x x refl

pub seen_trans : (c d e : Seen) → SeenBelow c d → SeenBelow d e → SeenBelow c e
seen_trans c d e h k =
    record {
      status = tri_trans c.cell.status d.cell.status e.cell.status h.status k.status;
      value = cell_trans c.cell.value d.cell.value e.cell.value h.value k.value;
      pre = λ x. let y = h.pre x in let z = k.pre y.0 in (z.0, y.1 ∙ z.1);
      base = λ x. let y = h.base x in let z = k.base y.0 in (z.0, y.1 ∙ z.1);
    }

pub seen_same : (c d : Seen) → c ≡ d → SeenBelow c d
seen_same c d e = subst (SeenBelow c) e (record {
  status = tri_same c.cell.status;
  value = cell_same c.cell.value;
  pre = λ x. (x, refl);
  base = λ x. (x, refl);
})

-- what the equations give by what is known of signals is no more than what they give
pub given_under : (N : NetRecords) (Q : Question) (v : Place) → ViewBelow (seen_in v) (view_of N Q (valuation_of v))
    → IsBelow (given_seen N Q v) (given_by N Q (valuation_of v))
given_under N Q v up =
    let γ : Statuses = statuses_in v in
    let V : View = seen_in v in
    let W : View = view_of N Q (valuation_of v) in
    let same : (g : ℕ) → TriBelow (γ g) (γ g) = λ g. tri_same (γ g) in
    record {
      gates = map_rises (gate_value N Q γ V) (gate_value N Q γ W) (gate_rises N Q γ γ V W same up) N.gates;
      values =
          numbered_rises (signal_value N Q γ V) (signal_value N Q γ W) (signal_rises N Q γ γ V W same up) 0
          N.signals;
    }

-- a gate that was unknown takes what its equation gives
gate_over : (v w : Valuation) (g : ℕ) (t : Tri) → w.gates ≡ set v.gates g t → w.values ≡ v.values
    → statuses v g ≡ Unknown → IsBelow v w
gate_over v w g t gates values unset =
    record {
      gates = λ m. subst (TriBelow (statuses v m)) (ap (λ xs. get_or xs m Unknown) (sym gates))
          (set_over TriBelow Unknown (λ y. tt) tri_same v.gates g t
          (subst (λ x. TriBelow x t) (sym unset) tt) m);
      values = λ s. cell_is (value_at v s) (value_at w s) (ap (λ xs. get_or xs s cell.Unknown) values);
    }

gate_under : (v w u : Valuation) (g : ℕ) (t : Tri) → w.gates ≡ set v.gates g t → w.values ≡ v.values
    → TriBelow t (statuses u g) → IsBelow v u → IsBelow w u
gate_under v w u g t gates values h k =
    record {
      gates = λ m. subst (λ x. TriBelow x (statuses u m)) (ap (λ xs. get_or xs m Unknown) (sym gates))
          (set_under TriBelow Unknown (λ y. tt) tri_same v.gates g t (statuses u) h k.gates m);
      values = λ s. subst (λ x. CellBelow x (value_at u s)) (ap (λ xs. get_or xs s cell.Unknown) (sym values))
          (k.values s);
    }

-- a value that was unknown takes what its equation gives
value_over : (v w : Valuation) (s : ℕ) (c : Cell) → w.gates ≡ v.gates → w.values ≡ set v.values s c
    → value_at v s ≡ cell.Unknown → IsBelow v w
value_over v w s c gates values unset =
    record {
      gates = λ g. tri_is (statuses v g) (statuses w g) (ap (λ xs. get_or xs g Unknown) gates);
      values = λ m. subst (CellBelow (value_at v m)) (ap (λ xs. get_or xs m cell.Unknown) (sym values))
          (set_over CellBelow cell.Unknown (λ y. tt) cell_same v.values s c
          (subst (λ x. CellBelow x c) (sym unset) tt) m);
    }

value_under : (v w u : Valuation) (s : ℕ) (c : Cell) → w.gates ≡ v.gates → w.values ≡ set v.values s c
    → CellBelow c (value_at u s) → IsBelow v u → IsBelow w u
value_under v w u s c gates values h k =
    record {
      gates = λ g. subst (λ x. TriBelow x (statuses u g)) (ap (λ xs. get_or xs g Unknown) (sym gates))
          (k.gates g);
      values = λ m. subst (λ x. CellBelow x (value_at u m)) (ap (λ xs. get_or xs m cell.Unknown) (sym values))
          (set_under CellBelow cell.Unknown (λ y. tt) cell_same v.values s c (value_at u) h k.values m);
    }

view_trans : (U V W : View) → ViewBelow U V → ViewBelow V W → ViewBelow U W
view_trans U V W h k s = seen_trans (U s) (V s) (W s) (h s) (k s)

pub gate_raised : (N : NetRecords) (Q : Question) (v w : Place) (g : ℕ) (t : Tri) → IsRising N Q v
    → statuses_in v g ≡ Unknown → t ≡ statuses (given_seen N Q v) g → w.gates.items ≡ set v.gates.items g t
    → w.cells ≡ v.cells → w.before ≡ v.before → IsRising N Q w × IsBelow (valuation_of v) (valuation_of w)
gate_raised N Q v w g t r unset is gates cells before =
    let values : (valuation_of w).values ≡ (valuation_of v).values =
    ap (λ c. map (λ x. x.value) c.signals.items) cells in
    let given = given_under N Q v r.seen in
    let up = gate_over (valuation_of v) (valuation_of w) g t gates values unset in
    let most = gate_under (valuation_of v) (valuation_of w) (given_by N Q (valuation_of v)) g t gates values
    (subst (λ x. TriBelow x (statuses (given_by N Q (valuation_of v)) g)) (sym is) (given.gates g))
    r.rises.next in (
      record {
        room = record {
          sizes = record {
            gates = ap length gates ∙ length-set v.gates.items g t ∙ r.room.sizes.gates;
            values = ap length values ∙ r.room.sizes.values;
          };
          before = ap (λ b. length b.items) before ∙ r.room.before;
          args = ap (λ c. c.args.items) cells ∙ r.room.args;
        };
        rises = rises_on N Q (valuation_of v) (valuation_of w) r.rises up most;
        seen = subst (λ V. ViewBelow V (view_of N Q (valuation_of w)))
            (λ i. seen_by (sym cells i).signals.items (sym before i).items)
            (view_trans (seen_in v) (view_of N Q (valuation_of v)) (view_of N Q (valuation_of w)) r.seen
            (view_rises N Q (valuation_of v) (valuation_of w) up));
      },
      up,
    )

-- an equation that is not there gives nothing
pub no_gate : (N : NetRecords) (Q : Question) (v : Place) (g : ℕ) → slice_get N.gates g ≡ None
    → Unknown ≡ statuses (given_seen N Q v) g
no_gate N Q v g e = none N.gates g e
  where
    none : (xs : List NetGate) (n : ℕ) → slice_get xs n ≡ None
        → Unknown ≡ get_or (map (gate_value N Q (statuses_in v) (seen_in v)) xs) n Unknown
    none [] n e = refl
    none (x ∷ xs) zero e = cc
    none (x ∷ xs) (suc n) e = none xs n e

numbered_none : (f : ℕ → NetSignal → Cell) (m : ℕ) (xs : List NetSignal) (n : ℕ) → slice_get xs n ≡ None
    → cell.Unknown ≡ get_or (numbered f m xs) n cell.Unknown
numbered_none f m [] n e = refl
numbered_none f m (x ∷ xs) zero e = cc
numbered_none f m (x ∷ xs) (suc n) e = numbered_none f (suc m) xs n e

numbered_at : (f : ℕ → NetSignal → Cell) (m : ℕ) (xs : List NetSignal) (n : ℕ) (x : NetSignal) → slice_get xs n ≡ Some x
    → (k : ℕ) → m + n ≡ k → f k x ≡ get_or (numbered f m xs) n cell.Unknown
numbered_at f m [] n x e k h = cc
numbered_at f m (y ∷ xs) zero x e k h =
    let same : k ≡ m = omega (arith, h) in
    let at : x ≡ y = cc in
    λ i. f (same i) (at i)
numbered_at f m (y ∷ xs) (suc n) x e k h = numbered_at f (suc m) xs n x e k (omega (arith, h))

pub no_value : (N : NetRecords) (Q : Question) (v : Place) (s : ℕ) → slice_get N.signals s ≡ None
    → cell.Unknown ≡ value_at (given_seen N Q v) s
no_value N Q v s e = numbered_none (signal_value N Q (statuses_in v) (seen_in v)) 0 N.signals s e

pub value_there : (N : NetRecords) (Q : Question) (v : Place) (s : ℕ) (d : NetSignal) → slice_get N.signals s ≡ Some d
    → signal_value N Q (statuses_in v) (seen_in v) s d ≡ value_at (given_seen N Q v) s
value_there N Q v s d e =
    numbered_at (signal_value N Q (statuses_in v) (seen_in v)) 0 N.signals s d e s (omega arith)

-- what an item says stays the same where the new one says it too
field_set : {X Y : Type 0} (f : X → Y) (d : X) (xs : List X) (n : ℕ) (y : X) → f y ≡ f (get_or xs n d) → (m : ℕ)
    → f (get_or (set xs n y) m d) ≡ f (get_or xs m d)
field_set f d [] n y e m = refl
field_set f d (x ∷ xs) zero y e zero = e
field_set f d (x ∷ xs) zero y e (suc m) = refl
field_set f d (x ∷ xs) (suc n) y e zero = refl
field_set f d (x ∷ xs) (suc n) y e (suc m) = field_set f d xs n y e m

abbrev blank_cell : SigCell
blank_cell = unsolved false value.Unit

pub value_is : (cells : List SigCell) (s : ℕ) → get_or (map (λ c. c.value) cells) s cell.Unknown ≡ (env_of cells s).value
value_is [] s = refl
value_is (c ∷ cs) zero = refl
value_is (c ∷ cs) (suc s) = value_is cs s

-- a value as it is seen is the one that the valuation has
value_seen : (N : NetRecords) (Q : Question) (γ : Statuses) (cells : List SigCell) (s : ℕ) → length cells ≡ length N.signals
    → CellBelow (env_of cells s).value
    (seen_at Q γ (get_or (map (λ c. c.value) cells) s cell.Unknown) s (slice_get N.signals s)).cell.value
value_seen N Q γ cells s same =
    let value = get_or (map (λ c. c.value) cells) s cell.Unknown in
    ⊎_elim (λ there. subst (λ o. CellBelow (env_of cells s).value (seen_at Q γ value s o).cell.value)
    (sym there.2) (cell_is (env_of cells s).value value (value_is cells s)))
    (λ past. subst (λ x. CellBelow x.value (seen_at Q γ value s (slice_get N.signals s)).cell.value)
    (sym (get_or_past cells s blank_cell (let l = past.0 in omega (arith, same, l)))) tt)
    (slice_get_cases N.signals s).1

pub value_raised : (N : NetRecords) (Q : Question) (v w : Place) (s : ℕ) (c : Cell) → IsRising N Q v
    → value_at (valuation_of v) s ≡ cell.Unknown → c ≡ value_at (given_seen N Q v) s
    → w.cells.signals.items ≡ set v.cells.signals.items s (record (env_of v.cells.signals.items s) { value = c })
    → w.gates ≡ v.gates → w.cells.args ≡ v.cells.args → w.before ≡ v.before
    → IsRising N Q w × IsBelow (valuation_of v) (valuation_of w)
value_raised N Q v w s c r unset is cells gates args before =
    let old = env_of v.cells.signals.items s in
    let new : SigCell = record old { value = c } in
    let values : (valuation_of w).values ≡ set (valuation_of v).values s c =
    ap (map (λ x. x.value)) cells ∙ map-set (λ x. x.value) v.cells.signals.items s new in
    let same_gates : (valuation_of w).gates ≡ (valuation_of v).gates = ap (λ g. g.items) gates in
    let given = given_under N Q v r.seen in
    let up = value_over (valuation_of v) (valuation_of w) s c same_gates values unset in
    let most = value_under (valuation_of v) (valuation_of w) (given_by N Q (valuation_of v)) s c same_gates values
    (subst (λ x. CellBelow x (value_at (given_by N Q (valuation_of v)) s)) (sym is) (given.values s))
    r.rises.next in
    let sizes : length (valuation_of w).values ≡ length N.signals =
    ap length values ∙ length-set (valuation_of v).values s c ∙ r.room.sizes.values in
    let count : length w.cells.signals.items ≡ length N.signals =
    sym (length-map w.cells.signals.items (λ x. x.value)) ∙ sizes in
    let kept = view_trans (seen_in v) (view_of N Q (valuation_of v)) (view_of N Q (valuation_of w)) r.seen
    (view_rises N Q (valuation_of v) (valuation_of w) up) in
    let field : (X : Type 0) (f : SigCell → X) → f new ≡ f old → (m : ℕ)
    → f (env_of w.cells.signals.items m) ≡ f (env_of v.cells.signals.items m) =
    λ X f e m. ap (λ xs. f (env_of xs m)) cells ∙ field_set f blank_cell v.cells.signals.items s new e m in
    let knows : (m : ℕ) → known_by w.before.items m ≡ known_by v.before.items m =
    λ m. ap (λ b. known_by b.items m) before in (
      record {
        room = record {
          sizes = record { gates = ap length same_gates ∙ r.room.sizes.gates; values = sizes };
          before = ap (λ b. length b.items) before ∙ r.room.before;
          args = ap (λ a. a.items) args ∙ r.room.args;
        };
        rises = rises_on N Q (valuation_of v) (valuation_of w) r.rises up most;
        seen = λ m.
            let k = kept m in
            record {
              status = subst (λ x. TriBelow x (view_of N Q (valuation_of w) m).cell.status)
                  (sym (field Tri (λ x. x.status) refl m)) k.status;
              value = value_seen N Q (statuses_in w) w.cells.signals.items m count;
              pre = λ e.
                  let y = k.pre (sym (ap (λ b. b.pre) (knows m)) ∙ e) in
                  (y.0, field Bool (λ x. x.pre) refl m ∙ y.1);
              base = λ e.
                  let y = k.base (sym (ap (λ b. b.base) (knows m)) ∙ e) in
                  (y.0, field Value (λ x. x.preval) refl m ∙ y.1);
            };
      },
      up,
    )

pub signal_seen : (N : NetRecords) (Q : Question) (v w : Place) (s : ℕ) (d : NetSignal) → HasRoom N v
    → slice_get N.signals s ≡ Some d
    → w.cells.signals.items ≡ set v.cells.signals.items s (cell_as Q v s d)
    → w.before.items ≡ set v.before.items s (known_given (statuses_in v) d)
    → w.gates ≡ v.gates → w.cells.args ≡ v.cells.args
    → HasRoom N w × SeesOneMore N Q v w s
signal_seen N Q v w s d r there cells before gates args =
    let new = cell_as Q v s d in
    let knows = known_given (statuses_in v) d in
    let values : (valuation_of w).values ≡ (valuation_of v).values =
    ap (map (λ x. x.value)) cells ∙ map-set_same (λ x. x.value) v.cells.signals.items s new blank_cell refl in
    let count : length v.cells.signals.items ≡ length N.signals =
    sym (length-map v.cells.signals.items (λ x. x.value)) ∙ r.sizes.values in
    let l = slice_get_within N.signals s d there in
    let b = r.before in
    let same : valuation_of w ≡ valuation_of v = λ i. record { gates = (gates i).items; values = values i } in (
      record {
        sizes = subst (HasSizes N) (sym same) r.sizes;
        before = ap length before ∙ length-set v.before.items s knows ∙ r.before;
        args = ap (λ a. a.items) args ∙ r.args;
      },
      record {
        valuation = same;
        at =
            (λ i. record { cell = env_of (cells i) s; known = known_by (before i) s })
            ∙ (λ i. record {
              cell = get_or-set_same v.cells.signals.items s new blank_cell (omega (arith, count, l)) i;
              known = get_or-set_same v.before.items s knows neither (omega (arith, b, l)) i;
            })
            ∙ sym (λ i. seen_signal Q (statuses_in v) (value_is v.cells.signals.items s i) s d)
            ∙ sym (λ i. seen_at Q (statuses_in v) (value_at (valuation_of v) s) s (there i))
            ∙ sym (λ i. view_of N Q (same i) s);
        others = λ t other.
            (λ i. record { cell = env_of (cells i) t; known = known_by (before i) t })
            ∙ (λ i. record {
              cell = get_or-set_other v.cells.signals.items s t new blank_cell other i;
              known = get_or-set_other v.before.items s t knows neither other i;
            });
      },
    )

-- a valuation that rises goes on to, where more is known of a signal
pub seeing_rises : (N : NetRecords) (Q : Question) (v w : Place) (s : ℕ) → IsRising N Q v → HasRoom N w
    → SeesOneMore N Q v w s → IsRising N Q w
seeing_rises N Q v w s r reserved more =
    record {
      room = reserved;
      rises = subst (Rises N Q) (sym more.valuation) r.rises;
      seen = λ t. ⊎_elim (λ same. subst (λ m. SeenBelow (seen_in w m) (view_of N Q (valuation_of w) m)) (sym same)
          (seen_same (seen_in w s) (view_of N Q (valuation_of w) s) more.at))
          (λ other. subst (λ x. SeenBelow x (view_of N Q (valuation_of w) t)) (sym (more.others t other))
          (subst (λ x. SeenBelow (seen_in v t) (view_of N Q x t)) (sym more.valuation) (r.seen t)))
          (cases_eq t s);
    }

-- where more is known, less is left
pub less_left : (N : NetRecords) (v w : Valuation) → HasSizes N v → HasSizes N w → IsBelow v w
    → (v ≡ w → ⊥) → left_open w < left_open v
less_left N v w sv sw up other =
    let g = gates_fewer N v w sv sw up in
    let s = values_fewer N v w sv sw up in
    ⊎_elim (λ l. l) (λ l. absurd (other (λ i. record {
      gates = g.1 (let a = s.0 in omega (arith, l, a)) i;
      values = s.1 (let a = g.0 in omega (arith, l, a)) i;
    })))
    (cases_lt (left_open w) (left_open v))

both_told : (a b : Bool) → a ≡ false → b ≡ true → true ≡ not a && b
both_told a b h k = sym ((λ i. not (h i) && k i) ∙ refl)

told_known : (a b : Bool) → a ≡ true → false ≡ not a && b
told_known a b h = sym (ap (λ x. not x && b) h)

told_ungiven : (a b : Bool) → a ≡ false → b ≡ false → false ≡ not a && b
told_ungiven a b h k = sym ((λ i. not (h i) && k i) ∙ refl)

-- nothing is taken
pub nothing_taken : (v : Place) (given : Bool) → false ≡ given → Taken v v given false
nothing_taken v given e = record { told = e; less = λ f. cc; same = λ f. refl }

pub known_gate : (N : NetRecords) (Q : Question) (v : Place) (g : ℕ) → is_decided (statuses_in v g) ≡ true
    → Taken v v (is_gate_given N Q v g) false
known_gate N Q v g h =
    nothing_taken v (is_gate_given N Q v g)
    (told_known (is_decided (statuses_in v g)) (is_decided (statuses (given_seen N Q v) g)) h)

pub ungiven_gate : (N : NetRecords) (Q : Question) (v : Place) (g : ℕ) (t : Tri) → is_decided (statuses_in v g) ≡ false
    → t ≡ statuses (given_seen N Q v) g → is_decided t ≡ false → Taken v v (is_gate_given N Q v g) false
ungiven_gate N Q v g t h is k =
    nothing_taken v (is_gate_given N Q v g)
    (told_ungiven (is_decided (statuses_in v g)) (is_decided (statuses (given_seen N Q v) g)) h
    (sym (ap is_decided is) ∙ k))

not_decided : (t : Tri) → is_decided t ≡ false → t ≡ Unknown
not_decided Unknown e = refl
not_decided Zero e = cc
not_decided One e = cc

not_known : (c : Cell) → is_known c ≡ false → c ≡ cell.Unknown
not_known cell.Unknown e = refl
not_known (cell.Known v) e = cc
not_known (cell.Faulted p k) e = cc

yes_no : (b : Bool) → b ≡ true → b ≡ false → ⊥
yes_no true h k = cc
yes_no false h k = cc

get_set : {X : Type 0} (d : X) (xs : List X) (n : ℕ) (x : X) (known : X → Bool) → known d ≡ false → known x ≡ true
    → n < length xs → known (get_or (set xs n x) n d) ≡ true
get_set d xs n x known h k l = ap known (get_or-set_same xs n x d l) ∙ k

-- what is given is within the list, as its default is not known
within : {X : Type 0} (d : X) (xs : List X) (n : ℕ) (known : X → Bool) → known d ≡ false → known (get_or xs n d) ≡ true
    → n < length xs
within d xs n known h k =
    ⊎_elim (λ l. l) (λ l. absurd (yes_no (known (get_or xs n d)) k (ap known (get_or_past xs n d l) ∙ h)))
    (cases_lt n (length xs))

pub gate_taken : (N : NetRecords) (Q : Question) (v w : Place) (g : ℕ) (t : Tri) → IsRising N Q v
    → is_decided (statuses_in v g) ≡ false → t ≡ statuses (given_seen N Q v) g → is_decided t ≡ true
    → w.gates.items ≡ set v.gates.items g t → w.cells ≡ v.cells → w.before ≡ v.before
    → IsRising N Q w × Taken v w (is_gate_given N Q v g) true
gate_taken N Q v w g t r h is k gates cells before =
    let on = gate_raised N Q v w g t r (not_decided (statuses_in v g) h) is gates cells before in
    let decided = sym (ap is_decided is) ∙ k in
    let l = within Unknown (given_seen N Q v).gates g is_decided refl decided in
    let count : length (given_seen N Q v).gates ≡ length N.gates = length-map N.gates _ in
    let has = r.room.sizes.gates in
    let now : is_decided (statuses_in w g) ≡ true =
    ap (λ xs. is_decided (get_or xs g Unknown)) gates
    ∙ get_set Unknown v.gates.items g t is_decided refl k (omega (arith, l, count, has)) in (
      on.0,
      record {
        told = both_told (is_decided (statuses_in v g)) (is_decided (statuses (given_seen N Q v) g)) h decided;
        less = λ e. less_left N (valuation_of v) (valuation_of w) r.room.sizes on.0.room.sizes on.1
            (λ same. yes_no (is_decided (statuses_in w g)) now
            (sym (ap (λ u. is_decided (statuses u g)) same) ∙ h));
        same = λ e. cc;
      },
    )

pub known_value : (N : NetRecords) (Q : Question) (v : Place) (s : ℕ)
    → is_known (env_of v.cells.signals.items s).value ≡ true → Taken v v (is_value_given N Q v s) false
known_value N Q v s h =
    nothing_taken v (is_value_given N Q v s)
    (told_known (is_known (value_at (valuation_of v) s)) (is_known (value_at (given_seen N Q v) s))
    (ap is_known (value_is v.cells.signals.items s) ∙ h))

pub ungiven_value : (N : NetRecords) (Q : Question) (v : Place) (s : ℕ) (c : Cell)
    → is_known (env_of v.cells.signals.items s).value ≡ false
    → c ≡ value_at (given_seen N Q v) s → is_known c ≡ false → Taken v v (is_value_given N Q v s) false
ungiven_value N Q v s c h is k =
    nothing_taken v (is_value_given N Q v s)
    (told_ungiven (is_known (value_at (valuation_of v) s)) (is_known (value_at (given_seen N Q v) s))
    (ap is_known (value_is v.cells.signals.items s) ∙ h) (sym (ap is_known is) ∙ k))

pub value_taken : (N : NetRecords) (Q : Question) (v w : Place) (s : ℕ) (c : Cell) → IsRising N Q v
    → is_known (env_of v.cells.signals.items s).value ≡ false
    → c ≡ value_at (given_seen N Q v) s → is_known c ≡ true
    → w.cells.signals.items ≡ set v.cells.signals.items s (record (env_of v.cells.signals.items s) { value = c })
    → w.gates ≡ v.gates → w.cells.args ≡ v.cells.args → w.before ≡ v.before
    → IsRising N Q w × Taken v w (is_value_given N Q v s) true
value_taken N Q v w s c r unknown is k cells gates args before =
    let h = ap is_known (value_is v.cells.signals.items s) ∙ unknown in
    let on = value_raised N Q v w s c r (not_known (value_at (valuation_of v) s) h) is cells gates args before in
    let known = sym (ap is_known is) ∙ k in
    let l = within cell.Unknown (given_seen N Q v).values s is_known refl known in
    let count : length (given_seen N Q v).values ≡ length N.signals = length_numbered _ 0 N.signals in
    let has = r.room.sizes.values in
    let new : SigCell = record (env_of v.cells.signals.items s) { value = c } in
    let now : is_known (value_at (valuation_of w) s) ≡ true =
    ap (λ xs. is_known (get_or (map (λ x. x.value) xs) s cell.Unknown)) cells
    ∙ ap (λ xs. is_known (get_or xs s cell.Unknown)) (map-set (λ x. x.value) v.cells.signals.items s new)
    ∙ get_set cell.Unknown (valuation_of v).values s c is_known refl k (omega (arith, l, count, has)) in (
      on.0,
      record {
        told = both_told (is_known (value_at (valuation_of v) s)) (is_known (value_at (given_seen N Q v) s)) h known;
        less = λ e. less_left N (valuation_of v) (valuation_of w) r.room.sizes on.0.room.sizes on.1
            (λ same. yes_no (is_known (value_at (valuation_of w) s)) now
            (sym (ap (λ u. is_known (value_at u s)) same) ∙ h));
        same = λ e. cc;
      },
    )

pub taken_up : (v w : Place) (given : Bool) → Taken v w given true → left_in w ≤ left_in v
taken_up v w given t = let l = t.less refl in omega (arith, l)

-- of a signal that is not there all is known
pub unseen_there : (N : NetRecords) (Q : Question) (v : Place) (s : ℕ) → HasRoom N v → slice_get N.signals s ≡ None
    → IsSeen N Q v s
unseen_there N Q v s r none =
    ⊎_elim (λ there. absurd (some_none there.0 (sym there.2 ∙ none)))
    (λ past.
    let l = past.0 in
    let count : length v.cells.signals.items ≡ length N.signals =
    sym (length-map v.cells.signals.items (λ x. x.value)) ∙ r.sizes.values in
    let b = r.before in
    (λ i. record {
      cell = get_or_past v.cells.signals.items s blank_cell (omega (arith, count, l)) i;
      known = get_or_past v.before.items s neither (omega (arith, b, l)) i;
    })
    ∙ sym (λ i. seen_at Q (statuses_in v) (value_at (valuation_of v) s) s (none i)))
    (slice_get_cases N.signals s).1
  where
    some_none : (d : NetSignal) → Some d ≡ None → ⊥
    some_none d e = cc

pub sees_none : (N : NetRecords) (Q : Question) (v : Place) (s : ℕ) → HasRoom N v → slice_get N.signals s ≡ None
    → SeesOneMore N Q v v s
sees_none N Q v s r none =
    record { valuation = refl; at = unseen_there N Q v s r none; others = λ t other. refl }

-- the signals below `count` are seen as the valuation has them
abbrev pub SeenBelowCount : NetRecords → Question → Place → ℕ → Type 0
SeenBelowCount N Q v count = (s : ℕ) → s < count → IsSeen N Q v s

pub sees_on : (N : NetRecords) (Q : Question) (v w : Place) (n : ℕ) → SeenBelowCount N Q v n → SeesOneMore N Q v w n
    → SeenBelowCount N Q w (n + 1)
sees_on N Q v w n h more s l =
    ⊎_elim (λ same. subst (IsSeen N Q w) (sym same) more.at)
    (λ other. more.others s other ∙ h s (below s n l other) ∙ sym (λ i. view_of N Q (more.valuation i) s))
    (cases_eq s n)
  where
    below : (s n : ℕ) → s < n + 1 → (s ≡ n → ⊥) → s < n
    below s n l other = ⊎_elim (λ k. k) (λ k. absurd (other (omega (arith, l, k)))) (cases_lt s n)

pub sees_all : (N : NetRecords) (Q : Question) (v : Place) → HasRoom N v → SeenBelowCount N Q v (length N.signals)
    → IsExact N Q v
sees_all N Q v r h =
    record {
      view = λ s.
          ⊎_elim (λ l. h s l) (λ l. unseen_there N Q v s r (slice_get_past N.signals s l))
          (cases_lt s (length N.signals));
      args = r.args;
    }

-- where its equation gives nothing new, a gate stands still
gate_stands : (a b : Tri) → TriBelow a b → not (is_decided a) && is_decided b ≡ false → TriBelow b a
gate_stands Unknown b h e = subst (λ t. TriBelow t Unknown) (sym (not_decided b e)) tt
gate_stands Zero b h e = subst (λ t. TriBelow t Zero) (sym h) refl
gate_stands One b h e = subst (λ t. TriBelow t One) (sym h) refl

value_stands : (a b : Cell) → CellBelow a b → not (is_known a) && is_known b ≡ false → CellBelow b a
value_stands cell.Unknown b h e = subst (λ t. CellBelow t cell.Unknown) (sym (not_known b e)) tt
value_stands (cell.Known v) b h e = subst (λ t. CellBelow t (cell.Known v)) (sym h) refl
value_stands (cell.Faulted p k) b h e = subst (λ t. CellBelow t (cell.Faulted p k)) (sym h) refl

past_below : {X : Type 0} (B : X → X → Type 0) (d : X) (bottom : (y : X) → B d y) (xs : List X) (n : ℕ) (y : X)
    → length xs ≤ n → B (get_or xs n d) y
past_below B d bottom xs n y l = subst (λ x. B x y) (sym (get_or_past xs n d l)) (bottom y)

-- where all is seen, and no equation gives anything new, it is the least solution
pub still_least : (N : NetRecords) (Q : Question) (v w : Place) → IsRising N Q v → IsExact N Q v
    → SweptAll N Q v w false → IsLeast N Q (valuation_of w)
still_least N Q v w r exact swept =
    let given : given_seen N Q v ≡ given_by N Q (valuation_of v) =
    λ i. record {
      gates = map (gate_value N Q (statuses_in v) (λ s. exact.view s i)) N.gates;
      values = numbered (signal_value N Q (statuses_in v) (λ s. exact.view s i)) 0 N.signals;
    } in
    let next = subst (IsBelow (valuation_of v)) (sym given) r.rises.next in
    let g : length (given_seen N Q v).gates ≡ length N.gates = length-map N.gates _ in
    let s : length (given_seen N Q v).values ≡ length N.signals = length_numbered _ 0 N.signals in
    let stands : IsBelow (given_seen N Q v) (valuation_of v) = record {
      gates = λ n. ⊎_elim
          (λ l. gate_stands (statuses_in v n) (statuses (given_seen N Q v) n) (next.gates n)
          (swept.gates.none refl n l))
          (λ l. past_below TriBelow Unknown (λ y. tt) (given_seen N Q v).gates n (statuses_in v n)
          (omega (arith, l, g)))
          (cases_lt n (length N.gates));
      values = λ n. ⊎_elim
          (λ l. value_stands (value_at (valuation_of v) n) (value_at (given_seen N Q v) n) (next.values n)
          (swept.values.none refl n l))
          (λ l. past_below CellBelow cell.Unknown (λ y. tt) (given_seen N Q v).values n
          (value_at (valuation_of v) n) (omega (arith, l, s)))
          (cases_lt n (length N.signals));
    } in
    subst (λ y. IsLeast N Q (valuation_of y)) (sym (swept.gates.same refl))
    (stands_least N Q (valuation_of v) r.room.sizes r.rises
    (subst (λ u. IsBelow u (valuation_of v)) given stands))

-- a valuation under which nothing is known
pub nothing_rising : (N : NetRecords) (Q : Question) (v : Place) → HasRoom N v → IsBlank v → IsRising N Q v
nothing_rising N Q v r b =
    record {
      room = r;
      rises = nothing_rises N Q (valuation_of v) b.gates
          (λ s. value_is v.cells.signals.items s ∙ ap (λ c. c.value) (b.cells s));
      seen = λ s. record {
        status = subst (λ c. TriBelow c.status (view_of N Q (valuation_of v) s).cell.status) (sym (b.cells s)) tt;
        value = subst (λ c. CellBelow c.value (view_of N Q (valuation_of v) s).cell.value) (sym (b.cells s)) tt;
        pre = λ e. absurd (yes_no _ e (ap (λ k. k.pre) (b.before s)));
        base = λ e. absurd (yes_no _ e (ap (λ k. k.base) (b.before s)));
      };
    }

pub forgotten : {X : Type 0} (d : X) (xs : List X) (count n : ℕ) → xs ≡ replicate count d → get_or xs n d ≡ d
forgotten d xs count n e =
    ap (λ ys. get_or ys n d) e
    ∙ ⊎_elim (λ l. get_or-replicate count n d d l)
    (λ l. get_or_past (replicate count d) n d (let k = length-replicate count d in omega (arith, k, l)))
    (cases_lt n count)

pub room_reserved : (N : NetRecords) (v w : Place) → HasRoom N v → HasRoomOf v w → HasRoom N w
room_reserved N v w r h =
    let before = length-map v.cells.signals.items (λ c. c.value) in
    let after = length-map w.cells.signals.items (λ c. c.value) in
    record {
      sizes = record {
        gates = h.gates ∙ r.sizes.gates;
        values = after ∙ h.cells ∙ sym before ∙ r.sizes.values;
      };
      before = h.before ∙ r.before;
      args = h.args ∙ r.args;
    }

pub begins : (N : NetRecords) (Q : Question) (v w : Place) → HasRoom N v → IsBlank w → HasRoomOf v w
    → IsRising N Q w
begins N Q v w r b h = nothing_rising N Q w (room_reserved N v w r h) b

-- the items below n are the default
abbrev pub IsClear : {X : Type 0} → X → List X → ℕ → Type 0
IsClear d xs n = (m : ℕ) → m < n → get_or xs m d ≡ d

pub clear_on : {X : Type 0} (d y : X) (xs : List X) (n : ℕ) → n < length xs → y ≡ d → IsClear d xs n
    → IsClear d (set xs n y) (n + 1)
clear_on d y xs n l e h m k =
    ⊎_elim (λ same. ap (λ i. get_or (set xs n y) i d) same ∙ get_or-set_same xs n y d l ∙ e)
    (λ other. get_or-set_other xs n m y d other ∙ h m (below other)) (cases_eq m n)
  where
    below : (m ≡ n → ⊥) → m < n
    below other = ⊎_elim (λ i. i) (λ i. absurd (other (omega (arith, k, i)))) (cases_lt m n)

pub all_clear : {X : Type 0} (d : X) (xs : List X) (n m : ℕ) → length xs ≤ n → IsClear d xs n → get_or xs m d ≡ d
all_clear d xs n m l h =
    ⊎_elim (λ k. h m k) (λ k. get_or_past xs m d (omega (arith, l, k))) (cases_lt m n)

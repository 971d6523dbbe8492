-- A scope in a walk, and statements without parts.
use Rattle.std.proofs.Common.{◌≡◌, refl, sym, ap, ◌∙◌, subst, ℕ, ◌+◌, ◌<◌, Bool, true, false, cond, ◌==◌, ◌&&◌}
use Rattle.std.proofs.Common.{Option, Some, None, List, [], ◌∷◌, ◌++◌, length, map, set, slice_get}
use Rattle.std.proofs.Common.{append_assoc, suc, arith, eqb-true}
use Rattle.std.specs.Prelude.{ℤ, pos, ◌+ℤ◌}
use Rattle.std.proofs.lemmas.Int.{ints}
use Rattle.std.proofs.lemmas.Bool.{eqb-false}
use Rattle.std.proofs.lemmas.List.{map-append}
use Rattle.std.proofs.Math.ListN.{length-set}
use Rattle.hh_base.specs.declared.value.Kind.{Kind}
use Rattle.host_expr.specs.declared.cell.Cell.{Cell}
use Rattle.host_expr.specs.declared.cell.Cell.TheVariants as cell
use Rattle.host_expr.specs.declared.cell.SigCell.{SigCell}
use Rattle.host_expr.specs.Combination.{counts_as}
use Rattle.host_expr.specs.Environment.{Env, env_of, put, is_decided, is_known}
use Rattle.hh_term.specs.Selection.{Selection}
use Rattle.hh_term.specs.MustCan.{Table, cells_of, without}
use Rattle.hh_term.specs.Step.{Stepped, completes, rests, wrapped, scope_mark, leave, overflow_by, doubled_by}
use Rattle.hh_term.specs.Step.{values_of, mark_map, emit_step, add_faults, with_fault, ◌>>=◌}
use Rattle.status_table.specs.FlatStep.{local_in}
use Rattle.status_table.proofs.Meeting.{cells-without-same, cells-without-other}
use Rattle.status_table.proofs.Reading.{set_here, set_other, set_back, put_is_set}
use Rattle.last_walk.specs.declared.last_pass.Emitted.{Emitted}
use Rattle.last_walk.specs.declared.last_pass.Outer.{Outer}
use Rattle.last_walk.specs.declared.last_pass.LastPass.{LastPass}
use Rattle.last_walk.specs.declared.completion.Completion.{Completion}
use Rattle.last_walk.specs.LastWalk.{touch_of, selection_at, sum_of, Adds, Counts, least, fault_place}
use Rattle.last_walk.specs.LastWalk.{place_of_fault, place_of_signal, signal_place, Noted, Done, Did, fault_in}
use Rattle.last_walk.specs.LastWalk.{faults_in, Entered, Left}
use Rattle.last_walk.proofs.Least.{least_append, least_turn}
use Rattle.last_walk.proofs.Noting.{adds_none, noted_none, noted_both}

some_same : {A : Type 0} (x y : A) → Some x ≡ Some y → x ≡ y
some_same x y e = cc

-- ---- a scope

same_length : {A B : Type 0} (f : A → B) (xs : List A) → length xs ≡ length (map f xs)
same_length f [] = refl
same_length f (x ∷ xs) = ap suc (same_length f xs)

counted : (k : Kind) (cells : List Cell) (x y : Emitted) → Counts x [] → Adds k cells x y → Counts y
    (map (counts_as k) cells)
counted k cells x y h g = record {
  count = g.count ∙ ap (λ n. n + length cells) h.count ∙ zero_count (length cells) ∙ same_length (counts_as k) cells;
  sum = g.sum ∙ ap (λ n. n +ℤ sum_of k cells) h.sum ∙ zero_sum (sum_of k cells);
}
  where
    zero_count : (n : ℕ) → 0 + n ≡ n
    zero_count n = omega arith

    zero_sum : (n : ℤ) → pos 0 +ℤ n ≡ n
    zero_sum n = omega (arith, ints)

-- the least of what is met in a scope and behind it
met_last : {A : Type 0} (f : A → ℕ) (m n k : Option ℕ) (xs ys : List A) → n ≡ least m (map f xs) → k ≡ least n
    (map f ys) → k ≡ least m (map f (ys ++ xs))
met_last f m n k xs ys e g = g ∙ ap (λ z. least z (map f ys)) e ∙ sym (least_append m (map f xs) (map f ys)) ∙
    least_turn m (map f xs) (map f ys) ∙ ap (least m) (sym (map-append f ys xs))

module _ (T : Table) (s : ℕ) (d e : SigCell) (outer : Outer) (a : Stepped) (x y : Completion)
    (b0 b1 b2 b3 : LastPass) (ls : s < length b0.cells.signals.items) (le : s < length b0.emitted.items)
    (en : Entered s d outer b0 b1) (h : Done T a x b1 b2) (lv : Left T s outer e b2 b3) where
  inner_counts : Counts lv.inner (values_of T s a.bag)
  inner_counts =
      let here : slice_get b1.emitted.items s ≡ Some en.fresh = ap (λ z. slice_get z s) en.emitted ∙ set_here
      b0.emitted.items s en.fresh le in
      let z = h.noted.emitted.adds s en.fresh here in
      subst (λ e. Counts e (values_of T s a.bag)) (some_same z.0 lv.inner (sym z.1 ∙ lv.emissions))
      (counted (T.kind s) (cells_of s a.bag) en.fresh z.0 en.none z.2)

  same_cell : e ≡ d
  same_cell = some_same e d
      (sym lv.here ∙ ap (λ z. slice_get z s) (h.noted.signals ∙ en.signals) ∙ set_here b0.cells.signals.items s d ls)

  len_between : length b2.emitted.items ≡ length b0.emitted.items
  len_between = h.noted.emitted.len ∙ ap length en.emitted ∙ length-set b0.emitted.items s en.fresh

  at_signal : (r : ℕ) (t : Emitted) → slice_get b0.emitted.items r ≡ Some t → (b : Bool) → (r == s) ≡ b →
      (u : Emitted) × (slice_get b3.emitted.items r ≡ Some u) × Adds (T.kind r) (cells_of r (without s a.bag)) t u
  at_signal r t e true q =
      let same : r ≡ s = eqb-true r s q in
      let back : slice_get b3.emitted.items s ≡ Some outer.emitted = ap (λ z. slice_get z s) lv.emitted ∙ set_here
      b2.emitted.items s outer.emitted (subst (λ n. s < n) (sym len_between) le) in
      let old : outer.emitted ≡ t = some_same outer.emitted t
      (sym en.emissions ∙ ap (slice_get b0.emitted.items) (sym same) ∙ e) in (
        t,
        ap (slice_get b3.emitted.items) same ∙ back ∙ ap Some old,
        subst (λ cs. Adds (T.kind r) cs t t)
            (sym (ap (λ n. cells_of n (without s a.bag)) same ∙ cells-without-same s a.bag))
            (adds_none (T.kind r) t),
      )
  at_signal r t e false q =
      let ne = eqb-false r s q in
      let in1 : slice_get b1.emitted.items r ≡ Some t = ap (λ z. slice_get z r) en.emitted ∙ set_other
      b0.emitted.items s r en.fresh ne ∙ e in
      let z = h.noted.emitted.adds r t in1 in (
        z.0,
        ap (λ z. slice_get z r) lv.emitted ∙ set_other b2.emitted.items s r outer.emitted ne ∙ z.1,
        subst (λ cs. Adds (T.kind r) cs t z.0) (sym (cells-without-other r s a.bag q)) z.2,
      )

  left_done : y.code ≡ x.code → selection_at y.next ≡ mark_map (scope_mark e) (selection_at x.next) → Done T
      (leave T s (wrapped (scope_mark d) a)) y b0 b3
  left_done code next = record {
    code = code ∙ h.code;
    next = next ∙ ap (λ c. mark_map (scope_mark c) (selection_at x.next)) same_cell ∙ ap
        (mark_map (scope_mark d)) h.next;
    noted = record {
      signals = lv.signals ∙ ap (λ z. set z s outer.cell) (h.noted.signals ∙ en.signals) ∙ set_back
          b0.cells.signals.items s outer.cell d en.cell;
      args = lv.args ∙ h.noted.args ∙ en.args;
      emitted = record {
        len = ap length lv.emitted ∙ length-set b2.emitted.items s outer.emitted ∙ len_between;
        adds = λ r t e. at_signal r t e (r == s) refl;
      };
      touches = ap (map touch_of) lv.touches ∙ h.noted.touches ∙ ap (λ z. map touch_of z ++ a.touches) en.touches;
      fault = met_last fault_place (place_of_fault b0.fault) (place_of_fault b2.fault) (place_of_fault b3.fault)
          a.faults (overflow_by T s (values_of T s a.bag))
          (h.noted.fault ∙ ap (λ z. least (place_of_fault z) (map fault_place a.faults)) en.fault)
          (lv.judged.fault (values_of T s a.bag) inner_counts);
      doubled = met_last (signal_place T) (place_of_signal T b0.doubled) (place_of_signal T b2.doubled)
          (place_of_signal T b3.doubled) a.doubled (doubled_by T s (values_of T s a.bag))
          (h.noted.doubled ∙ ap (λ z. least (place_of_signal T z) (map (signal_place T) a.doubled)) en.doubled)
          (lv.judged.doubled (values_of T s a.bag) inner_counts);
    };
  }

module _ (T : Table) (s : ℕ) (q : Env → Option Stepped) (d : SigCell) (b0 b3 : LastPass) where
  pub local_unsolved : (is_decided d.status && is_known d.value) ≡ false → Did T
      (local_in T s q (env_of b0.cells.signals.items) d) None b0 b3
  local_unsolved e = subst (λ b. Did T (cond b
      (q (put (env_of b0.cells.signals.items) s d) >>= (λ a. Some (leave T s (wrapped (scope_mark d) a)))) None) None
      b0 b3) (sym e) tt

  module _ (b1 : LastPass) (outer : Outer) (e : (is_decided d.status && is_known d.value) ≡ true)
      (ls : s < length b0.cells.signals.items) (en : Entered s d outer b0 b1) where
    inside : env_of b1.cells.signals.items ≡ put (env_of b0.cells.signals.items) s d
    inside = ap env_of en.signals ∙ put_is_set b0.cells.signals.items s d ls

    by_inside : (r : Option Completion) → Did T
        (q (env_of b1.cells.signals.items) >>= (λ a. Some (leave T s (wrapped (scope_mark d) a)))) r b0 b3 → Did T
        (local_in T s q (env_of b0.cells.signals.items) d) r b0 b3
    by_inside r h = subst (λ b. Did T (cond b
        (q (put (env_of b0.cells.signals.items) s d) >>= (λ a. Some (leave T s (wrapped (scope_mark d) a)))) None) r
        b0 b3) (sym e)
        (subst (λ F. Did T (q F >>= (λ a. Some (leave T s (wrapped (scope_mark d) a)))) r b0 b3) inside h)

    pub local_open : (b2 : LastPass) → Did T (q (env_of b1.cells.signals.items)) None b1 b2 → Did T
        (local_in T s q (env_of b0.cells.signals.items) d) None b0 b3
    local_open b2 h = by_inside None (go (q (env_of b1.cells.signals.items)) h)
      where
        go : (o : Option Stepped) → Did T o None b1 b2 → Did T
            (o >>= (λ a. Some (leave T s (wrapped (scope_mark d) a)))) None b0 b3
        go None h = tt
        go (Some a) h = absurd h

    pub local_did : (b2 : LastPass) (u : SigCell) (x y : Completion) → s < length b0.emitted.items → Did T
        (q (env_of b1.cells.signals.items)) (Some x) b1 b2 → Left T s outer u b2 b3 → y.code ≡ x.code →
        selection_at y.next ≡ mark_map (scope_mark u) (selection_at x.next) → Did T
        (local_in T s q (env_of b0.cells.signals.items) d) (Some y) b0 b3
    local_did b2 u x y le h lv code next = by_inside (Some y) (go (q (env_of b1.cells.signals.items)) h)
      where
        go : (o : Option Stepped) → Did T o (Some x) b1 b2 → Did T
            (o >>= (λ a. Some (leave T s (wrapped (scope_mark d) a)))) (Some y) b0 b3
        go None h = absurd h
        go (Some a) h = left_done T s d u outer a x y b0 b1 b2 b3 ls le en h lv code next

-- ---- statements without parts

pub completes_done : (T : Table) (k : ℕ) (x : Completion) (b : LastPass) → x.code ≡ k → selection_at x.next ≡ None →
    Done T (completes k) x b b
completes_done T k x b e f = record { code = e; next = f; noted = noted_none T b }

pub rests_done : (T : Table) (m : Selection) (x : Completion) (b : LastPass) → x.code ≡ 1 → selection_at x.next ≡
    Some m → Done T (rests m []) x b b
rests_done T m x b e f = record { code = e; next = f; noted = noted_none T b }

pub emit_did : (T : Table) (s : ℕ) (c : Cell) (x : Completion) (b0 b1 b2 : LastPass) → is_known c ≡ true → x.code ≡ 0
    → selection_at x.next ≡ None → Noted T [] [] (fault_in c) [] b0 b1 → Noted T ((s, c) ∷ []) [] [] [] b1 b2 → Did
    T (emit_step s c) (Some x) b0 b2
emit_did T s cell.Unknown x b0 b1 b2 k e f h g = cc
emit_did T s (cell.Known v) x b0 b1 b2 k e f h g = record {
  code = e;
  next = f;
  noted = noted_both T [] ((s, cell.Known v) ∷ []) [] [] [] [] [] [] b0 b1 b2 h g;
}
emit_did T s (cell.Faulted at z) x b0 b1 b2 k e f h g = record {
  code = e;
  next = f;
  noted = noted_both T [] ((s, cell.Faulted at z) ∷ []) [] [] ((at, z) ∷ []) [] [] [] b0 b1 b2 h g;
}

pub emit_open : (T : Table) (s : ℕ) (c : Cell) (b0 b1 : LastPass) → is_known c ≡ false → Did T (emit_step s c) None b0
    b1
emit_open T s cell.Unknown b0 b1 k = tt
emit_open T s (cell.Known v) b0 b1 k = cc
emit_open T s (cell.Faulted at z) b0 b1 k = cc

-- ---- an instance that is started

faulty : (c : Cell) (a : Stepped) → with_fault c a ≡ record a { faults = fault_in c ++ a.faults }
faulty cell.Unknown a = refl
faulty (cell.Known v) a = refl
faulty (cell.Faulted at k) a = refl

pub all_faults : (cs : List Cell) (a : Stepped) → add_faults cs a ≡ record a { faults = faults_in cs ++ a.faults }
all_faults [] a = refl
all_faults (c ∷ cs) a = ap (with_fault c) (all_faults cs a) ∙ faulty c (record a { faults = faults_in cs ++ a.faults })
    ∙ ap (λ fs. let z : Stepped = record a { faults = fs } in z)
    (sym (append_assoc (fault_in c) (faults_in cs) a.faults))

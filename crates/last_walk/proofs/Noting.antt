-- What a walk notes in the parts of a statement makes what it notes in the whole.
use Rattle.std.proofs.Common.{◌≡◌, refl, sym, ap, ◌∙◌, subst, ℕ, ◌+◌, ◌<◌, Bool, true, false, cond, ◌==◌, max}
use Rattle.std.proofs.Common.{Option, Some, None, List, [], ◌∷◌, ◌++◌, length, map, set, slice_get, take, drop}
use Rattle.std.proofs.Common.{append-nil, append_assoc, suc, arith, ◌≢◌, ◌≤◌, eqb-true, eq-eqb, Vec, Global}
use Rattle.std.specs.Prelude.{ℤ, pos, ◌+ℤ◌}
use Rattle.std.proofs.lemmas.Int.{ints}
use Rattle.std.proofs.lemmas.Bool.{eqb-false}
use Rattle.std.proofs.lemmas.Option.{slice_get_within}
use Rattle.std.proofs.lemmas.List.{length-append, map-append}
use Rattle.std.proofs.Math.ListN.{length-set}
use Rattle.hh_base.specs.declared.value.Pos.{Pos}
use Rattle.hh_base.specs.declared.value.Kind.{Kind}
use Rattle.hh_base.specs.declared.value.Value.{Value}
use Rattle.hh_base.specs.declared.value.Value.TheVariants as value
use Rattle.hh_base.specs.declared.value.FaultKind.{FaultKind}
use Rattle.host_expr.specs.declared.cell.Cell.{Cell}
use Rattle.host_expr.specs.declared.cell.Cell.TheVariants as cell
use Rattle.host_expr.specs.Combination.{counts_as, numbers_in, whole_sum}
use Rattle.host_expr.specs.Evaluation.{truth}
use Rattle.hh_term.specs.Selection.{Selection, Inside}
use Rattle.hh_term.specs.MustCan.{Table, Bag, cells_of, lower}
use Rattle.hh_term.specs.Step.{Stepped, wrap, wrapped, on_test, joined, then_start, beside}
use Rattle.hh_term.specs.Step.{trap_step, both_marks, mark_map, ◌>>=◌}
use Rattle.hh_term.specs.Touches.{Touch, stopped}
use Rattle.status_table.proofs.Meeting.{cells-append}
use Rattle.status_table.proofs.Reading.{set_here, set_other, set_twice}
use Rattle.last_walk.specs.declared.touch.Touch.{Touch as ATouch}
use Rattle.last_walk.specs.declared.last_pass.Emitted.{Emitted}
use Rattle.last_walk.specs.declared.last_pass.LastPass.{LastPass}
use Rattle.last_walk.specs.declared.completion.Completion.{Completion}
use Rattle.last_walk.specs.LastWalk.{touch_of, selection_at, sum_of, Adds, EmittedMore, least, fault_place}
use Rattle.last_walk.specs.LastWalk.{place_of_fault, place_of_signal, signal_place, Noted, Done, Did, Wrapped}
use Rattle.last_walk.specs.LastWalk.{ends_at, Trapped, Tested, stopped_from, Beside}
use Rattle.last_walk.proofs.Least.{least_append}

some_same : {A : Type 0} (x y : A) → Some x ≡ Some y → x ≡ y
some_same x y e = cc

-- ---- emissions

sum_end : (n : ℤ) → n ≡ n +ℤ pos 0
sum_end n = omega (arith, ints)

sum_turn : (a n b : ℤ) → a +ℤ (n +ℤ b) ≡ (a +ℤ n) +ℤ b
sum_turn a n b = omega (arith, ints)

zero_sum : (n : ℤ) → pos 0 +ℤ n ≡ n
zero_sum n = omega (arith, ints)

pub sum_append : (xs ys : List Value) → whole_sum (numbers_in (xs ++ ys)) ≡ whole_sum (numbers_in xs) +ℤ whole_sum
    (numbers_in ys)
sum_append [] ys = sym (zero_sum (whole_sum (numbers_in ys)))
sum_append (value.Int n ∷ xs) ys = ap (λ z. n +ℤ z) (sum_append xs ys) ∙ sum_turn n (whole_sum (numbers_in xs))
    (whole_sum (numbers_in ys))
sum_append (value.Unit ∷ xs) ys = sum_append xs ys
sum_append (value.Bool b ∷ xs) ys = sum_append xs ys
sum_append (value.Text t ∷ xs) ys = sum_append xs ys

pub sum_of_append : (k : Kind) (xs ys : List Cell) → sum_of k (xs ++ ys) ≡ sum_of k xs +ℤ sum_of k ys
sum_of_append k xs ys = ap (λ z. whole_sum (numbers_in z)) (map-append (counts_as k) xs ys) ∙ sum_append
    (map (counts_as k) xs) (map (counts_as k) ys)

pub adds_none : (k : Kind) (x : Emitted) → Adds k [] x x
adds_none k x = record { count = omega arith; sum = sum_end x.sum }

pub adds_both : (k : Kind) (xs ys : List Cell) (x y z : Emitted) → Adds k xs x y → Adds k ys y z → Adds k (xs ++ ys)
    x z
adds_both k xs ys x y z h g = record {
  count = g.count ∙ ap (λ n. n + length ys) h.count ∙ counted x.count (length xs) (length ys) ∙ ap
      (λ n. x.count + n) (sym (length-append xs ys));
  sum = g.sum ∙ ap (λ n. n +ℤ sum_of k ys) h.sum ∙ sym (sum_turn x.sum (sum_of k xs) (sum_of k ys)) ∙ ap
      (λ n. x.sum +ℤ n) (sym (sum_of_append k xs ys));
}
  where
    counted : (a b c : ℕ) → (a + b) + c ≡ a + (b + c)
    counted a b c = omega arith

pub emitted_none : (T : Table) (es : List Emitted) → EmittedMore T [] es es
emitted_none T es = record { len = refl; adds = λ s x e. (x, e, adds_none (T.kind s) x) }

pub emitted_both : (T : Table) (f g : Bag) (a b c : List Emitted) → EmittedMore T f a b → EmittedMore T g b c →
    EmittedMore T (f ++ g) a c
emitted_both T f g a b c h k = record {
  len = k.len ∙ h.len;
  adds = λ s x e.
      let y = h.adds s x e in
      let z = k.adds s y.0 y.1 in (
        z.0,
        z.1,
        subst (λ cs. Adds (T.kind s) cs x z.0) (sym (cells-append s f g))
            (adds_both (T.kind s) (cells_of s f) (cells_of s g) x y.0 z.0 y.2 z.2),
      );
}

no_cells : (r s : ℕ) (c : Cell) → r ≢ s → cells_of r ((s, c) ∷ []) ≡ []
no_cells r s c h = at_test (s == r) refl
  where
    at_test : (b : Bool) → (s == r) ≡ b → cond (s == r) (c ∷ []) [] ≡ []
    at_test true q = absurd (h (sym (eqb-true s r q)))
    at_test false q = ap (λ b. cond b (c ∷ []) []) q

-- one emission more of a signal
pub one_emitted : (T : Table) (s : ℕ) (c : Cell) (es : List Emitted) (t u x : Emitted) → s < length es → slice_get es
    s ≡ Some t → ((k : Kind) → Adds k (c ∷ []) t u) → EmittedMore T ((s, c) ∷ []) es (set (set es s x) s u)
one_emitted T s c es t u x h here adds = subst (EmittedMore T ((s, c) ∷ []) es) (sym (set_twice es s u x))
    (record { len = length-set es s u; adds = λ r v e. at_test r v e (r == s) refl })
  where
    at_test : (r : ℕ) (v : Emitted) → slice_get es r ≡ Some v → (b : Bool) → (r == s) ≡ b → (z : Emitted) ×
        (slice_get (set es s u) r ≡ Some z) × Adds (T.kind r) (cells_of r ((s, c) ∷ [])) v z
    at_test r v e true q =
        let same : r ≡ s = eqb-true r s q in
        let old : t ≡ v = some_same t v (sym here ∙ ap (slice_get es) (sym same) ∙ e) in
        let cells : cells_of r ((s, c) ∷ []) ≡ c ∷ [] = ap (λ b. cond b (c ∷ []) [])
        (eq-eqb s r (sym same)) in (
          u,
          ap (slice_get (set es s u)) same ∙ set_here es s u h,
          subst (λ cs. Adds (T.kind r) cs v u) (sym cells)
              (subst (λ z. Adds (T.kind r) (c ∷ []) z u) old (adds (T.kind r))),
        )
    at_test r v e false q = (
      v,
      set_other es s r u (eqb-false r s q) ∙ e,
      subst (λ cs. Adds (T.kind r) cs v v) (sym (no_cells r s c (eqb-false r s q))) (adds_none (T.kind r) v),
    )

pub past_emitted : (T : Table) (s : ℕ) (c : Cell) (es : List Emitted) → length es ≤ s → EmittedMore T ((s, c) ∷ []) es
    es
past_emitted T s c es h = record {
  len = refl;
  adds = λ r v e.
      let lt = slice_get_within es r v e in (
        v,
        e,
        subst (λ cs. Adds (T.kind r) cs v v) (sym (no_cells r s c (λ q. absurd (omega arith)))) (adds_none (T.kind r) v),
      );
}

-- ---- what is noted

pub noted_emission : (T : Table) (s : ℕ) (c : Cell) (b : LastPass) (es : Vec Emitted Global) → EmittedMore T
    ((s, c) ∷ []) b.emitted.items es.items → Noted T ((s, c) ∷ []) [] [] [] b (record b { emitted = es })
noted_emission T s c b es h = record {
  signals = refl;
  args = refl;
  emitted = h;
  touches = sym (append-nil (map touch_of b.touches.items));
  fault = refl;
  doubled = refl;
}

pub noted_none : (T : Table) (b : LastPass) → Noted T [] [] [] [] b b
noted_none T b = record {
  signals = refl;
  args = refl;
  emitted = emitted_none T b.emitted.items;
  touches = sym (append-nil (map touch_of b.touches.items));
  fault = refl;
  doubled = refl;
}

pub least_both : {A : Type 0} (f : A → ℕ) (m n k : Option ℕ) (xs ys : List A) → n ≡ least m (map f xs) → k ≡ least n
    (map f ys) → k ≡ least m (map f (xs ++ ys))
least_both f m n k xs ys e g = g ∙ ap (λ z. least z (map f ys)) e ∙ sym
    (ap (least m) (map-append f xs ys) ∙ least_append m (map f xs) (map f ys))

pub noted_both : (T : Table) (f g : Bag) (ts us : List Touch) (fs hs : List (Pos × FaultKind)) (ds es : List ℕ)
    (b0 b1 b2 : LastPass) → Noted T f ts fs ds b0 b1 → Noted T g us hs es b1 b2 → Noted T (f ++ g) (ts ++ us)
    (fs ++ hs) (ds ++ es) b0 b2
noted_both T f g ts us fs hs ds es b0 b1 b2 x y = record {
  signals = y.signals ∙ x.signals;
  args = y.args ∙ x.args;
  emitted = emitted_both T f g b0.emitted.items b1.emitted.items b2.emitted.items x.emitted y.emitted;
  touches = y.touches ∙ ap (λ z. z ++ us) x.touches ∙ append_assoc (map touch_of b0.touches.items) ts us;
  fault = least_both fault_place (place_of_fault b0.fault) (place_of_fault b1.fault) (place_of_fault b2.fault) fs hs
      x.fault y.fault;
  doubled = least_both (signal_place T) (place_of_signal T b0.doubled) (place_of_signal T b1.doubled)
      (place_of_signal T b2.doubled) ds es x.doubled y.doubled;
}

-- ---- completions

module _ (T : Table) (b0 b1 : LastPass) where
  pub wrap_did : (f : Selection → Selection) (o : Option Stepped) (r r' : Option Completion) → Did T o r b0 b1 →
      Wrapped f r r' → Did T (wrap f o) r' b0 b1
  wrap_did f None None None h w = tt
  wrap_did f None None (Some e) h w = absurd w
  wrap_did f None (Some e) r' h w = absurd h
  wrap_did f (Some a) None r' h w = absurd h
  wrap_did f (Some a) (Some e) None h w = absurd w
  wrap_did f (Some a) (Some e) (Some e') h w = record
      { code = w.0 ∙ h.code; next = w.1 ∙ ap (mark_map f) h.next; noted = h.noted }

  pub trap_did : (o : Option Stepped) (r r' : Option Completion) → Did T o r b0 b1 → Trapped r r' → Did T
      (o >>= (λ a. Some (trap_step a))) r' b0 b1
  trap_did None None None h w = tt
  trap_did None None (Some e) h w = absurd w
  trap_did None (Some e) r' h w = absurd h
  trap_did (Some a) None r' h w = absurd h
  trap_did (Some a) (Some e) None h w = absurd w
  trap_did (Some a) (Some e) (Some e') h w = record {
    code = w.0 ∙ ap lower h.code;
    next = w.1 ∙ ap (mark_map Inside) h.next;
    noted = h.noted;
  }

  -- the first does not end, or is undefined
  pub stop_did : (f g : Selection → Selection) (o q : Option Stepped) (r r' : Option Completion) → Did T o r b0 b1 →
      ends_at r ≡ false → Wrapped f r r' → Did T (then_start f g o q) r' b0 b1
  stop_did f g None q None None h e w = tt
  stop_did f g None q None (Some x) h e w = absurd w
  stop_did f g None q (Some x) r' h e w = absurd h
  stop_did f g (Some a) q None r' h e w = absurd h
  stop_did f g (Some a) q (Some x) None h e w = absurd w
  stop_did f g (Some a) q (Some x) (Some y) h e w =
      let z : (a.code == 0) ≡ false = ap (λ n. n == 0) (sym h.code) ∙ e in
      subst (λ b. Did T (cond b (q >>= (λ b. Some (joined a (wrapped g b)))) (Some (wrapped f a))) (Some y) b0 b1)
      (sym z) (wrap_did f (Some a) (Some x) (Some y) h w)

  pub go_did : (b2 : LastPass) (f g : Selection → Selection) (o q : Option Stepped) (r s s' : Option Completion) →
      Did T o r b0 b1 → ends_at r ≡ true → Did T q s b1 b2 → Wrapped g s s' → Did T (then_start f g o q) s' b0 b2
  go_did b2 f g None q None s s' h e k w = cc
  go_did b2 f g None q (Some x) s s' h e k w = absurd h
  go_did b2 f g (Some a) q None s s' h e k w = absurd h
  go_did b2 f g (Some a) q (Some x) s s' h e k w =
      let z : (a.code == 0) ≡ true = ap (λ n. n == 0) (sym h.code) ∙ e in
      subst (λ b. Did T (cond b (q >>= (λ b. Some (joined a (wrapped g b)))) (Some (wrapped f a))) s' b0 b2)
      (sym z) (second q s s' k w)
    where
      second : (q : Option Stepped) (s s' : Option Completion) → Did T q s b1 b2 → Wrapped g s s' → Did T
          (q >>= (λ b. Some (joined a (wrapped g b)))) s' b0 b2
      second None None None k w = tt
      second None None (Some y) k w = absurd w
      second None (Some y) s' k w = absurd k
      second (Some b) None s' k w = absurd k
      second (Some b) (Some y) None k w = absurd w
      second (Some b) (Some y) (Some v) k w = record {
        code = w.0 ∙ k.code;
        next = w.1 ∙ ap (mark_map g) k.next;
        noted = noted_both T a.bag b.bag a.touches b.touches a.faults b.faults a.doubled b.doubled b0 b1 b2
            h.noted k.noted;
      }

  -- ---- tests

  pub test_open : (x : Cell) (p q : Option Stepped) (b2 : LastPass) → Tested T x None b0 b1 → Did T (on_test x p q)
      None b0 b2
  test_open cell.Unknown p q b2 h = tt
  test_open (cell.Known v) p q b2 h = let no = h.is in cc
  test_open (cell.Faulted at k) p q b2 h = let no = h.is in cc

  later : (p : Option Stepped) (r : Option Completion) (b2 : LastPass) → Noted T [] [] [] [] b0 b1 → Did T p r b1
      b2 → Did T p r b0 b2
  later None None b2 h k = tt
  later None (Some e) b2 h k = absurd k
  later (Some a) None b2 h k = absurd k
  later (Some a) (Some e) b2 h k = record {
    code = k.code;
    next = k.next;
    noted = noted_both T [] a.bag [] a.touches [] a.faults [] a.doubled b0 b1 b2 h k.noted;
  }

  pub test_holds : (x : Cell) (p q : Option Stepped) (r : Option Completion) (b2 : LastPass) → Tested T x
      (Some true) b0 b1 → Did T p r b1 b2 → Did T (on_test x p q) r b0 b2
  test_holds cell.Unknown p q r b2 h k = let no = h.is in cc
  test_holds (cell.Known v) p q r b2 h k =
      subst (λ b. Did T (cond b p q) r b0 b2) (some_same true (truth v) h.is) (later p r b2 h.noted k)
  test_holds (cell.Faulted at f) p q r b2 h k = let no = h.is in cc

  pub test_fails : (x : Cell) (p q : Option Stepped) (r : Option Completion) (b2 : LastPass) → Tested T x
      (Some false) b0 b1 → Did T q r b1 b2 → Did T (on_test x p q) r b0 b2
  test_fails cell.Unknown p q r b2 h k = let no = h.is in cc
  test_fails (cell.Known v) p q r b2 h k =
      subst (λ b. Did T (cond b p q) r b0 b2) (some_same false (truth v) h.is) (later q r b2 h.noted k)
  test_fails (cell.Faulted at f) p None None b2 h k = tt
  test_fails (cell.Faulted at f) p None (Some e) b2 h k = absurd k
  test_fails (cell.Faulted at f) p (Some a) None b2 h k = absurd k
  test_fails (cell.Faulted at f) p (Some a) (Some e) b2 h k = record {
    code = k.code;
    next = k.next;
    noted = noted_both T [] a.bag [] a.touches ((at, f) ∷ []) a.faults [] a.doubled b0 b1 b2 h.noted k.noted;
  }

-- ---- two parts

took : {A : Type 0} (xs ys zs : List A) → zs ≡ xs ++ ys → take (length xs) zs ≡ xs
took [] ys zs e = refl
took (x ∷ xs) ys zs e = ap (take (length (x ∷ xs))) e ∙ ap (λ z. x ∷ z) (took xs ys (xs ++ ys) refl)

dropped : {A : Type 0} (xs ys zs : List A) → zs ≡ xs ++ ys → drop (length xs) zs ≡ ys
dropped [] ys zs e = e
dropped (x ∷ xs) ys zs e = ap (drop (length (x ∷ xs))) e ∙ dropped xs ys (xs ++ ys) refl

pub stopped_behind : (n : ℕ) (xs ys zs : List Touch) → n ≡ length xs → zs ≡ xs ++ ys → stopped_from n zs ≡ xs ++
    map stopped ys
stopped_behind n xs ys zs e f = ap (λ m. stopped_from m zs) e ∙ ap (λ t. t ++ map stopped (drop (length xs) zs))
    (took xs ys zs f) ∙ ap (λ t. xs ++ map stopped t) (dropped xs ys zs f)

length_touches : (b : LastPass) → length b.touches.items ≡ length (map touch_of b.touches.items)
length_touches b = go b.touches.items
  where
    go : (xs : List ATouch) → length xs ≡ length (map touch_of xs)
    go [] = refl
    go (x ∷ xs) = ap suc (go xs)

pub beside_did : (T : Table) (n : ℕ) (o q : Option Stepped) (x y z : Completion) (b0 b1 b2 b3 : LastPass) → n ≡
    length b0.touches.items → Did T o (Some x) b0 b1 → Did T q (Some y) b1 b2 → Beside n x y z b2 b3 → Did T
    (o >>= (λ a. q >>= (λ b. Some (beside a b)))) (Some z) b0 b3
beside_did T n None q x y z b0 b1 b2 b3 e h k w = absurd h
beside_did T n (Some a) None x y z b0 b1 b2 b3 e h k w = absurd k
beside_did T n (Some a) (Some b) x y z b0 b1 b2 b3 e h k w =
    let code : z.code ≡ max a.code b.code = w.code ∙ ap (λ m. max m y.code) h.code ∙ ap (max a.code) k.code in
    at_code (z.code == 1) refl code
  where
    both : Noted T (a.bag ++ b.bag) (a.touches ++ b.touches) (a.faults ++ b.faults) (a.doubled ++ b.doubled) b0 b2
    both = noted_both T a.bag b.bag a.touches b.touches a.faults b.faults a.doubled b.doubled b0 b1 b2 h.noted
        k.noted

    whole : Stepped
    whole = record (joined a b) { code = max a.code b.code; next = both_marks a.next b.next }

    touches_at : (ts : List Touch) → map touch_of b3.touches.items ≡ map touch_of b0.touches.items ++ ts → Noted T
        (a.bag ++ b.bag) ts (a.faults ++ b.faults) (a.doubled ++ b.doubled) b0 b3
    touches_at ts q = record {
      signals = ap (λ p. p.cells.signals.items) w.same ∙ both.signals;
      args = ap (λ p. p.cells.args.items) w.same ∙ both.args;
      emitted = subst (λ p. EmittedMore T (a.bag ++ b.bag) b0.emitted.items p.emitted.items) (sym w.same)
          both.emitted;
      touches = q;
      fault = ap (λ p. place_of_fault p.fault) w.same ∙ both.fault;
      doubled = ap (λ p. place_of_signal T p.doubled) w.same ∙ both.doubled;
    }

    at_code : (v : Bool) → (z.code == 1) ≡ v → z.code ≡ max a.code b.code → Did T (Some (beside a b)) (Some z) b0 b3
    at_code true p c =
        let u : (max a.code b.code == 1) ≡ true = ap (λ m. m == 1) (sym c) ∙ p in
        subst (λ v. Done T (cond v whole (record whole { next = None; touches = map stopped whole.touches })) z b0
        b3) (sym u)
        (record {
          code = c;
          next = w.next ∙ ap (λ v. cond v (both_marks (selection_at x.next) (selection_at y.next)) None) p ∙ ap
              (λ m. both_marks m (selection_at y.next)) h.next ∙ ap (both_marks a.next) k.next;
          noted = touches_at (a.touches ++ b.touches)
              (w.touched ∙ ap (λ v. cond v (map touch_of b2.touches.items)
              (stopped_from n (map touch_of b2.touches.items))) p ∙ both.touches);
        })
    at_code false p c =
        let u : (max a.code b.code == 1) ≡ false = ap (λ m. m == 1) (sym c) ∙ p in
        subst (λ v. Done T (cond v whole (record whole { next = None; touches = map stopped whole.touches })) z b0
        b3) (sym u)
        (record {
          code = c;
          next = w.next ∙ ap (λ v. cond v (both_marks (selection_at x.next) (selection_at y.next)) None) p;
          noted = touches_at (map stopped (a.touches ++ b.touches))
              (w.touched ∙ ap (λ v. cond v (map touch_of b2.touches.items)
              (stopped_from n (map touch_of b2.touches.items))) p ∙ stopped_behind n
              (map touch_of b0.touches.items) (a.touches ++ b.touches) (map touch_of b2.touches.items)
              (e ∙ length_touches b0) both.touches);
        })

-- the first or the second is undefined
pub first_open : (T : Table) (o : Option Stepped) (f : Stepped → Option Stepped) (b0 b1 b2 : LastPass) → Did T o None
    b0 b1 → Did T (o >>= f) None b0 b2
first_open T None f b0 b1 b2 h = tt
first_open T (Some a) f b0 b1 b2 h = absurd h

pub second_open : (T : Table) (o q : Option Stepped) (r : Option Completion) (b0 b1 b2 b3 : LastPass) → Did T o r b0
    b1 → Did T q None b1 b2 → Did T (o >>= (λ a. q >>= (λ b. Some (beside a b)))) None b0 b3
second_open T None q r b0 b1 b2 b3 h k = tt
second_open T (Some a) None r b0 b1 b2 b3 h k = tt
second_open T (Some a) (Some b) r b0 b1 b2 b3 h k = absurd k

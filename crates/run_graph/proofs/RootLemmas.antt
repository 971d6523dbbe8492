-- How roots are given along an order of finishing, and what they then show.
use Rattle.std.proofs.Common.{◌≡◌, ℕ, zero, suc, ◌<◌, ◌+◌, true, false, Option, Some, None, is_some, List, []}
use Rattle.std.proofs.Common.{◌∷◌, ◌++◌, length, take, drop, get_or, replicate, reverse, refl, sym, ◌∙◌, ap}
use Rattle.std.proofs.Common.{subst, inl, inr, arith}
use Rattle.std.specs.List.{list_all, range_with_len}
use Rattle.std.proofs.lemmas.Bool.{both_ways, and_from, and_parts, cases_lt}
use Rattle.std.proofs.lemmas.List.{take_more, drop_more, take-append-drop, reverse-append, reverse-reverse}
use Rattle.std.proofs.lemmas.List.{append_assoc, append-nil}
use Rattle.std.proofs.lemmas.Option.{slice_get_past}
use Rattle.module_tree.specs.Runs.{is_among, or_none, is_callees_first, stand_behind_callees}
use Rattle.run_graph.specs.Reach.{callees, Runs, Reaches, itself, by_run, InRange}
use Rattle.run_graph.specs.Search.{IsFinishOrder, HasAll}
use Rattle.run_graph.specs.Callers.{AreCallers}
use Rattle.run_graph.specs.Flood.{root_of, HasRoot, AreClosed, Floods}
use Rattle.run_graph.specs.Components.{IsFirstReached, IsRooting, ShowCycles, HasNoCycle}
use Rattle.run_graph.proofs.Members.{among_head, among_tail, among_cases}
use Rattle.run_graph.proofs.ComponentLemmas.{reaches_on, first_reaches_back, first_is_reached, same_first}
use Rattle.run_graph.proofs.FloodLemmas.{push_cases, push_left, push_last, root_there, kept_has}

no_roots : (k m : ℕ) → root_of (replicate k None) m ≡ None
no_roots zero m = refl
no_roots (suc k) zero = refl
no_roots (suc k) (suc m) = no_roots k m

rootless_has_none : (roots : List (Option ℕ)) (m : ℕ) → root_of roots m ≡ None → HasRoot roots m → ⊥
rootless_has_none roots m e h = both_ways (is_some (root_of roots m)) (ap is_some e) h

-- the callers, turned round
pub callers_in_range : (runs callers : List (List ℕ)) → AreCallers runs callers
    → length callers ≡ length runs → InRange callers
callers_in_range runs callers a l m n r = elim (cases_lt n (length runs)) [
  | inl lt ↦ subst (λ (k : ℕ). n < k) (sym l) lt
  | inr past ↦ absurd (both_ways (is_among (callees runs n) m)
      (ap (λ o. is_among (or_none o) m) (slice_get_past runs n past)) (sym (a n m) ∙ r))
]

turned : (runs callers : List (List ℕ)) (m n : ℕ) → AreCallers runs callers → Reaches callers m n
    → Reaches runs n m
turned runs callers m n a (itself k) = itself k
turned runs callers m n a (by_run k j i r p) = reaches_on runs n j m (turned runs callers j n a p)
    (by_run j k k (sym (a j k) ∙ r) (itself k))

turned_back : (runs callers : List (List ℕ)) (m n : ℕ) → AreCallers runs callers → Reaches runs m n
    → Reaches callers n m
turned_back runs callers m n a (itself k) = itself k
turned_back runs callers m n a (by_run k j i r p) =
    reaches_on callers n j m (turned_back runs callers j n a p) (by_run j k k (a k j ∙ r) (itself k))

closed_on : (graph : List (List ℕ)) (roots : List (Option ℕ)) (m n : ℕ) → AreClosed graph roots
    → Reaches graph m n → HasRoot roots m → HasRoot roots n
closed_on graph roots m n c (itself k) h = h
closed_on graph roots m n c (by_run k j i r p) h = closed_on graph roots j n c p (c k j h r)

first_behind : (runs : List (List ℕ)) (v r : ℕ) (ds rest : List ℕ)
    → ((d : ℕ) → is_among ds d ≡ true → Reaches runs v d → ⊥) → Reaches runs v r
    → IsFirstReached runs v r (ds ++ r ∷ rest)
first_behind runs v r [] rest not p = inl (refl, p)
first_behind runs v r (d ∷ ds) rest not p = inr (
  not d (among_head d ds),
  first_behind runs v r ds rest
      (λ e a. not e (among_tail d ds e a)) p,
)

pub rooting_begins : (runs callers : List (List ℕ)) (order : List ℕ) (roots : List (Option ℕ))
    → roots ≡ replicate (length runs) None → length roots ≡ length runs
    → IsRooting runs callers order [] roots
rooting_begins runs callers order roots is size = record {
  size = size;
  first = λ m r e. absurd (clash (root_of roots m) r (ap (λ rs. root_of rs m) is
      ∙ no_roots (length runs) m) e);
  closed = λ m n h r. absurd (rootless_has_none roots m (ap (λ rs. root_of rs m) is
      ∙ no_roots (length runs) m) h);
  rooted = λ m a. absurd (both_ways false refl a);
}
  where
    clash : (o : Option ℕ) (r : ℕ) → o ≡ None → o ≡ Some r → ⊥
    clash o r a b = cc

pub rooting_goes_on : (runs callers : List (List ℕ)) (order : List ℕ) (k : ℕ) (old new : List (Option ℕ))
    → AreCallers runs callers
    → IsRooting runs callers order (take k order) old → k < length order
    → Floods callers (get_or order k 0) old new
    → IsRooting runs callers order (take (k + 1) order) new
rooting_goes_on runs callers order k old new a i l f = record {
  size = f.size ∙ i.size;
  first = λ m r e. elim (f.given m r e) [
    | inl b ↦ i.first m r b
    | inr b ↦ subst (λ (j : ℕ). IsFirstReached runs m j order) (sym b.0)
        (subst (λ (xs : List ℕ). IsFirstReached runs m (get_or order k 0) xs) parted
        (first_behind runs m (get_or order k 0) (take k order) (drop (k + 1) order)
        (λ d among p. rootless_has_none old m b.1 (closed_on callers old d m i.closed
        (turned_back runs callers m d a p) (i.rooted d among)))
        (turned runs callers (get_or order k 0) m a b.2)))
  ];
  closed = f.closed;
  rooted = λ m among. elim (push_cases (take k order) (get_or order k 0) m
      (ap (λ xs. is_among xs m) (sym (take_more order k 0 l)) ∙ among)) [
        | inl b ↦ kept_has old new f.kept m (i.rooted m b)
        | inr is ↦ subst (λ (j : ℕ). HasRoot new j) is f.rooted
      ];
}
  where
    parted : (take k order ++ get_or order k 0 ∷ drop (k + 1) order) ≡ order
    parted = ap (λ xs. take k order ++ xs) (sym (drop_more order k 0 l)) ∙ take-append-drop k order

caller_there : (runs : List (List ℕ)) (m n : ℕ) → Runs runs m n → m < length runs
caller_there runs m n r = elim (cases_lt m (length runs)) [
  | inl lt ↦ lt
  | inr past ↦ absurd (both_ways (is_among (callees runs m) n)
      (ap (λ o. is_among (or_none o) n) (slice_get_past runs m past)) r)
]

reached_there : (runs : List (List ℕ)) (m n : ℕ) → InRange runs → Reaches runs m n → m < length runs
    → n < length runs
reached_there runs m n i (itself k) l = l
reached_there runs m n i (by_run k j h r p) l = reached_there runs j n i p (i k j r)

pub roots_show : (runs callers : List (List ℕ)) (order : List ℕ) (roots : List (Option ℕ)) → InRange runs
    → IsFinishOrder runs order → HasAll runs order
    → IsRooting runs callers order order roots → ShowCycles runs roots
roots_show runs callers order roots i o all s m n r = record { 0 = to; 1 = from }
  where
    m_there : m < length runs
    m_there = caller_there runs m n r

    root_m : (q : ℕ) × (root_of roots m ≡ Some q)
    root_m = root_there roots m (s.rooted m (all m m_there))

    root_n : (q : ℕ) × (root_of roots n ≡ Some q)
    root_n = root_there roots n (s.rooted n (all n (i m n r)))

    same_some : (a b : ℕ) → Some a ≡ Some b → a ≡ b
    same_some a b e = cc

    to : root_of roots m ≡ root_of roots n → Reaches runs n m
    to e = reaches_on runs n root_n.0 m (first_is_reached runs order n root_n.0 (s.first n root_n.0 root_n.1))
        (subst (λ (q : ℕ). Reaches runs q m) (same_some root_m.0 root_n.0 (sym root_m.1 ∙ e ∙ root_n.1))
        (first_reaches_back runs order m root_m.0 o (λ z p. all z (reached_there runs m z i p m_there))
        (s.first m root_m.0 root_m.1)))

    from : Reaches runs n m → root_of roots m ≡ root_of roots n
    from p = root_m.1 ∙ ap Some (same_first runs order m n root_m.0 root_n.0 (by_run m n n r (itself n)) p
        (s.first m root_m.0 root_m.1) (s.first n root_n.0 root_n.1)) ∙ sym root_n.1

-- ---- the order, where there is no cycle

stand_last : (runs : List (List ℕ)) (done xs : List ℕ) (w : ℕ) → stand_behind_callees runs done xs ≡ true
    → list_all (is_among (reverse xs ++ done)) (callees runs w) ≡ true
    → stand_behind_callees runs done (xs ++ w ∷ []) ≡ true
stand_last runs done [] w a b = and_from (list_all (is_among done) (callees runs w)) true b refl
stand_last runs done (x ∷ xs) w a b =
    let p : (list_all (is_among done) (callees runs x) ≡ true)
    × (stand_behind_callees runs (x ∷ done) xs ≡ true) =
    and_parts (list_all (is_among done) (callees runs x)) (stand_behind_callees runs (x ∷ done) xs) a in
    and_from (list_all (is_among done) (callees runs x))
    (stand_behind_callees runs (x ∷ done) (xs ++ w ∷ [])) p.0
    (stand_last runs (x ∷ done) xs w p.1 (ap (λ ys. list_all (is_among ys) (callees runs w)) (sym moved) ∙ b))
  where
    moved : reverse (x ∷ xs) ++ done ≡ reverse xs ++ x ∷ done
    moved = ap (λ ys. ys ++ done) (reverse-append (x ∷ []) xs) ∙ append_assoc (reverse xs) (x ∷ []) done

all_among : (xs ys : List ℕ) → ((n : ℕ) → is_among ys n ≡ true → is_among xs n ≡ true)
    → list_all (is_among xs) ys ≡ true
all_among xs [] h = refl
all_among xs (y ∷ ys) h = and_from (is_among xs y) (list_all (is_among xs) ys) (h y (among_head y ys))
    (all_among xs ys (λ n a. h n (among_tail y ys n a)))

finished_stand : (runs : List (List ℕ)) (ws : List ℕ) → IsFinishOrder runs ws → HasNoCycle runs
    → stand_behind_callees runs [] (reverse ws) ≡ true
finished_stand runs [] o c = refl
finished_stand runs (w ∷ ws) (apart, to, o) c =
    subst (λ (xs : List ℕ). stand_behind_callees runs [] xs ≡ true) (sym (reverse-append (w ∷ []) ws))
    (stand_last runs [] (reverse ws) w (finished_stand runs ws o c)
    (ap (λ xs. list_all (is_among xs) (callees runs w)) (append-nil (reverse (reverse ws))
    ∙ reverse-reverse ws) ∙ all_among ws (callees runs w)
    (λ n a. elim (to w n (among_head w ws) a) [ inl b ↦ b | inr p ↦ absurd (c w n a p) ])))

all_of_range : (xs : List ℕ) (from len : ℕ) → ((m : ℕ) → m < from + len → is_among xs m ≡ true)
    → list_all (is_among xs) (range_with_len from len) ≡ true
all_of_range xs from zero h = refl
all_of_range xs from (suc len) h = and_from (is_among xs from)
    (list_all (is_among xs) (range_with_len (from + 1) len)) (h from (omega arith))
    (all_of_range xs (from + 1) len (λ m l. h m (omega arith)))

among_reverse : (xs : List ℕ) (m : ℕ) → is_among xs m ≡ true → is_among (reverse xs) m ≡ true
among_reverse [] m a = a
among_reverse (x ∷ xs) m a = subst (λ (ys : List ℕ). is_among ys m ≡ true)
    (sym (reverse-append (x ∷ []) xs)) (elim (among_cases x xs m a) [
      | inl is ↦ subst (λ (j : ℕ). is_among (reverse xs ++ x ∷ []) j ≡ true) is (push_last (reverse xs) x)
      | inr b ↦ push_left (reverse xs) x m (among_reverse xs m b)
    ])

pub callees_come_first : (runs : List (List ℕ)) (finished : List ℕ) → IsFinishOrder runs (reverse finished)
    → HasAll runs (reverse finished) → HasNoCycle runs → is_callees_first runs finished ≡ true
callees_come_first runs finished o all c =
    and_from (list_all (is_among finished) (range_with_len 0 (length runs)))
    (stand_behind_callees runs [] finished)
    (all_of_range finished 0 (length runs) (λ m l. subst (λ (xs : List ℕ). is_among xs m ≡ true)
    (reverse-reverse finished) (among_reverse (reverse finished) m (all m (omega arith)))))
    (subst (λ (xs : List ℕ). stand_behind_callees runs [] xs ≡ true) (reverse-reverse finished)
    (finished_stand runs (reverse finished) o c))

-- The steps of a flood.
use Rattle.std.proofs.Common.{◌≡◌, ℕ, zero, suc, ◌<◌, ◌+◌, ◌==◌, ◌⊎◌, true, false, Option, Some, None}
use Rattle.std.proofs.Common.{is_some, List, [], ◌∷◌, ◌++◌, length, take, set, get_or, slice_get, refl, sym}
use Rattle.std.proofs.Common.{◌∙◌, ap, subst, inl, inr, arith}
use Rattle.std.proofs.lemmas.Bool.{cases_eq, both_ways, or_cases, or_left, or_right, eqb-true, eq-eqb}
use Rattle.std.proofs.lemmas.List.{length-set, length-append, get_or-set_same, get_or-set_other, take_more}
use Rattle.module_tree.specs.Runs.{is_among, or_none}
use Rattle.run_graph.specs.Reach.{callees, Runs, Reaches, itself, by_run}
use Rattle.run_graph.specs.Flood.{root_of, HasRoot, rootless, AreClosed, Spreads, Floods, IsFlooding}
use Rattle.run_graph.proofs.Members.{among_head, among_cases}
use Rattle.run_graph.proofs.CallersLemmas.{among_push}
use Rattle.run_graph.proofs.ComponentLemmas.{reaches_on}

pub push_cases : (xs : List ℕ) (y m : ℕ) → is_among (xs ++ y ∷ []) m ≡ true → (is_among xs m ≡ true) ⊎ (y ≡ m)
push_cases xs y m e = elim (or_cases (is_among xs m) (y == m) (sym (among_push xs y m) ∙ e))
    [ inl a ↦ inl a | inr b ↦ inr (eqb-true y m b) ]

pub push_left : (xs : List ℕ) (y m : ℕ) → is_among xs m ≡ true → is_among (xs ++ y ∷ []) m ≡ true
push_left xs y m e = among_push xs y m ∙ or_left (is_among xs m) (y == m) e

pub push_last : (xs : List ℕ) (y : ℕ) → is_among (xs ++ y ∷ []) y ≡ true
push_last xs y = among_push xs y y ∙ or_right (is_among xs y) (y == y) (eq-eqb y y refl)

rootless_set : (roots : List (Option ℕ)) (m r : ℕ) → m < length roots → root_of roots m ≡ None
    → rootless (set roots m (Some r)) + 1 ≡ rootless roots
rootless_set [] m r l e = absurd (omega arith)
rootless_set (None ∷ rs) zero r l e = omega arith
rootless_set (Some s ∷ rs) zero r l e = absurd (cc)
rootless_set (None ∷ rs) (suc m) r l e = let h : rootless (set rs m (Some r)) + 1 ≡ rootless rs =
    rootless_set rs m r (omega arith) e in omega arith
rootless_set (Some s ∷ rs) (suc m) r l e = rootless_set rs m r (omega arith) e

-- a root is given to one module
kept_set : (roots : List (Option ℕ)) (m n r s : ℕ) → root_of roots m ≡ None → root_of roots n ≡ Some s
    → root_of (set roots m (Some r)) n ≡ Some s
kept_set roots m n r s e h = get_or-set_other roots m n (Some r) None
    (λ is. absurd (clash (root_of roots m) (root_of roots n) (ap (root_of roots) (sym is)) e h)) ∙ h
  where
    clash : (a b : Option ℕ) → a ≡ b → a ≡ None → b ≡ Some s → ⊥
    clash a b i j k = cc

given_set : (roots : List (Option ℕ)) (m n r s : ℕ) → m < length roots
    → root_of (set roots m (Some r)) n ≡ Some s → (root_of roots n ≡ Some s) ⊎ ((s ≡ r) × (n ≡ m))
given_set roots m n r s l h = elim (cases_eq n m) [
  | inl is ↦ inr (
    some_same s r (sym h ∙ ap (root_of (set roots m (Some r))) is
        ∙ get_or-set_same roots m (Some r) None l),
    is,
  )
  | inr not ↦ inl (sym (get_or-set_other roots m n (Some r) None not) ∙ h)
]
  where
    some_same : (a b : ℕ) → Some a ≡ Some b → a ≡ b
    some_same a b e = cc

has_root : (roots : List (Option ℕ)) (m r : ℕ) → root_of roots m ≡ Some r → HasRoot roots m
has_root roots m r e = ap is_some e

pub root_there : (roots : List (Option ℕ)) (m : ℕ) → HasRoot roots m → (r : ℕ) × (root_of roots m ≡ Some r)
root_there roots m h = by (root_of roots m) refl h
  where
    by : (o : Option ℕ) → root_of roots m ≡ o → is_some o ≡ true → (r : ℕ) × (root_of roots m ≡ Some r)
    by None e h = absurd (both_ways false refl h)
    by (Some r) e h = (r, e)

pub kept_has : (old new : List (Option ℕ)) → ((m r : ℕ) → root_of old m ≡ Some r → root_of new m ≡ Some r)
    → (m : ℕ) → HasRoot old m → HasRoot new m
kept_has old new kept m h = let p : (r : ℕ) × (root_of old m ≡ Some r) = root_there old m h in
    has_root new m p.0 (kept m p.0 p.1)

has_within : (roots : List (Option ℕ)) (m : ℕ) → HasRoot roots m → m < length roots
has_within [] m h = absurd (both_ways false refl h)
has_within (r ∷ rs) zero h = omega arith
has_within (r ∷ rs) (suc m) h = let l : m < length rs = has_within rs m h in omega arith

-- ---- spreading

pub spreads_none : (root : ℕ) (roots : List (Option ℕ)) (fringe : List ℕ)
    → Spreads [] root roots roots fringe fringe
spreads_none root roots fringe = record {
  size = refl;
  kept = λ m r e. e;
  given = λ m r e. inl e;
  all = λ m a. absurd (both_ways false refl a);
  fringe_kept = λ m a. a;
  fringe_given = λ m a. inl a;
  work = refl;
}

spread_over : (ms : List ℕ) (root m : ℕ) (old new : List (Option ℕ)) (fringe more : List ℕ)
    → Spreads ms root old new fringe more → HasRoot new m
    → Spreads (ms ++ m ∷ []) root old new fringe more
spread_over ms root m old new fringe more s h = record {
  size = s.size;
  kept = s.kept;
  given = λ n r e. elim (s.given n r e) [ inl a ↦ inl a | inr b ↦ inr (b.0, b.1, push_left ms m n b.2, b.3) ];
  all = λ n a. elim (push_cases ms m n a) [
    | inl b ↦ s.all n b
    | inr is ↦
        subst (λ (j : ℕ). HasRoot new j) is h
  ];
  fringe_kept = s.fringe_kept;
  fringe_given = λ n a. elim (s.fringe_given n a) [ inl b ↦ inl b | inr b ↦ inr (push_left ms m n b) ];
  work = s.work;
}

none_before : (old new : List (Option ℕ)) (m : ℕ) → ((r : ℕ) → root_of old m ≡ Some r
    → root_of new m ≡ Some r) → root_of new m ≡ None → root_of old m ≡ None
none_before old new m kept e = by (root_of old m) refl
  where
    clash : (o : Option ℕ) (r : ℕ) → o ≡ Some r → o ≡ None → root_of old m ≡ None
    clash o r a b = cc

    by : (o : Option ℕ) → root_of old m ≡ o → root_of old m ≡ None
    by None h = h
    by (Some r) h = clash (root_of new m) r (kept r h) e

spread_to : (ms : List ℕ) (root m : ℕ) (old new : List (Option ℕ)) (fringe more : List ℕ)
    → Spreads ms root old new fringe more
    → m < length old → root_of new m ≡ None → Spreads (ms ++ m ∷ []) root old (set new m (Some root))
    fringe (more ++ m ∷ [])
spread_to ms root m old new fringe more s l e =
    let within : m < length new = (let q : length new ≡ length old = s.size in omega arith) in
    let less : rootless (set new m (Some root)) + 1 ≡ rootless new = rootless_set new m root within e in
    let longer : length (more ++ m ∷ []) ≡ length more + 1 = length-append more (m ∷ []) in
    let work : rootless new + length more ≡ rootless old + length fringe = s.work in
    record {
      size = length-set new m (Some root) ∙ s.size;
      kept = λ n r h. kept_set new m n root r e (s.kept n r h);
      given = λ n r h. elim (given_set new m n root r within h) [
        | inl a ↦ elim (s.given n r a) [
          | inl b ↦ inl b
          | inr b ↦
              inr (b.0, b.1, push_left ms m n b.2, push_left more m n b.3)
        ]
        | inr b ↦ inr (
          b.0,
          subst (λ (j : ℕ). root_of old j ≡ None) (sym b.1)
              (none_before old new m (s.kept m) e),
          subst (λ (j : ℕ). is_among (ms ++ m ∷ []) j ≡ true)
              (sym b.1) (push_last ms m),
          subst (λ (j : ℕ). is_among (more ++ m ∷ []) j ≡ true) (sym b.1)
              (push_last more m),
        )
      ];
      all = λ n a. elim (push_cases ms m n a) [
        | inl b ↦ kept_has new (set new m (Some root)) (λ j r h. kept_set new m j root r e h) n (s.all n b)
        | inr is ↦ subst (λ (j : ℕ). HasRoot (set new m (Some root)) j) is
            (has_root (set new m (Some root)) m root (get_or-set_same new m (Some root) None within))
      ];
      fringe_kept = λ n a. push_left more m n (s.fringe_kept n a);
      fringe_given = λ n a. elim (push_cases more m n a) [
        | inl b ↦ elim (s.fringe_given n b) [ inl c ↦ inl c | inr c ↦ inr (push_left ms m n c) ]
        | inr is ↦ inr (subst (λ (j : ℕ). is_among (ms ++ m ∷ []) j ≡ true) is (push_last ms m))
      ];
      work = omega arith;
    }

-- as the code takes the steps, over a list by places
pub spread_over_at : (ms : List ℕ) (i root : ℕ) (old new : List (Option ℕ)) (fringe more : List ℕ)
    → Spreads (take i ms) root old new fringe more → i < length ms
    → HasRoot new (get_or ms i 0) → Spreads (take (i + 1) ms) root old new fringe more
spread_over_at ms i root old new fringe more s l h =
    subst (λ (xs : List ℕ). Spreads xs root old new fringe more) (sym (take_more ms i 0 l))
    (spread_over (take i ms) root (get_or ms i 0) old new fringe more s h)

pub spread_to_at : (ms : List ℕ) (i root : ℕ) (old new next : List (Option ℕ))
    (fringe more longer : List ℕ) → Spreads (take i ms) root old new fringe more → i < length ms
    → get_or ms i 0 < length old → root_of new (get_or ms i 0) ≡ None
    → next ≡ set new (get_or ms i 0) (Some root) → longer ≡ more ++ get_or ms i 0 ∷ []
    → Spreads (take (i + 1) ms) root old next fringe longer
spread_to_at ms i root old new next fringe more longer s l w h is also =
    subst (λ (xs : List ℕ). Spreads xs root old next fringe longer) (sym (take_more ms i 0 l))
    (subst (λ (rs : List (Option ℕ)). Spreads (take i ms ++ get_or ms i 0 ∷ []) root old rs fringe longer)
    (sym is)
    (subst (λ (xs : List ℕ). Spreads (take i ms ++ get_or ms i 0 ∷ []) root old
    (set new (get_or ms i 0) (Some root)) fringe xs) (sym also)
    (spread_to (take i ms) root (get_or ms i 0) old new fringe more s w h)))

-- ---- flooding

pub flood_begins : (graph : List (List ℕ)) (root : ℕ) (old new : List (Option ℕ)) (fringe : List ℕ)
    → root < length old → root_of old root ≡ None → AreClosed graph old
    → new ≡ set old root (Some root) → fringe ≡ root ∷ [] → IsFlooding graph root old new fringe
flood_begins graph root old new fringe l e closed is also =
    subst (λ (rs : List (Option ℕ)). IsFlooding graph root old rs fringe) (sym is)
    (subst (λ (xs : List ℕ). IsFlooding graph root old (set old root (Some root)) xs) (sym also) record {
      size = length-set old root (Some root);
      kept = λ n r h. kept_set old root n root r e h;
      given = λ n r h. elim (given_set old root n root r l h) [
        | inl a ↦ inl a
        | inr b ↦
            inr (
              b.0,
              subst (λ (j : ℕ). root_of old j ≡ None) (sym b.1) e,
              subst (λ (j : ℕ). Reaches graph root j) (sym b.1) (itself root),
            )
      ];
      reached = λ n a. elim (among_cases root [] n a) [
        | inl same ↦ subst (λ (j : ℕ). Reaches graph root j) same (itself root)
        | inr b ↦
            absurd (both_ways false refl b)
      ];
      frontier = λ n k h r. (let p : (s : ℕ) × (root_of (set old root (Some root)) n ≡ Some s) =
          root_there (set old root (Some root)) n h in
          elim (given_set old root n root p.0 l p.1) [
            | inl a ↦ inl (kept_has old (set old root (Some root))
                (λ j s q. kept_set old root j root s e q) k (closed n k (has_root old n p.0 a) r))
            | inr b ↦ inr (subst (λ (j : ℕ). is_among (root ∷ []) j ≡ true) (sym b.1) (among_head root []))
          ]);
      rooted = has_root (set old root (Some root)) root root (get_or-set_same old root (Some root) None l);
    })

-- the module at the end of the fringe has nothing that leads on, or the root was spread to what leads on
-- from it
pub flood_goes_on : (graph : List (List ℕ)) (root next : ℕ) (old new then : List (Option ℕ))
    (fringe rest more : List ℕ)
    → IsFlooding graph root old new fringe → fringe ≡ rest ++ next ∷ []
    → Spreads (callees graph next) root new then rest more
    → IsFlooding graph root old then more
flood_goes_on graph root next old new then fringe rest more f is s =
    let next_reached : Reaches graph root next = f.reached next
    (subst (λ (xs : List ℕ). is_among xs next ≡ true) (sym is) (push_last rest next)) in
    record {
      size = s.size ∙ f.size;
      kept = λ n r h. s.kept n r (f.kept n r h);
      given = λ n r h. elim (s.given n r h) [
        | inl a ↦ f.given n r a
        | inr b ↦ inr (
          b.0,
          none_before old new n (f.kept n) b.1,
          reaches_on graph root next n next_reached
              (by_run next n n b.2 (itself n)),
        )
      ];
      reached = λ n a. elim (s.fringe_given n a) [
        | inl b ↦ f.reached n (subst (λ (xs : List ℕ). is_among xs n ≡ true) (sym is)
            (push_left rest next n b))
        | inr b ↦ reaches_on graph root next n next_reached (by_run next n n b (itself n))
      ];
      frontier = λ n k h r. (let p : (q : ℕ) × (root_of then n ≡ Some q) = root_there then n h in
          elim (s.given n p.0 p.1) [
            | inl a ↦ elim (f.frontier n k (has_root new n p.0 a) r) [
              | inl b ↦ inl (kept_has new then s.kept k b)
              | inr b ↦ elim (push_cases rest next n (subst (λ (xs : List ℕ). is_among xs n ≡ true) is b)) [
                | inl d ↦ inr (s.fringe_kept n d)
                | inr same ↦ inl (s.all k (subst (λ (j : ℕ). Runs graph j k) (sym same) r))
              ]
            ]
            | inr b ↦ inr b.3
          ]);
      rooted = kept_has new then s.kept root f.rooted;
    }

pub flood_ends : (graph : List (List ℕ)) (root : ℕ) (old new : List (Option ℕ)) (fringe : List ℕ)
    → IsFlooding graph root old new fringe → fringe ≡ [] → Floods graph root old new
flood_ends graph root old new fringe f is = record {
  size = f.size;
  kept = f.kept;
  given = f.given;
  closed = λ n k h r. elim (f.frontier n k h r) [
    | inl a ↦ a
    | inr b ↦
        absurd (both_ways (is_among fringe n) (ap (λ xs. is_among xs n) is) b)
  ];
  rooted = f.rooted;
}

-- a module of the graph that is not there leads nowhere
pub spreads_nowhere : (graph : List (List ℕ)) (root next : ℕ) (roots : List (Option ℕ)) (fringe : List ℕ)
    → slice_get graph next ≡ None → Spreads (callees graph next) root roots roots fringe fringe
spreads_nowhere graph root next roots fringe e = subst
    (λ (xs : List ℕ). Spreads xs root roots roots fringe fringe) (sym (ap or_none e))
    (spreads_none root roots fringe)

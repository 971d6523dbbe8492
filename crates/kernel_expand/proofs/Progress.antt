-- Measuring the modules of a text in an order in which each stands behind those that it runs.
use Rattle.std.proofs.Common.{◌≡◌, ◌≢◌, ℕ, zero, suc, ◌+◌, ◌<◌, ◌≤◌, Bool, true, false, List, [], ◌∷◌, ◌++◌}
use Rattle.std.proofs.Common.{length, map, take, drop, get_or, set, Some, None, ◌⊎◌, inl, inr, refl, sym, ap}
use Rattle.std.proofs.Common.{subst, ◌∙◌, arith, add-one, drop-cons, get_or-set_same, get_or-set_other}
use Rattle.std.proofs.Common.{length-set, eq-eqb, eqb-true}
use Rattle.std.specs.Prelude.{◌==◌, ◌&&◌, ◌||◌, slice_get}
use Rattle.std.specs.List.{list_all, range_with_len}
use Rattle.std.proofs.lemmas.List.{take_more, take_all, get_or_past}
use Rattle.module_tree.specs.declared.source.ModuleNode.{ModuleNode}
use Rattle.module_tree.specs.Runs.{callees_of, or_none, is_among, stand_behind_callees}
use Rattle.kernel_expand.specs.declared.sizes.Sizes.{Sizes}
use Rattle.kernel_expand.specs.Interpretation.{of_block}
use Rattle.kernel_expand.specs.Modules.{body_means, of_module}
use Rattle.kernel_expand.specs.Measures.{leaf, measure, known, sizes_of_module}
use Rattle.kernel_expand.proofs.Counting.{below_most}
use Rattle.kernel_expand.proofs.Depths.{AreSettled, all_of, absent, runs_at, inside, one_more}
use Rattle.kernel_expand.proofs.SameRuns.{sizes_by_runs}

pub both_true : (a b : Bool) → (a && b) ≡ true → (a ≡ true) × (b ≡ true)
both_true true b h = (refl, h)
both_true false b h = absurd (let no : ⊥ = cc in no)

one_true : (a b : Bool) → (a || b) ≡ true → (a ≡ true) ⊎ (b ≡ true)
one_true true b h = inl refl
one_true false b h = inr h

nothing_there : (ms : List (ModuleNode ℕ)) → length ms ≡ 0 → slice_get ms 0 ≡ None
nothing_there [] e = refl
nothing_there (m ∷ ms) e = let no : ⊥ = omega arith in absurd no

equal_or_not : (m n : ℕ) → (m ≡ n) ⊎ (m ≢ n)
equal_or_not m n = by_test (m == n) refl
  where
    by_test : (b : Bool) → (m == n) ≡ b → (m ≡ n) ⊎ (m ≢ n)
    by_test true e = inl (eqb-true m n e)
    by_test false e = inr (λ same. absurd (let yes = eq-eqb m n same in let bad : ⊥ = cc in bad))

behind_or : (a b : Bool) → b ≡ true → (a || b) ≡ true
behind_or true b h = refl
behind_or false b h = h

outside : (ms : List (ModuleNode ℕ)) (m : ℕ) → slice_get ms m ≡ None → length ms ≤ m
outside [] m e = omega arith
outside (b ∷ ms) zero e = absurd (let no : ⊥ = cc in no)
outside (b ∷ ms) (suc m) e = let le = outside ms m e in omega arith

among_front : (xs : List ℕ) (p m : ℕ) → is_among (xs ++ p ∷ []) m ≡ true → (is_among xs m ≡ true)
    ⊎ ((p == m) ≡ true)
among_front [] p m h = inr (elim (one_true (p == m) false h) [
  | inl e ↦ e
  | inr wrong ↦
      absurd (let bad : ⊥ = cc in bad)
])
among_front (x ∷ xs) p m h =
    elim (one_true (x == m) (is_among (xs ++ p ∷ []) m) h) [
      | inl e ↦ inl (ap (λ b. b || is_among xs m) e)
      | inr others ↦ elim (among_front xs p m others) [
        | inl e ↦ inl (behind_or (x == m) (is_among xs m) e)
        | inr e ↦ inr e
      ]
    ]

module _ (ms : List (ModuleNode ℕ)) (order : List ℕ) where
  abbrev Settled : List ℕ → Type 0
  Settled = AreSettled measure (leaf 0 0) ms sizes_by_runs

  -- what is known before the i-th module of the order is measured
  pub record Progress (i : ℕ) (sizes : List Sizes) : Type 0 where
    pub behind : List ℕ
    pub stands : stand_behind_callees (map callees_of ms) behind (drop i order) ≡ true
    pub settled : Settled behind
    pub right : (m : ℕ) → is_among behind m ≡ true → known sizes m ≡ sizes_of_module ms m
    pub passed : (m : ℕ) → is_among (take i order) m ≡ true → is_among behind m ≡ true
    pub long : length sizes ≡ length ms

  pub started : (sizes : List Sizes) → stand_behind_callees (map callees_of ms) [] order ≡ true
      → length sizes ≡ length ms → Progress 0 sizes
  started sizes h long =
      record {
        behind = [];
        stands = h;
        settled = λ m no. absurd (let bad : ⊥ = cc in bad);
        right = λ m no. absurd (let bad : ⊥ = cc in bad);
        passed = λ m no. no;
        long = long;
      }

  module _ (i place : ℕ) (sizes : List Sizes) (p : Progress i sizes) (inside_order : i < length order)
      (is : get_or order i 0 ≡ place) where
    next : drop i order ≡ place ∷ drop (i + 1) order
    next = drop-cons order i 0 inside_order ∙ ap (λ n. n ∷ drop (suc i) order) is
        ∙ ap (λ j. place ∷ drop j order) (sym (add-one i))

    stands_both : (list_all (is_among p.behind) (or_none (slice_get (map callees_of ms) place)) ≡ true)
        × (stand_behind_callees (map callees_of ms) (place ∷ p.behind) (drop (i + 1) order) ≡ true)
    stands_both = both_true _ _ (subst (λ ns. stand_behind_callees (map callees_of ms) p.behind ns ≡ true)
        next p.stands)

    settled_more : Settled (place ∷ p.behind)
    settled_more = one_more measure (leaf 0 0) ms sizes_by_runs p.behind p.settled place stands_both.0

    passed_more : (m : ℕ) → is_among (take (i + 1) order) m ≡ true → is_among (place ∷ p.behind) m ≡ true
    passed_more m h =
        elim (among_front (take i order) place m (subst (λ ns. is_among ns m ≡ true)
        (take_more order i 0 inside_order ∙ ap (λ n. take i order ++ n ∷ []) is) h)) [
          | inl e ↦ behind_or (place == m) (is_among p.behind m) (p.passed m e)
          | inr e ↦ ap (λ b. b || is_among p.behind m) e
        ]

    -- the module is measured by the sizes that are known
    right_more : (b : ModuleNode ℕ) → slice_get ms place ≡ Some b → (m : ℕ)
        → is_among (place ∷ p.behind) m ≡ true → known
        (set sizes place (of_block (measure (known sizes)) b.block)) m ≡ sizes_of_module ms m
    unfolding of_module
    right_more b e m h = by_case (one_true (place == m) (is_among p.behind m) h) (equal_or_not place m)
      where
        deep : ℕ
        deep = length ms

        new : Sizes
        new = of_block (measure (known sizes)) b.block

        lt : place < length sizes
        lt = let l = inside measure (leaf 0 0) ms sizes_by_runs ms place b e in let long = p.long in
            omega arith

        callees_behind : list_all (is_among p.behind) (callees_of b) ≡ true
        callees_behind = subst (λ ns. list_all (is_among p.behind) ns ≡ true)
            (runs_at measure (leaf 0 0) ms sizes_by_runs ms place b e) stands_both.0

        same_block : of_block (measure (known sizes)) b.block ≡ of_block
            (measure (of_module measure (leaf 0 0) ms deep)) b.block
        same_block = sizes_by_runs (known sizes) (of_module measure (leaf 0 0) ms deep) b.block _ _
            (all_of (λ n. known sizes n ≡ of_module measure (leaf 0 0) ms deep n) (is_among p.behind)
            p.right (callees_of b) callees_behind)

        one_deeper : of_module measure (leaf 0 0) ms (suc deep) place ≡ of_module measure (leaf 0 0) ms
            deep place
        one_deeper =
            let settled = settled_more place (ap (λ t. t || is_among p.behind place)
            (eq-eqb place place refl)) in
            let most = below_most (is_among (place ∷ p.behind)) deep in
            settled (suc deep) (omega (arith, most)) ∙ sym (settled deep most)

        itself : known (set sizes place new) place ≡ sizes_of_module ms place
        itself = get_or-set_same sizes place new (leaf 0 0) lt ∙ same_block
            ∙ sym (ap (body_means (measure (of_module measure (leaf 0 0) ms deep)) (leaf 0 0)) e) ∙ one_deeper

        by_case : (((place == m) ≡ true) ⊎ (is_among p.behind m ≡ true)) → ((place ≡ m) ⊎ (place ≢ m))
            → known (set sizes place new) m ≡ sizes_of_module ms m
        by_case c (inl same) = subst (λ n. known (set sizes place new) n ≡ sizes_of_module ms n) same itself
        by_case (inl e) (inr other) = absurd (other (eqb-true place m e))
        by_case (inr old) (inr other) = get_or-set_other sizes place m new (leaf 0 0)
            (λ same. other (sym same)) ∙ p.right m old

    pub measured : (b : ModuleNode ℕ) → slice_get ms place ≡ Some b
        → Progress (i + 1) (set sizes place (of_block (measure (known sizes)) b.block))
    measured b e =
        record {
          behind = place ∷ p.behind;
          stands = stands_both.1;
          settled = settled_more;
          right = right_more b e;
          passed = passed_more;
          long = length-set sizes place (of_block (measure (known sizes)) b.block) ∙ p.long;
        }

    -- no module has this place
    pub skipped : slice_get ms place ≡ None → Progress (i + 1) sizes
    skipped e =
        record {
          behind = place ∷ p.behind;
          stands = stands_both.1;
          settled = settled_more;
          right = λ m h. by_case m (one_true (place == m) (is_among p.behind m) h);
          passed = passed_more;
          long = p.long;
        }
      where
        itself : known sizes place ≡ sizes_of_module ms place
        itself = get_or_past sizes place (leaf 0 0) (let le = outside ms place e in let long = p.long in
            omega arith) ∙ sym (absent measure (leaf 0 0) ms sizes_by_runs (length ms) place e)

        by_case : (m : ℕ) → (((place == m) ≡ true) ⊎ (is_among p.behind m ≡ true))
            → known sizes m ≡ sizes_of_module ms m
        by_case m (inl same) = subst (λ n. known sizes n ≡ sizes_of_module ms n) (eqb-true place m same)
            itself
        by_case m (inr old) = p.right m old

  -- where each module was passed, the main module's sizes are known
  pub finished : (sizes : List Sizes) → Progress (length order) sizes
      → list_all (is_among order) (range_with_len 0 (length ms)) ≡ true → known sizes 0 ≡ sizes_of_module ms 0
  finished sizes p all = by_length (length ms) refl all
    where
      by_length : (n : ℕ) → length ms ≡ n → list_all (is_among order) (range_with_len 0 n) ≡ true
          → known sizes 0 ≡ sizes_of_module ms 0
      by_length zero e h = get_or_past sizes 0 (leaf 0 0) (let long = p.long in omega arith)
          ∙ sym (absent measure (leaf 0 0) ms sizes_by_runs (length ms) 0 (nothing_there ms e))
      by_length (suc n) e h = p.right 0 (p.passed 0
          (subst (λ ns. is_among ns 0 ≡ true) (sym (take_all (length order) order (omega arith)))
          (both_true _ _ h).0))

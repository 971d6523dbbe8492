-- How deep modules run one another: behind all that it runs, a module means the same however deep that is
-- allowed to be.
use Rattle.std.proofs.Common.{◌≡◌, ℕ, zero, suc, ◌<◌, ◌≤◌, Bool, true, false, List, [], ◌∷◌, length, map}
use Rattle.std.proofs.Common.{Option, Some, None, ◌⊎◌, inl, inr, refl, sym, ap, subst, ◌∙◌, arith, eq-eqb}
use Rattle.std.proofs.Common.{eqb-true}
use Rattle.std.specs.Prelude.{◌==◌, ◌&&◌, ◌||◌, slice_get}
use Rattle.std.specs.List.{AllByRecursion, list_all}
use Rattle.module_tree.specs.declared.source.BlockNode.{BlockNode}
use Rattle.module_tree.specs.declared.source.ModuleNode.{ModuleNode}
use Rattle.module_tree.specs.Scopes.{InScope, Declared}
use Rattle.module_tree.specs.Parts.{block_walk, parts_of}
use Rattle.module_tree.specs.Runs.{callees_of, or_none, is_among}
use Rattle.kernel_expand.specs.Interpretation.{of_block}
use Rattle.kernel_expand.specs.Modules.{Language, body_means, of_module}
use Rattle.kernel_expand.proofs.AlikeTrees.{Runs}
use Rattle.kernel_expand.proofs.Counting.{below, below_more, below_strict}

-- a block means the same where the modules that it runs do
abbrev pub ByRuns : {X : Type 0} → Language X → Type 0
ByRuns {X} k = (f g : ℕ → X) (b : BlockNode ℕ) (scope : InScope) (before : Declared)
    → Runs (λ m. f m ≡ g m) (block_walk b scope before).parts → of_block (k f) b ≡ of_block (k g) b

all_step : (P : ℕ → Type 0) (n : ℕ) (ns : List ℕ) (first others : Bool) → (first ≡ true → P n)
    → (others ≡ true → AllByRecursion P ns) → (first && others) ≡ true → AllByRecursion P (n ∷ ns)
all_step P n ns true others f g h = (f refl, g h)
all_step P n ns false others f g h = absurd (let no : ⊥ = cc in no)

pub all_of : (P : ℕ → Type 0) (test : ℕ → Bool) → ((n : ℕ) → test n ≡ true → P n) → (ns : List ℕ)
    → list_all test ns ≡ true → AllByRecursion P ns
all_of P test f [] h = tt
all_of P test f (n ∷ ns) h = all_step P n ns (test n) (list_all test ns) (f n) (all_of P test f ns) h

module _ {X : Type 0} (k : Language X) (none : X) (modules : List (ModuleNode ℕ)) (by_runs : ByRuns k) where
  abbrev pub at : ℕ → ℕ → X
  at deep m = of_module k none modules deep m

  -- from this depth on the module means the same
  abbrev pub IsSettled : ℕ → ℕ → Type 0
  IsSettled deep m = (d : ℕ) → deep ≤ d → at d m ≡ at deep m

  -- how many modules of the text are among these
  abbrev pub count : List ℕ → ℕ
  count done = below (is_among done) (length modules)

  abbrev pub AreSettled : List ℕ → Type 0
  AreSettled done = (m : ℕ) → is_among done m ≡ true → IsSettled (count done) m

  deeper : (c d m : ℕ) → IsSettled c m → c ≤ d → IsSettled d m
  deeper c d m h le e more = h e (omega arith) ∙ sym (h d le)

  pub absent : (d m : ℕ) → slice_get modules m ≡ None → at d m ≡ none
  unfolding of_module
  absent zero m e = refl
  absent (suc d) m e = ap (body_means (k (at d)) none) e

  pub runs_at : (ms : List (ModuleNode ℕ)) (m : ℕ) (b : ModuleNode ℕ) → slice_get ms m ≡ Some b
      → or_none (slice_get (map callees_of ms) m) ≡ callees_of b
  runs_at [] m b e = absurd (let no : ⊥ = cc in no)
  runs_at (c ∷ ms) zero b e = let same : c ≡ b = cc in ap callees_of same
  runs_at (c ∷ ms) (suc m) b e = runs_at ms m b e

  pub inside : (ms : List (ModuleNode ℕ)) (m : ℕ) (b : ModuleNode ℕ) → slice_get ms m ≡ Some b → m < length ms
  inside [] m b e = absurd (let no : ⊥ = cc in no)
  inside (c ∷ ms) zero b e = omega arith
  inside (c ∷ ms) (suc m) b e = let lt = inside ms m b e in omega arith

  one_deeper : (done : List ℕ) → AreSettled done → (m : ℕ) (b : ModuleNode ℕ)
      → slice_get modules m ≡ Some b → list_all (is_among done) (callees_of b) ≡ true
      → IsSettled (suc (count done)) m
  unfolding of_module
  one_deeper done settled m b e all zero le = absurd (let no : ⊥ = omega arith in no)
  one_deeper done settled m b e all (suc d) le =
      let c = count done in
      let agree : Runs (λ n. at d n ≡ at c n) (parts_of b) = all_of (λ n. at d n ≡ at c n) (is_among done)
      (λ n h. settled n h d (omega arith)) (callees_of b) all in
      ap (body_means (k (at d)) none) e ∙ by_runs (at d) (at c) b.block _ _ agree
      ∙ sym (ap (body_means (k (at c)) none) e)

  found_or_not : (b : Bool) → (b ≡ true) ⊎ (b ≡ false)
  found_or_not true = inl refl
  found_or_not false = inr refl

  -- one module more, behind all that it runs
  among_more : (done : List ℕ) (m n : ℕ) → is_among done n ≡ true → is_among (m ∷ done) n ≡ true
  among_more done m n h = or_true (m == n) (is_among done n) h
    where
      or_true : (a b : Bool) → b ≡ true → (a || b) ≡ true
      or_true true b h = refl
      or_true false b h = h

  itself : (done : List ℕ) (m : ℕ) → is_among (m ∷ done) m ≡ true
  itself done m = ap (λ b. b || is_among done m) (eq-eqb m m refl)

  pub one_more : (done : List ℕ) → AreSettled done → (m : ℕ)
      → list_all (is_among done) (or_none (slice_get (map callees_of modules) m)) ≡ true
      → AreSettled (m ∷ done)
  one_more done settled m stands n h = elim (found_or_not (m == n)) [
    | inl e ↦ subst (IsSettled (count (m ∷ done))) (eqb-true m n e)
        (new (found_or_not (is_among done m)))
    | inr e ↦
        old n (subst (λ b. (b || is_among done n) ≡ true) e h)
  ]
    where
      old : (n : ℕ) → is_among done n ≡ true → IsSettled (count (m ∷ done)) n
      old n h = deeper (count done) (count (m ∷ done)) n (settled n h)
          (below_more (is_among done) (is_among (m ∷ done)) (among_more done m) (length modules))

      new_module : is_among done m ≡ false → (o : Option (ModuleNode ℕ)) → slice_get modules m ≡ o
          → IsSettled (count (m ∷ done)) m
      new_module out None e = λ d le. absent d m e ∙ sym (absent (count (m ∷ done)) m e)
      new_module out (Some b) e =
          let all : list_all (is_among done) (callees_of b) ≡ true =
          subst (λ ns. list_all (is_among done) ns ≡ true) (runs_at modules m b e) stands in
          deeper (suc (count done)) (count (m ∷ done)) m (one_deeper done settled m b e all)
          (below_strict (is_among done) (is_among (m ∷ done)) (among_more done m) m out (itself done m)
          (length modules) (inside modules m b e))

      new : (is_among done m ≡ true) ⊎ (is_among done m ≡ false) → IsSettled (count (m ∷ done)) m
      new (inl h) = old m h
      new (inr out) = new_module out (slice_get modules m) refl

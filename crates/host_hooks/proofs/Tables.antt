-- What a table of hooks finds, where each key is its hook's name and names differ.
use Rattle.std.proofs.Common.{◌≡◌, ◌⊎◌, inl, inr, ⊎_elim, ℕ, zero, suc, Bool, true, false, not, cond, ◌&&◌}
use Rattle.std.proofs.Common.{◌||◌, Option, Some, None, List, [], ◌∷◌, ◌++◌, map, refl, sym, ap, subst, ◌∙◌}
use Rattle.std.proofs.Common.{arith, true≢false, is_some, Result, Ok, Err}
use Rattle.std.specs.List.{Contains, list_any}
use Rattle.std.specs.Map.{keys_of, values_of, lookup}
use Rattle.std.specs.Str.{bytes_eq}
use Rattle.std.proofs.lemmas.Slice.Eq.{bytes_eq-Decides}
use Rattle.hh_term.specs.declared.program.BodyDecl.{BodyDecl}
use Rattle.host_hooks.specs.Adding.{HasName}
use Rattle.host_hooks.specs.Allowed.{IsHookOf}
use Rattle.host_hooks.specs.Promise.{Promise}
use Rattle.host_hooks.specs.Table.{IsStored, all_differ}

contains_cases : {A : Type 0} (x : A) (xs : List A) (p : A) → Contains (x ∷ xs) p → (x ≡ p) ⊎ Contains xs p
contains_cases x xs p (zero, l, e) = inl e
contains_cases x xs p (suc k, l, e) = inr (k, omega arith, e)

contains_head : {A : Type 0} (x : A) (xs : List A) → Contains (x ∷ xs) x
contains_head x xs = (0, omega arith, refl)

contains_more : {A : Type 0} (x : A) (xs : List A) (p : A) → Contains xs p → Contains (x ∷ xs) p
contains_more x xs p c = (suc c.0, let l = c.1 in omega arith, c.2)

same : (a b : List ℕ) → bytes_eq a b ≡ true → a ≡ b
same a b e = (bytes_eq-Decides a b).0 e

both : (a b : Bool) → (a && b) ≡ true → (a ≡ true) × (b ≡ true)
both true b e = (refl, e)
both false b e = absurd cc

-- a name that is among some is not apart from them
among : (n : List ℕ) (ps : List Promise) (p : Promise) → Contains ps p → p.name ≡ n
    → list_any (bytes_eq n) (map (λ q. q.name) ps) ≡ false → ⊥
among n [] p c named none = let l = c.1 in omega arith
among n (q ∷ ps) p c named none =
    by_test (λ there rest. among n ps p there named rest) (bytes_eq n q.name) refl none
  where
    by_test : (Contains ps p → list_any (bytes_eq n) (map (λ r. r.name) ps) ≡ false → ⊥) → (b : Bool)
        → bytes_eq n q.name ≡ b → list_any (bytes_eq n) (map (λ r. r.name) (q ∷ ps)) ≡ false → ⊥
    by_test again true e h = let no : true ≡ false = sym (ap (λ b. b || (list_any (bytes_eq n) (map (λ r.
        r.name) ps))) e) ∙ h in true≢false no
    by_test again false e h =
        ⊎_elim
        (λ (here : q ≡ p).
        let t : bytes_eq n q.name ≡ true = (bytes_eq-Decides n q.name).1 (sym named
        ∙ sym (ap (λ r. r.name) here)) in
        true≢false (sym t ∙ e))
        (λ (there : Contains ps p). again there (sym (ap (λ b. b || (list_any (bytes_eq n) (map (λ r. r.name)
        ps))) e) ∙ h))
        (contains_cases q ps p c)

module _ {K V : Type 0} (key : K → List ℕ) (promise : V → Promise) where
  abbrev test : List ℕ → K → Bool
  test n k = bytes_eq n (key k)

  abbrev pub Keyed : List (K × V) → Type 0
  Keyed es = map key (keys_of es) ≡ map (λ v. (promise v).name) (values_of es)

  abbrev pub promises : List (K × V) → List Promise
  promises es = map promise (values_of es)

  abbrev pub names : List (K × V) → List (List ℕ)
  names es = map (λ v. (promise v).name) (values_of es)

  heads : (e : K × V) (es : List (K × V)) → Keyed (e ∷ es) → (key e.0 ≡ (promise e.1).name) × Keyed es
  heads e es h = (cc, cc)

  pub found : (es : List (K × V)) (n : List ℕ) (v : V) → Keyed es → lookup (test n) es ≡ Some v
      → Contains (promises es) (promise v) × ((promise v).name ≡ n)
  found [] n v h e = absurd cc
  found (x ∷ es) n v h e = by_test (λ f. found es n v (heads x es h).1 f) (test n x.0) refl e
    where
      by_test : (lookup (test n) es ≡ Some v → Contains (promises es) (promise v) × ((promise v).name ≡ n))
          → (b : Bool) → test n x.0 ≡ b → cond b (Some x.1) (lookup (test n) es) ≡ Some v
          → Contains (promises (x ∷ es)) (promise v) × ((promise v).name ≡ n)
      by_test again true t f =
          let is : x.1 ≡ v = cc in (
            subst (λ w. Contains (promises (x ∷ es)) (promise w)) is (contains_head (promise x.1) (promises
                es)),
            sym (ap (λ w. (promise w).name) is) ∙ sym (heads x es h).0 ∙ sym (same n (key x.0) t),
          )
      by_test again false t f =
          let rest = again f in
          (contains_more (promise x.1) (promises es) (promise v) rest.0, rest.1)

  names_are : (es : List (K × V)) → map (λ q. q.name) (promises es) ≡ names es
  names_are [] = refl
  names_are (x ∷ es) = ap (λ ns. (promise x.1).name ∷ ns) (names_are es)

  pub none : (es : List (K × V)) (n : List ℕ) (p : Promise) → Keyed es → lookup (test n) es ≡ None
      → Contains (promises es) p → p.name ≡ n → ⊥
  none [] n p h e c named = let l = c.1 in omega arith
  none (x ∷ es) n p h e c named = by_test (λ f there. none es n p (heads x es h).1 f there named) (test n
      x.0) refl e
    where
      by_test : (lookup (test n) es ≡ None → Contains (promises es) p → ⊥) → (b : Bool) → test n x.0 ≡ b
          → cond b (Some x.1) (lookup (test n) es) ≡ None → ⊥
      by_test again true t f = absurd cc
      by_test again false t f =
          ⊎_elim
          (λ (here : promise x.1 ≡ p).
          let is : n ≡ key x.0 = sym named ∙ sym (ap (λ q. q.name) here) ∙ sym (heads x es h).0 in
          true≢false (sym ((bytes_eq-Decides n (key x.0)).1 is) ∙ t))
          (λ (there : Contains (promises es) p). again f there)
          (contains_cases (promise x.1) (promises es) p c)

  pub only : (es : List (K × V)) (n : List ℕ) (v : V) (p : Promise) → Keyed es
      → all_differ (names es) ≡ true → lookup (test n) es ≡ Some v → Contains (promises es) p → p.name ≡ n
      → p ≡ promise v
  only [] n v p h d e c named = absurd cc
  only (x ∷ es) n v p h d e c named = by_test (λ apart_rest f there. only es n v p (heads x es h).1
      apart_rest f there named) (test n x.0) refl e
    where
      parts : (not (list_any (bytes_eq (promise x.1).name) (names es)) ≡ true)
          × (all_differ (names es) ≡ true)
      parts = both (not (list_any (bytes_eq (promise x.1).name) (names es))) (all_differ (names es)) d

      apart : (b : Bool) → not b ≡ true → b ≡ false
      apart true a = absurd cc
      apart false a = refl

      by_test : (all_differ (names es) ≡ true → lookup (test n) es ≡ Some v → Contains (promises es) p
          → p ≡ promise v) → (b : Bool) → test n x.0 ≡ b → cond b (Some x.1) (lookup (test n) es) ≡ Some v
          → p ≡ promise v
      by_test again true t f =
          let is : x.1 ≡ v = cc in
          let first : (promise x.1).name ≡ n = sym (heads x es h).0 ∙ sym (same n (key x.0) t) in
          ⊎_elim
          (λ (here : promise x.1 ≡ p). sym here ∙ ap promise is)
          (λ (there : Contains (promises es) p).
          let none_else = apart (list_any (bytes_eq (promise x.1).name) (names es)) parts.0 in
          absurd (among (promise x.1).name (promises es) p there (named
          ∙ sym first) (ap (list_any (bytes_eq (promise x.1).name)) (names_are es) ∙ none_else)))
          (contains_cases (promise x.1) (promises es) p c)
      by_test again false t f =
          ⊎_elim
          (λ (here : promise x.1 ≡ p).
          let is : n ≡ key x.0 = sym named ∙ sym (ap (λ q. q.name) here) ∙ sym (heads x es h).0 in
          absurd (true≢false (sym ((bytes_eq-Decides n (key x.0)).1 is) ∙ t)))
          (λ (there : Contains (promises es) p). again parts.1 f there)
          (contains_cases (promise x.1) (promises es) p c)

  -- what the hook found is, and where there is none
  pub finds : (es : List (K × V)) (b : BodyDecl) (n : List ℕ) (v : V) → Keyed es → n ≡ b.name
      → lookup (test n) es ≡ Some v → (promise v).params ≡ b.params → (promise v).answer ≡ b.answer
      → IsHookOf (promises es) b (promise v)
  finds es b n v h is e params answer = let f = found es n v h e in record {
    stored = f.0;
    name = f.1
        ∙ is;
    params = params;
    answer = answer;
  }

  pub lacks : (es : List (K × V)) (b : BodyDecl) (n : List ℕ) → Keyed es → n ≡ b.name
      → lookup (test n) es ≡ None → (p : Promise) → IsHookOf (promises es) b p → ⊥
  lacks es b n h same_name e p is = none es n p h e is.stored (is.name ∙ sym same_name)

  pub misses : (es : List (K × V)) (b : BodyDecl) (n : List ℕ) (v : V) → Keyed es
      → all_differ (names es) ≡ true → n ≡ b.name → lookup (test n) es ≡ Some v
      → (((promise v).params ≡ b.params) × ((promise v).answer ≡ b.answer) → ⊥) → (p : Promise)
      → IsHookOf (promises es) b p → ⊥
  misses es b n v h d same_name e other p is =
      let same_one = only es n v p h d e is.stored (is.name ∙ sym same_name) in
      other (sym (ap (λ q. q.params) same_one) ∙ is.params, sym (ap (λ q. q.answer) same_one) ∙ is.answer)

  -- a name that is not there is added
  keyed_more : (es : List (K × V)) (k : K) (v : V) → Keyed es → key k ≡ (promise v).name
      → Keyed (es ++ (k, v) ∷ [])
  keyed_more [] k v h e = ap (λ n. n ∷ []) e
  keyed_more (x ∷ es) k v h e = let rest = keyed_more es k v (heads x es h).1 e in let first = (heads x es
      h).0 in cc

  pub more_promises : (es : List (K × V)) (k : K) (v : V) → promises (es ++ (k, v) ∷ []) ≡ promises es ++
      promise v ∷ []
  more_promises [] k v = refl
  more_promises (x ∷ es) k v = ap (λ ps. promise x.1 ∷ ps) (more_promises es k v)

  not_among : (es : List (K × V)) (n m : List ℕ) → list_any (bytes_eq n) (names es) ≡ false
      → bytes_eq n m ≡ false → list_any (bytes_eq n) (names es ++ m ∷ []) ≡ false
  not_among [] n m h e = ap (λ b. b || false) e
  not_among (x ∷ es) n m h e = by_test (λ f. not_among es n m f e) (bytes_eq n (promise x.1).name) refl h
    where
      by_test : (list_any (bytes_eq n) (names es) ≡ false → list_any (bytes_eq n) (names es ++ m ∷ []) ≡
          false) → (b : Bool) → bytes_eq n (promise x.1).name ≡ b
          → (b || list_any (bytes_eq n) (names es)) ≡ false → list_any (bytes_eq n) (names (x ∷ es) ++ m ∷
          []) ≡ false
      by_test again true t f = absurd cc
      by_test again false t f = ap (λ b. b || (list_any (bytes_eq n) (names es ++ m ∷ []))) t ∙ again f

  differ_more : (es : List (K × V)) (n : List ℕ) → Keyed es → lookup (test n) es ≡ None
      → all_differ (names es) ≡ true → all_differ (names es ++ n ∷ []) ≡ true
  differ_more [] n h e d = refl
  differ_more (x ∷ es) n h e d = by_test (λ f a. differ_more es n (heads x es h).1 f a) (test n x.0) refl e
    where
      name : List ℕ
      name = (promise x.1).name

      parts : (not (list_any (bytes_eq name) (names es)) ≡ true) × (all_differ (names es) ≡ true)
      parts = both (not (list_any (bytes_eq name) (names es))) (all_differ (names es)) d

      flipped : (b : Bool) → bytes_eq name n ≡ b → test n x.0 ≡ false → bytes_eq name n ≡ false
      flipped false t f = t
      flipped true t f = absurd (true≢false (sym ((bytes_eq-Decides n (key x.0)).1 (sym (same name n t)
          ∙ sym (heads x es h).0)) ∙ f))

      apart : (b : Bool) → not b ≡ true → b ≡ false
      apart true a = absurd cc
      apart false a = refl

      by_test : (lookup (test n) es ≡ None → all_differ (names es) ≡ true
          → all_differ (names es ++ n ∷ []) ≡ true) → (b : Bool) → test n x.0 ≡ b
          → cond b (Some x.1) (lookup (test n) es) ≡ None → all_differ (names (x ∷ es) ++ n ∷ []) ≡ true
      by_test again true t f = absurd cc
      by_test again false t f =
          let alone = not_among es name n (apart (list_any (bytes_eq name) (names es)) parts.0) (flipped
          (bytes_eq name n) refl t) in
          ap (λ b. not b && all_differ (names es ++ n ∷ [])) alone ∙ again f parts.1

  names_more : (es : List (K × V)) (k : K) (v : V) → names (es ++ (k, v) ∷ []) ≡ names es ++ (promise v).name
      ∷ []
  names_more [] k v = refl
  names_more (x ∷ es) k v = ap (λ ns. (promise x.1).name ∷ ns) (names_more es k v)

  -- what a table keeps
  pub record Keeps (es : List (K × V)) : Type 0 where
    pub keyed : Keyed es
    pub differ : all_differ (names es) ≡ true

  pub stored_keeps : (old new : List (K × V)) (k : K) (v : V) (r : Result (Unit {0}) V)
      → IsStored old new k v r → Keyed old → all_differ (names old) ≡ true
      → lookup (test (promise v).name) old ≡ None → key k ≡ (promise v).name → Keeps new
  stored_keeps old new k v (Ok _) is h d none named = subst Keeps (sym is) (record {
    keyed = keyed_more old k v h named;
    differ = ap all_differ (names_more old k v) ∙ differ_more old (promise v).name h none d;
  })
  stored_keeps old new k v (Err back) is h d none named = subst Keeps (sym is.1) (record {
    keyed = h;
    differ
        = d;
  })

  is_none : (o : Option V) → is_some o ≡ false → o ≡ None
  is_none (Some v) e = absurd cc
  is_none None e = refl

  -- whether a hook of the name is there, by the test of its key
  pub no_value : (es : List (K × V)) (n m : List ℕ) → n ≡ m → is_some (lookup (test n) es) ≡ false
      → lookup (test m) es ≡ None
  no_value es n m named e = is_none (lookup (test m) es) (ap (λ x. is_some (lookup (test x) es)) (sym named)
      ∙ e)

  pub has_name : (es : List (K × V)) (n m : List ℕ) → Keyed es → n ≡ m
      → is_some (lookup (test n) es) ≡ true → HasName (promises es) m
  has_name es n m h named e = by_value (lookup (test n) es) refl e
    where
      by_value : (o : Option V) → lookup (test n) es ≡ o → is_some o ≡ true → HasName (promises es) m
      by_value (Some v) f t = let known = found es n v h f in (promise v, known.0, known.1 ∙ named)
      by_value None f t = absurd cc

  pub lacks_name : (es : List (K × V)) (n m : List ℕ) → Keyed es → n ≡ m
      → is_some (lookup (test n) es) ≡ false → HasName (promises es) m → ⊥
  lacks_name es n m h named e has = none es m has.0 h (no_value es n m named e) has.1 has.2

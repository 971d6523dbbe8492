-- Each derived statement names only what is there, where its test and its body do.
use Rattle.std.proofs.Common.{◌≡◌, refl, ap, ◌∙◌, subst, ℕ, zero, suc, ◌+◌, ◌≤◌, Bool, true, List, [], ◌∷◌, length, arith}
use Rattle.std.proofs.Common.{replicate, Option, false, take, drop, ◌/◌}
use Rattle.std.proofs.lemmas.List.{length-take, length-drop}
use Rattle.std.specs.Prelude.{◌&&◌, nat_lt}
use Rattle.hh_base.specs.declared.value.Pos.{Pos}
use Rattle.host_expr.specs.declared.expr.Expr.{Expr}
use Rattle.module_tree.specs.declared.source.SignalNode.{SignalNode}
use Rattle.module_tree.specs.declared.source.Later.{Later}
use Rattle.module_tree.specs.declared.source.Later.TheVariants as later
use Rattle.module_tree.specs.declared.source.Delay.{Delay}
use Rattle.module_tree.specs.declared.source.Delay.TheVariants as delay
use Rattle.kernel_expand.specs.Operations.{Operations}
use Rattle.kernel_expand.specs.Rows as row
use Rattle.kernel_expand.specs.Interpretation as tree
use Rattle.kernel_expand.specs.Interpretation.{test_of}
use Rattle.kernel_expand.specs.Halves.{halved, in_halves}
use Rattle.derived_laws.specs.Naming.{Naming, naming, naming_two, nothing_named, expression_names, value_names}

-- with a signals declared before it, it names only what is there, and b are declared after it
pub record Passes (c : Bool) (a b : ℕ) (r : Naming) : Type 0 where
  pub is : r c a ≡ (true, b)
  pub grows : a ≤ b

-- a test names only signals that are declared
abbrev pub Tests : ℕ → Expr ℕ → Type 0
Tests a d = (m : ℕ) → a ≤ m → expression_names m d ≡ true

tests_later : (a b : ℕ) (d : Expr ℕ) → a ≤ b → Tests a d → Tests b d
tests_later a b d le t m h = t m (omega (arith, le, h))

leaf : (c : Bool) (a : ℕ) → Passes c a a nothing_named
leaf c a = record { is = refl; grows = omega arith }

two : (here : ℕ → Bool) (c : Bool) (a b e : ℕ) (r q : Naming) → here a ≡ true → Passes c a b r → Passes c b e q
    → Passes c a e (naming_two here r q)
two here c a b e r q h x y =
    record {
      is = ap (λ (z : Bool × ℕ). (here a && z.0 && (q c z.1).0, (q c z.1).1)) x.is
          ∙ ap (λ (z : Bool × ℕ). (here a && true && z.0, z.1)) y.is
          ∙ ap (λ (t : Bool). (t && true && true, e)) h;
      grows = omega (arith, x.grows, y.grows);
    }

-- side by side in a list
abbrev pub Along : Bool → ℕ → List Naming → ℕ → Type 0
Along c a [] b = a ≡ b
Along c a (r ∷ rs) b = (m : ℕ) × Passes c a m r × Along c m rs b

abbrev pub DelayTests : ℕ → Delay ℕ → Type 0
DelayTests a (delay.Later (later.Once x)) = Tests a (test_of x)
DelayTests a (delay.Later (later.Count n x)) = Tests a (test_of x)
DelayTests a (delay.Immediate x) = Tests a (test_of x)

abbrev pub LaterTests : ℕ → Later ℕ → Type 0
LaterTests a (later.Once x) = Tests a (test_of x)
LaterTests a (later.Count n x) = Tests a (test_of x)

abbrev pub Body : ℕ → ℕ → Naming → Type 0
Body a b r = (c : Bool) → Passes c a b r

module _ (modules : ℕ → Naming) (pos : Pos) where
  abbrev K : Operations Naming
  K = naming modules pos

  pub choice_named : (c : Bool) (a b e : ℕ) (d : Expr ℕ) (r q : Naming) → Tests a d → Passes c a b r
      → Passes c b e q → Passes c a e (K.choice d r q)
  choice_named c a b e d r q t x y = two (λ n. expression_names n d) c a b e r q (t a (omega arith)) x y

  pub seq_named : (c : Bool) (a b e : ℕ) (r q : Naming) → Passes c a b r → Passes c b e q
      → Passes c a e (K.seq r q)
  seq_named c a b e r q x y = two (λ n. true) c a b e r q refl x y

  pub par_named : (c : Bool) (a b e : ℕ) (r q : Naming) → Passes c a b r → Passes c b e q
      → Passes c a e (K.par r q)
  par_named c a b e r q x y = two (λ n. true) c a b e r q refl x y

  pub suspend_named : (c : Bool) (a b : ℕ) (d : Expr ℕ) (r : Naming) → Tests a d → Passes c a b r
      → Passes c a b (K.suspend d r)
  suspend_named c a b d r t x =
      record {
        is = ap (λ (z : Bool × ℕ). (expression_names a d && z.0, z.1)) x.is
            ∙ ap (λ (u : Bool). (u && true, b)) (t a (omega arith));
        grows = x.grows;
      }

  counted_named : (a b : ℕ) (r : Naming) → Passes true a b r → Passes true a b (K.suspend_counted r)
  counted_named a b r x = record { is = x.is; grows = x.grows }

  pub emit_named : (c : Bool) (a s : ℕ) (e : Option (Expr ℕ)) → nat_lt s a ≡ true → value_names a e ≡ true
      → Passes c a a (K.emit s e)
  emit_named c a s e h g =
      record { is = ap (λ (u : Bool). (u && value_names a e, a)) h ∙ ap (λ (u : Bool). (u, a)) g; grows = omega arith }

  pub sustain_named : (c : Bool) (a s : ℕ) (e : Option (Expr ℕ)) → nat_lt s a ≡ true → value_names a e ≡ true
      → Passes c a a (row.sustain K s e)
  sustain_named c a s e h g = seq_named c a a a (K.emit s e) nothing_named (emit_named c a s e h g) (leaf c a)

  -- ---- lists

  along_parts : (c : Bool) (n a b : ℕ) (rs : List Naming) → Along c a rs b
      → (m : ℕ) × Along c a (take n rs) m × Along c m (drop n rs) b
  along_parts c zero a b rs h = (a, refl, h)
  along_parts c (suc n) a b [] h = (a, refl, h)
  along_parts c (suc n) a b (r ∷ rs) h =
      let q = along_parts c n h.0 b rs h.2 in
      (q.0, (h.0, h.1, q.1), q.2)

  ends : (c : Bool) (a b : ℕ) → a ≡ b → Passes c a b nothing_named
  ends c a b e = subst (λ z. Passes c a z nothing_named) e (leaf c a)

  module _ (c : Bool) (join : Naming → Naming → Naming)
      (joined : (a b e : ℕ) (r q : Naming) → Passes c a b r → Passes c b e q → Passes c a e (join r q)) where
    halved_named : (n a b : ℕ) (rs : List Naming) → length rs ≤ n → Along c a rs b
        → Passes c a b (halved join nothing_named n rs)
    unfolding halved
    halved_named zero a b [] le h = ends c a b h
    halved_named zero a b (r ∷ rs) le h = absurd (let no : ⊥ = omega (arith, le) in no)
    halved_named (suc n) a b [] le h = ends c a b h
    halved_named (suc n) a b (r ∷ []) le h = subst (λ z. Passes c a z r) h.2 h.1
    halved_named (suc n) a b (r ∷ q ∷ rs) le h =
        let all = r ∷ q ∷ rs in
        let half = (length all + 1) / 2 in
        let parts = along_parts c half a b all h in
        joined a parts.0 b _ _
        (halved_named n a parts.0 (take half all) (omega (arith, le, length-take half all)) parts.1)
        (halved_named n parts.0 b (drop half all) (omega (arith, le, length-drop half all)) parts.2)

    halves_named : (a b : ℕ) (rs : List Naming) → Along c a rs b → Passes c a b (in_halves join nothing_named rs)
    halves_named a b rs h = halved_named (length rs) a b rs (omega arith) h

  pub listed_named : (c : Bool) (a b : ℕ) (rs : List Naming) → Along c a rs b → Passes c a b (row.listed K rs)
  listed_named c = halves_named c K.seq (seq_named c)

  pub forked_named : (c : Bool) (a b : ℕ) (rs : List Naming) → Along c a rs b → Passes c a b (row.forked K rs)
  forked_named c = halves_named c K.par (par_named c)

  -- ---- the rows

  exits : (c : Bool) (a : ℕ) (d : Expr ℕ) → Tests a d → Passes c a a (K.choice d nothing_named nothing_named)
  exits c a d t = choice_named c a a a d nothing_named nothing_named t (leaf c a) (leaf c a)

  waits : (c : Bool) (a : ℕ) (d : Expr ℕ) → Tests a d → Passes c a a (row.waiting K d)
  waits c a d t = seq_named c a a a nothing_named (K.choice d nothing_named nothing_named) (leaf c a) (exits c a d t)

  waits_now : (c : Bool) (a : ℕ) (d : Expr ℕ) → Tests a d → Passes c a a (row.waiting_now K d)
  waits_now c a d t =
      seq_named c a a a (K.choice d nothing_named nothing_named) nothing_named (exits c a d t) (leaf c a)

  copies : (c : Bool) (a n : ℕ) (r : Naming) → Passes c a a r → Along c a (replicate n r) a
  copies c a zero r x = refl
  copies c a (suc n) r x = (a, x, copies c a n r x)

  awaits_count : (c : Bool) (a n : ℕ) (d : Expr ℕ) → Tests a d → Passes c a a (row.await_count K n d)
  awaits_count c a n d t = listed_named c a a (replicate n (row.await K d)) (copies c a n (row.await K d) (waits c a d t))

  pub await_named : (c : Bool) (a : ℕ) (d : Delay ℕ) → DelayTests a d → Passes c a a (tree.await K d)
  await_named c a (delay.Later (later.Once x)) t = waits c a (test_of x) t
  await_named c a (delay.Later (later.Count n x)) t = awaits_count c a n (test_of x) t
  await_named c a (delay.Immediate x) t = waits_now c a (test_of x) t

  -- a body with what stands behind it and beside it
  ended_named : (c : Bool) (a b : ℕ) (r w : Naming) → Passes c a b r → Passes c b b w
      → Passes c a b (K.par (K.seq r nothing_named) w)
  ended_named c a b r w x y =
      par_named c a b b (K.seq r nothing_named) w (seq_named c a b b r nothing_named x (leaf c b)) y

  abort_once : (c : Bool) (a b : ℕ) (d : Expr ℕ) (r : Naming) → Tests a d → Passes c a b r
      → Passes c a b (row.abort K d r)
  abort_once c a b d r t x =
      ended_named c a b (K.suspend d r) (row.waiting K d) (suspend_named c a b d r t x)
      (waits c b d (tests_later a b d x.grows t))

  abort_counted : (c : Bool) (a b n : ℕ) (d : Expr ℕ) (r : Naming) → Tests a d → Passes true a b r
      → Passes c a b (row.abort_count K n d r)
  abort_counted c a b n d r t x =
      let w = row.listed K (row.await_count K n d ∷ K.emit_counter ∷ K.exit ∷ []) in
      let counts : Passes true b b w =
      listed_named true b b (row.await_count K n d ∷ K.emit_counter ∷ K.exit ∷ []) (
        b,
        awaits_count true b n d (tests_later a b d x.grows t),
        (b, record { is = refl; grows = omega arith }, (b, leaf true b, refl)),
      ) in
      let inner = ended_named true a b (K.suspend_counted r) w (counted_named a b r x) counts in
      record { is = inner.is; grows = inner.grows }

  pub abort_named : (c : Bool) (a b : ℕ) (d : Delay ℕ) (r : Naming) → DelayTests a d → Body a b r
      → Passes c a b (tree.abort K d r)
  abort_named c a b (delay.Later (later.Once x)) r t h = abort_once c a b (test_of x) r t (h c)
  abort_named c a b (delay.Later (later.Count n x)) r t h = abort_counted c a b n (test_of x) r t (h true)
  abort_named c a b (delay.Immediate x) r t h =
      choice_named c a a b (test_of x) nothing_named (row.abort K (test_of x) r) t (leaf c a)
      (abort_once c a b (test_of x) r t (h c))

  pub weak_abort_named : (c : Bool) (a b : ℕ) (d : Delay ℕ) (r : Naming) → DelayTests a d → Body a b r
      → Passes c a b (tree.weak_abort K d r)
  weak_abort_named c a b (delay.Later (later.Once x)) r t h =
      ended_named c a b r (row.waiting K (test_of x)) (h c) (waits c b (test_of x) (tests_later a b (test_of x) (h c).grows t))
  weak_abort_named c a b (delay.Later (later.Count n x)) r t h =
      ended_named c a b r (K.seq (row.await_count K n (test_of x)) nothing_named) (h c)
      (seq_named c b b b (row.await_count K n (test_of x)) nothing_named
      (awaits_count c b n (test_of x) (tests_later a b (test_of x) (h c).grows t)) (leaf c b))
  weak_abort_named c a b (delay.Immediate x) r t h =
      ended_named c a b r (row.waiting_now K (test_of x)) (h c)
      (waits_now c b (test_of x) (tests_later a b (test_of x) (h c).grows t))

  pub suspended_named : (c : Bool) (a b : ℕ) (immediate : Bool) (d : Expr ℕ) (r : Naming) → Tests a d → Body a b r
      → Passes c a b (tree.suspend K immediate d r)
  suspended_named c a b false d r t h = suspend_named c a b d r t (h c)
  suspended_named c a b true d r t h =
      suspend_named c a b d (K.seq (K.choice d nothing_named nothing_named) r) t
      (seq_named c a a b (K.choice d nothing_named nothing_named) r (exits c a d t) (h c))

  -- a body behind which nothing happens
  halted : (a b : ℕ) (r : Naming) → Body a b r → Body a b (K.seq r (row.halt K))
  halted a b r h c = seq_named c a b b r nothing_named (h c) (leaf c b)

  pub do_every_named : (c : Bool) (a b : ℕ) (d : Later ℕ) (r : Naming) → LaterTests a d → Body a b r
      → Passes c a b (tree.do_every K d r)
  do_every_named c a b (later.Once x) r t h = abort_once c a b (test_of x) (K.seq r (row.halt K)) t (halted a b r h c)
  do_every_named c a b (later.Count n x) r t h =
      abort_counted c a b n (test_of x) (K.seq r (row.halt K)) t (halted a b r h true)

  pub every_named : (c : Bool) (a b : ℕ) (d : Delay ℕ) (r : Naming) → DelayTests a d → Body a b r
      → Passes c a b (tree.every K d r)
  every_named c a b (delay.Later (later.Once x)) r t h =
      seq_named c a a b (row.await K (test_of x)) (row.do_every K (test_of x) r) (waits c a (test_of x) t)
      (do_every_named c a b (later.Once x) r t h)
  every_named c a b (delay.Later (later.Count n x)) r t h =
      seq_named c a a b (row.await_count K n (test_of x)) (row.do_every_count K n (test_of x) r)
      (awaits_count c a n (test_of x) t) (do_every_named c a b (later.Count n x) r t h)
  every_named c a b (delay.Immediate x) r t h =
      seq_named c a a b (row.await_immediate K (test_of x)) (row.do_every K (test_of x) r) (waits_now c a (test_of x) t)
      (do_every_named c a b (later.Once x) r t h)

  pub locals_named : (c : Bool) (a b : ℕ) (ds : List SignalNode) (r : Naming) → Passes c (a + length ds) b r
      → Passes c a b (tree.locals K ds r)
  locals_named c a b [] r x = subst (λ z. Passes c z b r) (let same : a + 0 ≡ a = omega arith in same) x
  locals_named c a b (d ∷ ds) r x =
      let same : a + suc (length ds) ≡ (a + 1) + length ds = omega arith in
      let y = locals_named c (a + 1) b ds r (subst (λ z. Passes c z b r) same x) in
      record { is = y.is; grows = omega (arith, y.grows) }

-- Each derived statement leaves no trap of a row but its own, where its body leaves none.
use Rattle.std.proofs.Common.{◌≡◌, refl, sym, ap, subst, ℕ, zero, suc, ◌+◌, ◌<◌, ◌≤◌, Bool, true, false, cond, List}
use Rattle.std.proofs.Common.{[], ◌∷◌, length, arith, Option, Some, None, replicate, take, drop, ◌/◌}
use Rattle.std.proofs.lemmas.List.{length-take, length-drop}
use Rattle.std.proofs.lemmas.Bool.{eq-eqb, ne_eqb}
use Rattle.std.specs.Prelude.{◌==◌, slice_get, is_some}
use Rattle.hh_base.specs.declared.value.Pos.{Pos}
use Rattle.host_expr.specs.declared.expr.Expr.{Expr}
use Rattle.module_tree.specs.declared.source.SignalNode.{SignalNode}
use Rattle.module_tree.specs.declared.source.Binding.{Binding}
use Rattle.module_tree.specs.declared.source.Later.{Later}
use Rattle.module_tree.specs.declared.source.Later.TheVariants as later
use Rattle.module_tree.specs.declared.source.Delay.{Delay}
use Rattle.module_tree.specs.declared.source.Delay.TheVariants as delay
use Rattle.module_tree.specs.Scopes.{TrapName, trap_at}
use Rattle.hh_term.specs.Statement as term
use Rattle.hh_term.specs.Statement.{Statement}
use Rattle.hh_term.specs.Scopes.{ExitsFit}
use Rattle.hh_term.specs.Placed.{Placed, unplaced}
use Rattle.hh_term.specs.Placed as placed
use Rattle.kernel_expand.specs.Operations.{Operations}
use Rattle.kernel_expand.specs.Halves.{halved, in_halves}
use Rattle.kernel_expand.specs.Rows as row
use Rattle.kernel_expand.specs.Interpretation as tree
use Rattle.kernel_expand.specs.Interpretation.{test_of}
use Rattle.kernel_expand.specs.Numbering.{Piece, Around, Numbered, numbering, in_trap, is_trap, traps_between, no_traps}
use Rattle.kernel_expand.specs.Numbering.{with_trap, with_signal, with_place, local_signal, counter_signal, inside_run}
use Rattle.kernel_expand.specs.Numbering.{of_two, in_numbers}
use Rattle.kernel_expand.proofs.GoodRuns.{exits_more}
use Rattle.kernel_expand.proofs.Standing.{found_in}
use Rattle.std.proofs.lemmas.Bool.{eqb-true}
use Rattle.derived_laws.specs.Bodies.{NeverExits, Opened}

-- the innermost trap round it is a row's
abbrev InRow : Around → Type 0
InRow a = slice_get a.traps 0 ≡ Some None

-- each exit has its trap, and leaves no row's trap; but the innermost one, where c says so
pub record Stays (c : Bool) (to : ℕ) (a : Around) (x : Placed × Numbered) : Type 0 where
  pub traps : x.1.traps ≡ to
  pub fits : ExitsFit (length a.traps) (unplaced x.0)
  pub never : (j : ℕ) → slice_get a.traps j ≡ Some None → (c ≡ true → 1 ≤ j) → NeverExits j (unplaced x.0)

abbrev pub Safe : Bool → List TrapName → ℕ → ℕ → Piece → Type 0
Safe c ts from to p = (a : Around) (n : Numbered) → n.traps ≡ from → Opened ts a → (c ≡ true → InRow a)
    → Stays c to a (p a n)

pub fits_never : (p : Statement) (n j : ℕ) → n ≤ j → ExitsFit n p → NeverExits j p
fits_never term.Nothing n j le h = tt
fits_never term.Pause n j le h = tt
fits_never (term.Emit s e) n j le h = tt
fits_never (term.If e p q) n j le h = (fits_never p n j le h.0, fits_never q n j le h.1)
fits_never (term.Suspend e p) n j le h = fits_never p n j le h
fits_never (term.Seq p q) n j le h = (fits_never p n j le h.0, fits_never q n j le h.1)
fits_never (term.Par p q) n j le h = (fits_never p n j le h.0, fits_never q n j le h.1)
fits_never (term.Loop p) n j le h = fits_never p n j le h
fits_never (term.Trap p) n j le h = fits_never p (suc n) (suc j) (omega (arith, le)) h
fits_never (term.Exit k) n j le h = ne_eqb k j (λ e. let no : ⊥ = omega (arith, e, le, h) in no)
fits_never (term.Local s p) n j le h = fits_never p n j le h
fits_never (term.Async i) n j le h = tt

-- a trap of the text is no row's
other_trap : (t j : ℕ) (us : List (Option ℕ)) → slice_get us j ≡ Some None → (traps_between t us == j) ≡ false
other_trap t j us h = ne_eqb (traps_between t us) j (at t j us h)
  where
    by_test : (b : Bool) (i j : ℕ) → (i ≡ j → ⊥) → cond b 0 (suc i) ≡ suc j → ⊥
    by_test true i j h e = omega (arith, e)
    by_test false i j h e = h (omega (arith, e))

    at : (t j : ℕ) (us : List (Option ℕ)) → slice_get us j ≡ Some None → traps_between t us ≡ j → ⊥
    at t j [] h e = cc
    at t zero (None ∷ us) h e = omega (arith, e)
    at t zero (Some u ∷ us) h e = let no : ⊥ = cc in no
    at t (suc j) (u ∷ us) h e = by_test (is_trap t u) (traps_between t us) j (at t j us h) e

deeper : (b : Bool) (x l : ℕ) → x < l → cond b 0 (suc x) < suc l
deeper true x l h = omega (arith, h)
deeper false x l h = omega (arith, h)

opened_in : (u : Option ℕ) (ts : List TrapName) (a : Around) → Opened ts a → Opened ts (in_trap u a)
opened_in u [] a h = tt
opened_in u (t ∷ ts) a h =
    (deeper (is_trap t.place u) (traps_between t.place a.traps) (length a.traps) h.0, opened_in u ts a h.1)

module _ (modules : ℕ → Piece) (pos : Pos) (ts : List TrapName) where
  abbrev K : Operations Piece
  K = numbering modules pos

  abbrev S : Bool → ℕ → ℕ → Piece → Type 0
  S c from to p = Safe c ts from to p

  weaker : (c : Bool) (from to : ℕ) (p : Piece) → S false from to p → S c from to p
  weaker c from to p h a n e o r =
      let w = h a n e o (λ f. absurd (let no : ⊥ = cc in no)) in
      record { traps = w.traps; fits = w.fits; never = λ j at le. w.never j at (λ f. absurd (let no : ⊥ = cc in no)) }

  pub leaf : (c : Bool) (from : ℕ) (t : Numbered → Placed) → ((n : Numbered) (l : ℕ) → ExitsFit l (unplaced (t n)))
      → ((n : Numbered) (j : ℕ) → NeverExits j (unplaced (t n))) → S c from from (λ a n. (t n, n))
  leaf c from t f g a n e o r =
      record { traps = e; fits = f n (length a.traps); never = λ j at le. g n j }

  two : (c : Bool) (from mid to : ℕ) (p q : Piece) (node : Numbered → Placed → Placed → Placed)
      → ((n : Numbered) (l : ℕ) (x y : Placed) → ExitsFit l (unplaced x) → ExitsFit l (unplaced y)
      → ExitsFit l (unplaced (node n x y)))
      → ((n : Numbered) (j : ℕ) (x y : Placed) → NeverExits j (unplaced x) → NeverExits j (unplaced y)
      → NeverExits j (unplaced (node n x y)))
      → S c from mid p → S c mid to q → S c from to (of_two node p q)
  two c from mid to p q node f g h k a n e o r =
      let x = p a n in
      let w = h a n e o r in
      let v = k a x.1 w.traps o r in
      record {
        traps = v.traps;
        fits = f n (length a.traps) x.0 (q a x.1).0 w.fits v.fits;
        never = λ j at le. g n j x.0 (q a x.1).0 (w.never j at le) (v.never j at le);
      }

  pub seq_safe : (c : Bool) (from mid to : ℕ) (p q : Piece) → S c from mid p → S c mid to q → S c from to (K.seq p q)
  seq_safe c from mid to p q h k = two c from mid to p q (λ n x y. placed.Seq pos x y) (λ n l x y f g. (f, g))
      (λ n j x y f g. (f, g)) h k

  pub par_safe : (c : Bool) (from mid to : ℕ) (p q : Piece) → S c from mid p → S c mid to q → S c from to (K.par p q)
  par_safe c from mid to p q h k = two c from mid to p q (λ n x y. placed.Par pos x y) (λ n l x y f g. (f, g))
      (λ n j x y f g. (f, g)) h k

  pub choice_safe : (c : Bool) (from mid to : ℕ) (d : Expr ℕ) (p q : Piece) → S c from mid p → S c mid to q
      → S c from to (K.choice d p q)
  choice_safe c from mid to d p q h k =
      two c from mid to p q (λ n x y. placed.If pos (in_numbers n d) x y) (λ n l x y f g. (f, g))
      (λ n j x y f g. (f, g)) h k

  pub loop_safe : (c : Bool) (from to : ℕ) (p : Piece) → S c from to p → S c from to (K.loop p)
  loop_safe c from to p h a n e o r =
      let w = h a n e o r in record { traps = w.traps; fits = w.fits; never = w.never }

  pub suspend_safe : (c : Bool) (from to : ℕ) (d : Expr ℕ) (p : Piece) → S c from to p → S c from to (K.suspend d p)
  suspend_safe c from to d p h a n e o r =
      let w = h a n e o r in record { traps = w.traps; fits = w.fits; never = w.never }

  counted_safe : (c : Bool) (from to : ℕ) (p : Piece) → S c from to p → S c from to (K.suspend_counted p)
  counted_safe c from to p h a n e o r =
      let w = h a n e o r in record { traps = w.traps; fits = w.fits; never = w.never }

  counter_safe : (c : Bool) (from to : ℕ) (p : Piece) → S c from to p → S c from to (K.counter p)
  counter_safe c from to p h a n e o r =
      let w = h (record { traps = a.traps; counter = length n.signals }) (with_signal (counter_signal pos) n) e o r in
      record { traps = w.traps; fits = w.fits; never = w.never }

  pub local_safe : (c : Bool) (from to : ℕ) (d : SignalNode) (p : Piece) → S c from to p → S c from to (K.local d p)
  local_safe c from to d p h a n e o r =
      let w = h a (with_place (local_signal d) n) e o r in
      record { traps = w.traps; fits = w.fits; never = w.never }

  trap_safe : (c : Bool) (from to : ℕ) (p : Piece) → S true from to p → S c from to (K.trap p)
  trap_safe c from to p h a n e o r =
      let w = h (in_trap None a) n e (opened_in None ts a o) (λ f. refl) in
      record { traps = w.traps; fits = w.fits; never = λ j at le. w.never (suc j) at (λ f. omega arith) }

  exit_safe : (from : ℕ) → S true from from K.exit
  exit_safe from a n e o r =
      record {
        traps = e;
        fits = has_one a.traps (r refl);
        never = λ j at le. ne_eqb 0 j (λ f. let no : ⊥ = omega (arith, f, le refl) in no);
      }
    where
      has_one : (us : List (Option ℕ)) → slice_get us 0 ≡ Some None → 0 < length us
      has_one [] h = absurd (let no : ⊥ = cc in no)
      has_one (u ∷ us) h = omega arith

  nothing_safe : (c : Bool) (from : ℕ) → S c from from K.nothing
  nothing_safe c from = leaf c from (λ n. placed.Nothing pos) (λ n l. tt) (λ n j. tt)

  pause_safe : (c : Bool) (from : ℕ) → S c from from K.pause
  pause_safe c from = leaf c from (λ n. placed.Pause pos) (λ n l. tt) (λ n j. tt)

  -- ---- lists

  abbrev pub Along : Bool → ℕ → List Piece → ℕ → Type 0
  Along c from [] to = from ≡ to
  Along c from (p ∷ ps) to = (mid : ℕ) × S c from mid p × Along c mid ps to

  along_parts : (c : Bool) (n from to : ℕ) (ps : List Piece) → Along c from ps to
      → (mid : ℕ) × Along c from (take n ps) mid × Along c mid (drop n ps) to
  along_parts c zero from to ps h = (from, refl, h)
  along_parts c (suc n) from to [] h = (from, refl, h)
  along_parts c (suc n) from to (p ∷ ps) h =
      let q = along_parts c n h.0 to ps h.2 in
      (q.0, (h.0, h.1, q.1), q.2)

  module _ (c : Bool) (join : Piece → Piece → Piece)
      (joined : (from mid to : ℕ) (p q : Piece) → S c from mid p → S c mid to q → S c from to (join p q)) where
    halved_safe : (n from to : ℕ) (ps : List Piece) → length ps ≤ n → Along c from ps to
        → S c from to (halved join K.nothing n ps)
    unfolding halved
    halved_safe zero from to [] le h = subst (λ z. S c from z K.nothing) h (nothing_safe c from)
    halved_safe zero from to (p ∷ ps) le h = absurd (let no : ⊥ = omega (arith, le) in no)
    halved_safe (suc n) from to [] le h = subst (λ z. S c from z K.nothing) h (nothing_safe c from)
    halved_safe (suc n) from to (p ∷ []) le h = subst (λ z. S c from z p) h.2 h.1
    halved_safe (suc n) from to (p ∷ q ∷ ps) le h =
        let all = p ∷ q ∷ ps in
        let half = (length all + 1) / 2 in
        let parts = along_parts c half from to all h in
        joined from parts.0 to _ _
        (halved_safe n from parts.0 (take half all) (omega (arith, le, length-take half all)) parts.1)
        (halved_safe n parts.0 to (drop half all) (omega (arith, le, length-drop half all)) parts.2)

    halves_safe : (from to : ℕ) (ps : List Piece) → Along c from ps to → S c from to (in_halves join K.nothing ps)
    halves_safe from to ps h = halved_safe (length ps) from to ps (omega arith) h

  pub listed_safe : (c : Bool) (from to : ℕ) (ps : List Piece) → Along c from ps to → S c from to (row.listed K ps)
  listed_safe c = halves_safe c K.seq (seq_safe c)

  pub forked_safe : (c : Bool) (from to : ℕ) (ps : List Piece) → Along c from ps to → S c from to (row.forked K ps)
  forked_safe c = halves_safe c K.par (par_safe c)

  -- ---- the rows, from what holds of their bodies in no row's trap

  pub halt_safe : (c : Bool) (from : ℕ) → S c from from (row.halt K)
  halt_safe c from = loop_safe c from from K.pause (pause_safe c from)

  exits : (from : ℕ) (d : Expr ℕ) → S true from from (K.choice d K.exit K.nothing)
  exits from d = choice_safe true from from from d K.exit K.nothing (exit_safe from) (nothing_safe true from)

  waits : (from : ℕ) (d : Expr ℕ) → S true from from (row.waiting K d)
  waits from d =
      loop_safe true from from (K.seq K.pause (K.choice d K.exit K.nothing))
      (seq_safe true from from from K.pause (K.choice d K.exit K.nothing) (pause_safe true from) (exits from d))

  waits_now : (from : ℕ) (d : Expr ℕ) → S true from from (row.waiting_now K d)
  waits_now from d =
      loop_safe true from from (K.seq (K.choice d K.exit K.nothing) K.pause)
      (seq_safe true from from from (K.choice d K.exit K.nothing) K.pause (exits from d) (pause_safe true from))

  await_once : (c : Bool) (from : ℕ) (d : Expr ℕ) → S c from from (row.await K d)
  await_once c from d = trap_safe c from from (row.waiting K d) (waits from d)

  await_now : (c : Bool) (from : ℕ) (d : Expr ℕ) → S c from from (row.await_immediate K d)
  await_now c from d = trap_safe c from from (row.waiting_now K d) (waits_now from d)

  copies : (c : Bool) (from n : ℕ) (p : Piece) → S c from from p → Along c from (replicate n p) from
  copies c from zero p h = refl
  copies c from (suc n) p h = (from, h, copies c from n p h)

  await_count : (c : Bool) (from n : ℕ) (d : Expr ℕ) → S c from from (row.await_count K n d)
  await_count c from n d =
      listed_safe c from from (replicate n (row.await K d)) (copies c from n (row.await K d) (await_once c from d))

  pub await_safe : (c : Bool) (from : ℕ) (d : Delay ℕ) → S c from from (tree.await K d)
  await_safe c from (delay.Later (later.Once x)) = await_once c from (test_of x)
  await_safe c from (delay.Later (later.Count n x)) = await_count c from n (test_of x)
  await_safe c from (delay.Immediate x) = await_now c from (test_of x)

  -- a body with the row's exit behind it, beside what waits
  watched : (c : Bool) (from to : ℕ) (p w : Piece) → S true from to p → S true to to w
      → S c from to (K.trap (K.par (K.seq p K.exit) w))
  watched c from to p w h k =
      trap_safe c from to (K.par (K.seq p K.exit) w)
      (par_safe true from to to (K.seq p K.exit) w (seq_safe true from to to p K.exit h (exit_safe to)) k)

  abort_once : (c : Bool) (from to : ℕ) (d : Expr ℕ) (p : Piece) → S true from to p → S c from to (row.abort K d p)
  abort_once c from to d p h =
      watched c from to (K.suspend d p) (row.waiting K d) (suspend_safe true from to d p h) (waits to d)

  counts : (to n : ℕ) (d : Expr ℕ) → S true to to (row.listed K (row.await_count K n d ∷ K.emit_counter ∷ K.exit ∷ []))
  counts to n d =
      listed_safe true to to (row.await_count K n d ∷ K.emit_counter ∷ K.exit ∷ []) (
        to,
        await_count true to n d,
        (to, (λ a m e o r. record { traps = e; fits = tt; never = λ j at le. tt }), (to, exit_safe to, refl)),
      )

  abort_counted : (c : Bool) (from to n : ℕ) (d : Expr ℕ) (p : Piece) → S true from to p
      → S c from to (row.abort_count K n d p)
  abort_counted c from to n d p h =
      let w = row.listed K (row.await_count K n d ∷ K.emit_counter ∷ K.exit ∷ []) in
      trap_safe c from to (K.counter (K.par (K.seq (K.suspend_counted p) K.exit) w))
      (counter_safe true from to (K.par (K.seq (K.suspend_counted p) K.exit) w)
      (par_safe true from to to (K.seq (K.suspend_counted p) K.exit) w
      (seq_safe true from to to (K.suspend_counted p) K.exit (counted_safe true from to p h) (exit_safe to))
      (counts to n d)))

  pub abort_safe : (c : Bool) (from to : ℕ) (d : Delay ℕ) (p : Piece) → S false from to p
      → S c from to (tree.abort K d p)
  abort_safe c from to (delay.Later (later.Once x)) p h = abort_once c from to (test_of x) p (weaker true from to p h)
  abort_safe c from to (delay.Later (later.Count n x)) p h =
      abort_counted c from to n (test_of x) p (weaker true from to p h)
  abort_safe c from to (delay.Immediate x) p h =
      choice_safe c from from to (test_of x) K.nothing (row.abort K (test_of x) p) (nothing_safe c from)
      (abort_once c from to (test_of x) p (weaker true from to p h))

  pub weak_abort_safe : (c : Bool) (from to : ℕ) (d : Delay ℕ) (p : Piece) → S false from to p
      → S c from to (tree.weak_abort K d p)
  weak_abort_safe c from to (delay.Later (later.Once x)) p h =
      watched c from to p (row.waiting K (test_of x)) (weaker true from to p h) (waits to (test_of x))
  weak_abort_safe c from to (delay.Later (later.Count n x)) p h =
      watched c from to p (K.seq (row.await_count K n (test_of x)) K.exit) (weaker true from to p h)
      (seq_safe true to to to (row.await_count K n (test_of x)) K.exit (await_count true to n (test_of x)) (exit_safe to))
  weak_abort_safe c from to (delay.Immediate x) p h =
      watched c from to p (row.waiting_now K (test_of x)) (weaker true from to p h) (waits_now to (test_of x))

  pub suspended_safe : (from to : ℕ) (immediate : Bool) (d : Expr ℕ) (p : Piece) → S false from to p
      → S false from to (tree.suspend K immediate d p)
  suspended_safe from to false d p h = suspend_safe false from to d p h
  suspended_safe from to true d p h =
      suspend_safe false from to d (K.seq (K.choice d K.pause K.nothing) p)
      (seq_safe false from from to (K.choice d K.pause K.nothing) p
      (choice_safe false from from from d K.pause K.nothing (pause_safe false from) (nothing_safe false from)) h)

  halted : (from to : ℕ) (p : Piece) → S false from to p → S false from to (K.seq p (row.halt K))
  halted from to p h = seq_safe false from to to p (row.halt K) h (halt_safe false to)

  pub do_every_safe : (c : Bool) (from to : ℕ) (d : Later ℕ) (p : Piece) → S false from to p
      → S c from to (tree.do_every K d p)
  do_every_safe c from to (later.Once x) p h =
      let q = K.seq p (row.halt K) in
      loop_safe c from to (row.abort K (test_of x) q)
      (abort_once c from to (test_of x) q (weaker true from to q (halted from to p h)))
  do_every_safe c from to (later.Count n x) p h =
      let q = K.seq p (row.halt K) in
      loop_safe c from to (row.abort_count K n (test_of x) q)
      (abort_counted c from to n (test_of x) q (weaker true from to q (halted from to p h)))

  pub every_safe : (c : Bool) (from to : ℕ) (d : Delay ℕ) (p : Piece) → S false from to p
      → S c from to (tree.every K d p)
  every_safe c from to (delay.Later (later.Once x)) p h =
      seq_safe c from from to (row.await K (test_of x)) (row.do_every K (test_of x) p) (await_once c from (test_of x))
      (do_every_safe c from to (later.Once x) p h)
  every_safe c from to (delay.Later (later.Count n x)) p h =
      seq_safe c from from to (row.await_count K n (test_of x)) (row.do_every_count K n (test_of x) p)
      (await_count c from n (test_of x)) (do_every_safe c from to (later.Count n x) p h)
  every_safe c from to (delay.Immediate x) p h =
      seq_safe c from from to (row.await_immediate K (test_of x)) (row.do_every K (test_of x) p)
      (await_now c from (test_of x)) (do_every_safe c from to (later.Once x) p h)

  pub locals_safe : (from to : ℕ) (ds : List SignalNode) (p : Piece) → S false from to p
      → S false from to (tree.locals K ds p)
  locals_safe from to [] p h = h
  locals_safe from to (d ∷ ds) p h = local_safe false from to d (tree.locals K ds p) (locals_safe from to ds p h)

  -- ---- traps of the text

  pub named_trap_safe : (from to : ℕ) (name : List ℕ) (p : Piece)
      → Safe false (record { place = from; name = name } ∷ ts) (from + 1) to p → S false from to (K.named_trap p)
  named_trap_safe from to name p h a n e o r =
      let here : traps_between from (Some n.traps ∷ a.traps) < length (Some n.traps ∷ a.traps) =
      subst (λ b. cond b 0 (suc (traps_between from a.traps)) < suc (length a.traps)) (sym (eq-eqb n.traps from e))
      (let le : 0 < suc (length a.traps) = omega arith in le) in
      let w = h (in_trap (Some n.traps) a) (with_trap n) (ap (λ t. t + 1) e) (here, opened_in (Some n.traps) ts a o)
      (λ f. absurd (let no : ⊥ = cc in no)) in
      record {
        traps = w.traps;
        fits = w.fits;
        never = λ j at le. w.never (suc j) at (λ f. absurd (let no : ⊥ = cc in no));
      }

  pub leave_safe : (from u : ℕ) → is_some (trap_at (record { signals = []; traps = ts }) u) ≡ true
      → S false from from (K.leave u)
  leave_safe from u h a n e o r =
      let q = found_in (λ (t : TrapName). traps_between t.place a.traps < length a.traps)
      (λ (t : TrapName). t.place == u) ts o h in
      record {
        traps = e;
        fits = subst (λ t. traps_between t a.traps < length a.traps) (eqb-true q.0.place u q.1) q.2;
        never = λ j at le. other_trap u j a.traps at;
      }

  pub run_safe : (from i : ℕ) (bs : List (Binding ℕ))
      → ((n : Numbered) → n.traps ≡ 0 → ExitsFit 0 (unplaced (modules i no_traps n).0)) → S false from from (K.run i bs)
  run_safe from i bs h a n e o r =
      let inner = h (inside_run bs n) refl in
      record {
        traps = e;
        fits = exits_more (unplaced (modules i no_traps (inside_run bs n)).0) 0 (length a.traps) (omega arith) inner;
        never = λ j at le. fits_never (unplaced (modules i no_traps (inside_run bs n)).0) 0 j (omega arith) inner;
      }

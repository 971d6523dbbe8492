-- Each derived statement is good where its test and its body are.
use Rattle.std.proofs.Common.{◌≡◌, ℕ, zero, suc, ◌+◌, ◌/◌, ◌≤◌, Bool, true, false, List, [], ◌∷◌, length, take}
use Rattle.std.proofs.Common.{drop, replicate, Option, refl, subst, arith}
use Rattle.std.proofs.lemmas.List.{length-take, length-drop}
use Rattle.hh_base.specs.declared.value.Pos.{Pos}
use Rattle.hh_base.specs.declared.value.Kind.{Kind}
use Rattle.hh_base.specs.declared.value.Kind.TheVariants as kind
use Rattle.host_expr.specs.declared.expr.Expr.{Expr}
use Rattle.module_tree.specs.declared.source.Later.{Later}
use Rattle.module_tree.specs.declared.source.Later.TheVariants as later
use Rattle.module_tree.specs.declared.source.Delay.{Delay}
use Rattle.module_tree.specs.declared.source.Delay.TheVariants as delay
use Rattle.module_tree.specs.Scopes.{InScope, Declared}
use Rattle.hh_term.specs.Kernel.{Body}
use Rattle.kernel_expand.specs.Halves.{halved, in_halves}
use Rattle.kernel_expand.specs.Operations.{Operations}
use Rattle.kernel_expand.specs.Rows as row
use Rattle.kernel_expand.specs.Interpretation as tree
use Rattle.kernel_expand.specs.Interpretation.{test_of}
use Rattle.kernel_expand.specs.Numbering.{Piece, numbering}
use Rattle.kernel_expand.proofs.Good.{Inside, Plain, InTrap, InCounter, Good, FitsTest, plain, good_nothing}
use Rattle.kernel_expand.proofs.Good.{good_pause, good_seq, good_par, good_choice, good_loop, good_suspend}
use Rattle.kernel_expand.proofs.GoodNames.{good_exit, good_exit_counted, good_trap, good_emit, good_counter}
use Rattle.kernel_expand.proofs.GoodNames.{good_suspend_counted, good_emit_counter, FitsEmission}

module _ (bodies : List Body) (interface : ℕ) (kinds : List Kind) (scope : InScope) where
  abbrev G : Inside → Declared → Declared → Piece → Type 0
  G c = Good bodies interface kinds c scope

  abbrev pub IsTest : Expr ℕ → Type 0
  IsTest = FitsTest bodies interface kinds scope kind.Bool

  -- statements one after the other, each behind what those before it declare
  abbrev pub Chain : Inside → Declared → List Piece → Declared → Type 0
  Chain c before [] after = before ≡ after
  Chain c before (p ∷ ps) after = (middle : Declared) × G c before middle p × Chain c middle ps after

  chain_parts : (c : Inside) (n : ℕ) (before after : Declared) (ps : List Piece) → Chain c before ps after
      → (middle : Declared) × Chain c before (take n ps) middle × Chain c middle (drop n ps) after
  chain_parts c zero before after ps h = (before, refl, h)
  chain_parts c (suc n) before after [] h = (before, refl, h)
  chain_parts c (suc n) before after (p ∷ ps) h =
      let q = chain_parts c n h.0 after ps h.2 in
      (q.0, (h.0, h.1, q.1), q.2)

  module _ (f : ℕ → Piece) (pos : Pos) where
    abbrev k : Operations Piece
    k = numbering f pos

    module _ (c : Inside) (join : Piece → Piece → Piece)
        (good_join : (before middle after : Declared) (p q : Piece) → G c before middle p
        → G c middle after q → G c before after (join p q)) where
      good_halved : (n : ℕ) (before after : Declared) (ps : List Piece) → length ps ≤ n
          → Chain c before ps after → G c before after (halved join k.nothing n ps)
      unfolding halved
      good_halved zero before after [] le h = subst (λ z. G c before z k.nothing) h
          (good_nothing bodies interface kinds f pos c scope before)
      good_halved zero before after (p ∷ ps) le h = absurd (let no : ⊥ = omega arith in no)
      good_halved (suc n) before after [] le h = subst (λ z. G c before z k.nothing) h
          (good_nothing bodies interface kinds f pos c scope before)
      good_halved (suc n) before after (p ∷ []) le h = subst (λ z. G c before z p) h.2 h.1
      good_halved (suc n) before after (p ∷ q ∷ ps) le h =
          let all = p ∷ q ∷ ps in
          let half = (length all + 1) / 2 in
          let parts = chain_parts c half before after all h in
          good_join before parts.0 after _ _
          (good_halved n before parts.0 (take half all) (omega (arith, length-take half all)) parts.1)
          (good_halved n parts.0 after (drop half all) (omega (arith, length-drop half all)) parts.2)

      pub good_halves : (before after : Declared) (ps : List Piece) → Chain c before ps after
          → G c before after (in_halves join k.nothing ps)
      good_halves before after ps h = good_halved (length ps) before after ps (omega arith) h

    pub good_listed : (c : Inside) (before after : Declared) (ps : List Piece) → Chain c before ps after
        → G c before after (row.listed k ps)
    good_listed c = good_halves c k.seq (good_seq bodies interface kinds f pos c scope)

    pub good_forked : (c : Inside) (before after : Declared) (ps : List Piece) → Chain c before ps after
        → G c before after (row.forked k ps)
    good_forked c = good_halves c k.par (good_par bodies interface kinds f pos c scope)

    copies : (c : Inside) (n : ℕ) (at : Declared) (p : Piece) → G c at at p
        → Chain c at (replicate n p) at
    copies c zero at p h = refl
    copies c (suc n) at p h = (at, h, copies c n at p h)

    seq : (c : Inside) (before middle after : Declared) (p q : Piece) → G c before middle p
        → G c middle after q → G c before after (k.seq p q)
    seq c = good_seq bodies interface kinds f pos c scope

    pub good_halt : (c : Inside) (at : Declared) → G c at at (row.halt k)
    good_halt c at = good_loop bodies interface kinds f pos c scope at at k.pause
        (good_pause bodies interface kinds f pos c scope at)

    pub good_sustain : (c : Inside) (at : Declared) (s : ℕ) (e : Option (Expr ℕ))
        → FitsEmission bodies interface kinds f pos scope s e → G c at at (row.sustain k s e)
    good_sustain c at s e h = good_loop bodies interface kinds f pos c scope at at (k.seq (k.emit s e) k.pause)
        (seq c at at at (k.emit s e) k.pause (good_emit bodies interface kinds f pos c scope at s e h)
        (good_pause bodies interface kinds f pos c scope at))

    module _ (d : Expr ℕ) (test : IsTest d) where
      exits : (at : Declared) → G InTrap at at (k.choice d k.exit k.nothing)
      exits at = good_choice bodies interface kinds f pos InTrap scope at at at d k.exit k.nothing test
          (good_exit bodies interface kinds f pos scope at)
          (good_nothing bodies interface kinds f pos InTrap scope at)

      waiting : (at : Declared) → G InTrap at at (row.waiting k d)
      waiting at = good_loop bodies interface kinds f pos InTrap scope at at _
          (seq InTrap at at at k.pause (k.choice d k.exit k.nothing)
          (good_pause bodies interface kinds f pos InTrap scope at) (exits at))

      waiting_now : (at : Declared) → G InTrap at at (row.waiting_now k d)
      waiting_now at = good_loop bodies interface kinds f pos InTrap scope at at _
          (seq InTrap at at at (k.choice d k.exit k.nothing) k.pause (exits at)
          (good_pause bodies interface kinds f pos InTrap scope at))

      trap : (c : Inside) (before after : Declared) (p : Piece) → G InTrap before after p
          → G c before after (k.trap p)
      trap c before after p = good_trap bodies interface kinds f pos c scope before after p

      await_once : (c : Inside) (at : Declared) → G c at at (row.await k d)
      await_once c at = trap c at at (row.waiting k d) (waiting at)

      await_now : (c : Inside) (at : Declared) → G c at at (row.await_immediate k d)
      await_now c at = trap c at at (row.waiting_now k d) (waiting_now at)

      await_count : (c : Inside) (n : ℕ) (at : Declared) → G c at at (row.await_count k n d)
      await_count c n at = good_listed c at at (replicate n (row.await k d))
          (copies c n at (row.await k d) (await_once c at))

      module _ (before after : Declared) (p : Piece) (h : G Plain before after p) where
        beside : (c : Inside) (q w : Piece) → G InTrap before after q → G InTrap after after w
            → G c before after (k.trap (k.par (k.seq q k.exit) w))
        beside c q w good watch =
            trap c before after _ (good_par bodies interface kinds f pos InTrap scope before after after _ _
            (seq InTrap before after after q k.exit good (good_exit bodies interface kinds f pos scope after)) watch)

        in_trap : G InTrap before after p
        in_trap = plain bodies interface kinds InTrap scope before after p h

        abort_once : (c : Inside) → G c before after (row.abort k d p)
        abort_once c = beside c (k.suspend d p) (row.waiting k d)
            (good_suspend bodies interface kinds f pos InTrap scope before after d p test in_trap) (waiting after)

        abort_now : (c : Inside) → G c before after (row.abort_immediate k d p)
        abort_now c = good_choice bodies interface kinds f pos c scope before before after d k.nothing _ test
            (good_nothing bodies interface kinds f pos c scope before) (abort_once c)

        abort_count : (c : Inside) (n : ℕ) → G c before after (row.abort_count k n d p)
        abort_count c n =
            trap c before after _ (good_counter bodies interface kinds f pos scope before after _
            (good_par bodies interface kinds f pos InCounter scope before after after _ _
            (seq InCounter before after after (k.suspend_counted p) k.exit
            (good_suspend_counted bodies interface kinds f pos scope before after p
            (plain bodies interface kinds InCounter scope before after p h))
            (good_exit_counted bodies interface kinds f pos scope after))
            (good_listed InCounter after after (row.await_count k n d ∷ k.emit_counter ∷ k.exit ∷ []) (
              after,
              await_count InCounter n after,
              (
                after,
                good_emit_counter bodies interface kinds f pos scope after,
                (
                  after,
                  good_exit_counted bodies interface kinds f pos scope after,
                  refl,
                ),
              ),
            ))))

        weak_once : (c : Inside) → G c before after (row.weak_abort k d p)
        weak_once c = beside c p (row.waiting k d) in_trap (waiting after)

        weak_now : (c : Inside) → G c before after (row.weak_abort_immediate k d p)
        weak_now c = beside c p (row.waiting_now k d) in_trap (waiting_now after)

        weak_count : (c : Inside) (n : ℕ) → G c before after (row.weak_abort_count k n d p)
        weak_count c n = beside c p (k.seq (row.await_count k n d) k.exit) in_trap
            (seq InTrap after after after (row.await_count k n d) k.exit (await_count InTrap n after)
            (good_exit bodies interface kinds f pos scope after))

        pub good_suspended : (immediate : Bool) → G Plain before after (tree.suspend k immediate d p)
        good_suspended false = good_suspend bodies interface kinds f pos Plain scope before after d p test h
        good_suspended true = good_suspend bodies interface kinds f pos Plain scope before after d _ test
            (seq Plain before before after (k.choice d k.pause k.nothing) p
            (good_choice bodies interface kinds f pos Plain scope before before before d k.pause k.nothing test
            (good_pause bodies interface kinds f pos Plain scope before)
            (good_nothing bodies interface kinds f pos Plain scope before)) h)

        halted : G Plain before after (k.seq p (row.halt k))
        halted = seq Plain before after after p (row.halt k) h (good_halt Plain after)

      do_once : (before after : Declared) (p : Piece) → G Plain before after p
          → G Plain before after (row.do_every k d p)
      do_once before after p h = good_loop bodies interface kinds f pos Plain scope before after _
          (abort_once before after (k.seq p (row.halt k)) (halted before after p h) Plain)

      do_count : (n : ℕ) (before after : Declared) (p : Piece) → G Plain before after p
          → G Plain before after (row.do_every_count k n d p)
      do_count n before after p h = good_loop bodies interface kinds f pos Plain scope before after _
          (abort_count before after (k.seq p (row.halt k)) (halted before after p h) Plain n)

    abbrev pub IsLater : Later ℕ → Type 0
    IsLater (later.Once x) = IsTest (test_of x)
    IsLater (later.Count n x) = IsTest (test_of x)

    abbrev pub IsDelay : Delay ℕ → Type 0
    IsDelay (delay.Later d) = IsLater d
    IsDelay (delay.Immediate x) = IsTest (test_of x)

    pub good_await : (d : Delay ℕ) (at : Declared) → IsDelay d → G Plain at at (tree.await k d)
    good_await (delay.Later (later.Once x)) at h = await_once (test_of x) h Plain at
    good_await (delay.Later (later.Count n x)) at h = await_count (test_of x) h Plain n at
    good_await (delay.Immediate x) at h = await_now (test_of x) h Plain at

    pub good_abort : (d : Delay ℕ) (before after : Declared) (p : Piece) → IsDelay d → G Plain before after p
        → G Plain before after (tree.abort k d p)
    good_abort (delay.Later (later.Once x)) b e p h g = abort_once (test_of x) h b e p g Plain
    good_abort (delay.Later (later.Count n x)) b e p h g = abort_count (test_of x) h b e p g Plain n
    good_abort (delay.Immediate x) b e p h g = abort_now (test_of x) h b e p g Plain

    pub good_weak_abort : (d : Delay ℕ) (before after : Declared) (p : Piece) → IsDelay d
        → G Plain before after p → G Plain before after (tree.weak_abort k d p)
    good_weak_abort (delay.Later (later.Once x)) b e p h g = weak_once (test_of x) h b e p g Plain
    good_weak_abort (delay.Later (later.Count n x)) b e p h g = weak_count (test_of x) h b e p g Plain n
    good_weak_abort (delay.Immediate x) b e p h g = weak_now (test_of x) h b e p g Plain

    pub good_do_every : (d : Later ℕ) (before after : Declared) (p : Piece) → IsLater d
        → G Plain before after p → G Plain before after (tree.do_every k d p)
    good_do_every (later.Once x) b e p h g = do_once (test_of x) h b e p g
    good_do_every (later.Count n x) b e p h g = do_count (test_of x) h n b e p g

    pub good_every : (d : Delay ℕ) (before after : Declared) (p : Piece) → IsDelay d
        → G Plain before after p → G Plain before after (tree.every k d p)
    good_every (delay.Later (later.Once x)) b e p h g = seq Plain b b e _ _
        (await_once (test_of x) h Plain b) (do_once (test_of x) h b e p g)
    good_every (delay.Later (later.Count n x)) b e p h g = seq Plain b b e _ _
        (await_count (test_of x) h Plain n b) (do_count (test_of x) h n b e p g)
    good_every (delay.Immediate x) b e p h g = seq Plain b b e _ _
        (await_now (test_of x) h Plain b) (do_once (test_of x) h b e p g)

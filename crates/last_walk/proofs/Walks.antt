-- What a walk over a statement does, from what walks over its parts do.
use Rattle.std.proofs.Common.{◌≡◌, refl, sym, subst, ℕ, ◌<◌, Bool, true, false, ◌&&◌, Option, Some, None, []}
use Rattle.std.proofs.Common.{length}
use Rattle.host_expr.specs.declared.cell.SigCell.{SigCell}
use Rattle.host_expr.specs.Expression.{Expression}
use Rattle.host_expr.specs.Environment.{Env, env_of, is_decided, is_known}
use Rattle.host_expr.specs.Evaluation.{eval_of}
use Rattle.hh_term.specs.Statement.{Statement, If, Suspend}
use Rattle.hh_term.specs.Selection.{Selection, First, Second, Inside, Task, Start, Resume}
use Rattle.hh_term.specs.MustCan.{Table}
use Rattle.hh_term.specs.Step.{Stepped, wrap, then_start, beside, completes, mark_map, scope_mark, ◌>>=◌}
use Rattle.status_table.specs.Flat.{Cells}
use Rattle.status_table.specs.FlatStep.{flat_step, local_in}
use Rattle.last_walk.specs.declared.completion.Completion.{Completion}
use Rattle.last_walk.specs.declared.completion.Part.TheVariants as part
use Rattle.last_walk.specs.declared.last_pass.Outer.{Outer}
use Rattle.last_walk.specs.declared.last_pass.LastPass.{LastPass}
use Rattle.last_walk.specs.LastWalk.{Did, Walked, Wrapped, Tested, Beside, Entered, Left, in_part, ends_at}
use Rattle.last_walk.specs.LastWalk.{selection_at, held_step}
use Rattle.last_walk.proofs.Noting.{wrap_did, stop_did, go_did, test_open, test_holds, test_fails, beside_did}
use Rattle.last_walk.proofs.Noting.{first_open, second_open}
use Rattle.last_walk.proofs.Scoping.{local_unsolved, local_open, local_did, completes_done}

-- a completion is there only where the step is defined
pub kept_signals : (T : Table) (o : Option Stepped) (x : Completion) (b0 b1 : LastPass) → Did T o (Some x) b0 b1 →
    b1.cells.signals.items ≡ b0.cells.signals.items
kept_signals T None x b0 b1 h = absurd h
kept_signals T (Some a) x b0 b1 h = h.noted.signals

pub no_completion : (r : Option Completion) → ((x : Completion) → r ≡ Some x → ⊥) → r ≡ None
no_completion None h = refl
no_completion (Some x) h = absurd (h x refl)

module _ (T : Table) (τ : Cells) where
  pub walked_as : (st p : Statement) (d l : ℕ) (t : Task) (r : Option Completion) (b0 b1 : LastPass) → st ≡ p → Walked
      T τ p d l t r b0 b1 → Walked T τ st d l t r b0 b1
  walked_as st p d l t r b0 b1 e h = subst (λ x. Walked T τ x d l t r b0 b1) (sym e) h

  pub resumed_as : (st p : Statement) (t u : Task) (d l : ℕ) (r : Option Completion) (b0 b1 : LastPass) → st ≡ p → t ≡ u
      → Walked T τ p d l u r b0 b1 → Walked T τ st d l t r b0 b1
  resumed_as st p t u d l r b0 b1 e f h = walked_as st p d l t r b0 b1 e
      (subst (λ x. Walked T τ p d l x r b0 b1) (sym f) h)

  -- in an environment that is given
  moved : (p : Statement) (d l : ℕ) (t : Task) (r : Option Completion) (b0 b1 b2 : LastPass) → b1.cells.signals.items ≡
      b0.cells.signals.items → Walked T τ p d l t r b1 b2 → Did T
      (flat_step T τ p d l t (env_of b0.cells.signals.items)) r b1 b2
  moved p d l t r b0 b1 b2 e h = subst (λ s. Did T (flat_step T τ p d l t (env_of s)) r b1 b2) e h

  -- ---- tests

  pub if_open : (e : Expression) (p q : Statement) (d l : ℕ) (v : Option Bool) (b0 b1 b2 : LastPass) → Tested T
      (eval_of e (env_of b0.cells.signals.items) []) v b0 b1 → v ≡ None → Walked T τ (If e p q) d l Start None b0 b2
  if_open e p q d l v b0 b1 b2 h n =
      let E : Env = env_of b0.cells.signals.items in
      test_open T b0 b1 (eval_of e E []) (wrap First (flat_step T τ p d l Start E))
      (wrap Second (flat_step T τ q d l Start E)) b2 (subst (λ z. Tested T (eval_of e E []) z b0 b1) n h)

  pub if_true : (e : Expression) (p q : Statement) (d l : ℕ) (v : Option Bool) (r r' : Option Completion)
      (b0 b1 b2 : LastPass) → Tested T (eval_of e (env_of b0.cells.signals.items) []) v b0 b1 → v ≡ Some true → Walked T
      τ p d l Start r b1 b2 → Wrapped (in_part part.First) r r' → Walked T τ (If e p q) d l Start r' b0 b2
  if_true e p q d l v r r' b0 b1 b2 h n k w =
      let E : Env = env_of b0.cells.signals.items in
      test_holds T b0 b1 (eval_of e E []) (wrap First (flat_step T τ p d l Start E))
      (wrap Second (flat_step T τ q d l Start E)) r' b2 (subst (λ z. Tested T (eval_of e E []) z b0 b1) n h)
      (wrap_did T b1 b2 First (flat_step T τ p d l Start E) r r' (moved p d l Start r b0 b1 b2 h.noted.signals k) w)

  pub if_false : (e : Expression) (p q : Statement) (d l : ℕ) (v : Option Bool) (r r' : Option Completion)
      (b0 b1 b2 : LastPass) → Tested T (eval_of e (env_of b0.cells.signals.items) []) v b0 b1 → v ≡ Some false → Walked T
      τ q d l Start r b1 b2 → Wrapped (in_part part.Second) r r' → Walked T τ (If e p q) d l Start r' b0 b2
  if_false e p q d l v r r' b0 b1 b2 h n k w =
      let E : Env = env_of b0.cells.signals.items in
      test_fails T b0 b1 (eval_of e E []) (wrap First (flat_step T τ p d l Start E))
      (wrap Second (flat_step T τ q d l Start E)) r' b2 (subst (λ z. Tested T (eval_of e E []) z b0 b1) n h)
      (wrap_did T b1 b2 Second (flat_step T τ q d l Start E) r r' (moved q d l Start r b0 b1 b2 h.noted.signals k) w)

  pub suspend_open : (e : Expression) (p : Statement) (m : Selection) (d l : ℕ) (v : Option Bool) (b0 b1 b2 : LastPass)
      → Tested T (eval_of e (env_of b0.cells.signals.items) []) v b0 b1 → v ≡ None → Walked T τ (Suspend e p) d l
      (Resume (Inside m)) None b0 b2
  suspend_open e p m d l v b0 b1 b2 h n =
      let E : Env = env_of b0.cells.signals.items in
      test_open T b0 b1 (eval_of e E []) (Some (held_step p m)) (wrap Inside (flat_step T τ p d l (Resume m) E)) b2
      (subst (λ z. Tested T (eval_of e E []) z b0 b1) n h)

  pub suspend_holds : (e : Expression) (p : Statement) (m : Selection) (d l : ℕ) (v : Option Bool)
      (r : Option Completion) (b0 b1 b2 : LastPass) → Tested T (eval_of e (env_of b0.cells.signals.items) []) v b0 b1 →
      v ≡ Some true → Did T (Some (held_step p m)) r b1 b2 → Walked T τ (Suspend e p) d l (Resume (Inside m)) r b0 b2
  suspend_holds e p m d l v r b0 b1 b2 h n k =
      let E : Env = env_of b0.cells.signals.items in
      test_holds T b0 b1 (eval_of e E []) (Some (held_step p m)) (wrap Inside (flat_step T τ p d l (Resume m) E)) r b2
      (subst (λ z. Tested T (eval_of e E []) z b0 b1) n h) k

  pub suspend_fails : (e : Expression) (p : Statement) (m : Selection) (d l : ℕ) (v : Option Bool)
      (r r' : Option Completion) (b0 b1 b2 : LastPass) → Tested T (eval_of e (env_of b0.cells.signals.items) []) v b0 b1
      → v ≡ Some false → Walked T τ p d l (Resume m) r b1 b2 → Wrapped (in_part part.Inside) r r' → Walked T τ
      (Suspend e p) d l (Resume (Inside m)) r' b0 b2
  suspend_fails e p m d l v r r' b0 b1 b2 h n k w =
      let E : Env = env_of b0.cells.signals.items in
      test_fails T b0 b1 (eval_of e E []) (Some (held_step p m)) (wrap Inside (flat_step T τ p d l (Resume m) E)) r' b2
      (subst (λ z. Tested T (eval_of e E []) z b0 b1) n h)
      (wrap_did T b1 b2 Inside (flat_step T τ p d l (Resume m) E) r r'
      (moved p d l (Resume m) r b0 b1 b2 h.noted.signals k) w)

  -- ---- two parts, one after the other

  pub goes : (f g : Selection → Selection) (p q : Statement) (d1 l1 d2 l2 : ℕ) (t : Task) (r s s' : Option Completion)
      (b0 b1 b2 : LastPass) → Walked T τ p d1 l1 t r b0 b1 → ends_at r ≡ true → Walked T τ q d2 l2 Start s b1 b2 →
      Wrapped g s s' → Did T (then_start f g (flat_step T τ p d1 l1 t (env_of b0.cells.signals.items))
      (flat_step T τ q d2 l2 Start (env_of b0.cells.signals.items))) s' b0 b2
  goes f g p q d1 l1 d2 l2 t None s s' b0 b1 b2 h e k w = cc
  goes f g p q d1 l1 d2 l2 t (Some x) s s' b0 b1 b2 h e k w =
      let E : Env = env_of b0.cells.signals.items in
      go_did T b0 b1 b2 f g (flat_step T τ p d1 l1 t E) (flat_step T τ q d2 l2 Start E) (Some x) s s' h e
      (moved q d2 l2 Start s b0 b1 b2 (kept_signals T (flat_step T τ p d1 l1 t E) x b0 b1 h) k) w

  pub stops : (f g : Selection → Selection) (p q : Statement) (d1 l1 d2 l2 : ℕ) (t : Task) (r r' : Option Completion)
      (b0 b1 : LastPass) → Walked T τ p d1 l1 t r b0 b1 → ends_at r ≡ false → Wrapped f r r' → Did T
      (then_start f g (flat_step T τ p d1 l1 t (env_of b0.cells.signals.items))
      (flat_step T τ q d2 l2 Start (env_of b0.cells.signals.items))) r' b0 b1
  stops f g p q d1 l1 d2 l2 t r r' b0 b1 h e w =
      let E : Env = env_of b0.cells.signals.items in
      stop_did T b0 b1 f g (flat_step T τ p d1 l1 t E) (flat_step T τ q d2 l2 Start E) r r' h e w

  -- ---- two parts at once

  pub beside_first_open : (p q : Statement) (d l : ℕ) (t u : Task) (r : Option Completion) (b0 b1 b2 : LastPass) → r ≡
      None → Walked T τ p d l t r b0 b1 → Did T (flat_step T τ p d l t (env_of b0.cells.signals.items) >>=
      (λ a. flat_step T τ q d l u (env_of b0.cells.signals.items) >>= (λ b. Some (beside a b)))) None b0 b2
  beside_first_open p q d l t u r b0 b1 b2 e h =
      let E : Env = env_of b0.cells.signals.items in
      first_open T (flat_step T τ p d l t E) (λ a. flat_step T τ q d l u E >>= (λ b. Some (beside a b))) b0 b1 b2
      (subst (λ z. Walked T τ p d l t z b0 b1) e h)

  pub beside_second_open : (p q : Statement) (d l : ℕ) (t u : Task) (r s : Option Completion) (x : Completion)
      (b0 b1 b2 b3 : LastPass) → r ≡ Some x → Walked T τ p d l t r b0 b1 → s ≡ None → Walked T τ q d l u s b1 b2 → Did T
      (flat_step T τ p d l t (env_of b0.cells.signals.items) >>=
      (λ a. flat_step T τ q d l u (env_of b0.cells.signals.items) >>= (λ b. Some (beside a b)))) None b0 b3
  beside_second_open p q d l t u r s x b0 b1 b2 b3 e h f k =
      let E : Env = env_of b0.cells.signals.items in
      let one : Walked T τ p d l t (Some x) b0 b1 = subst (λ z. Walked T τ p d l t z b0 b1) e h in
      second_open T (flat_step T τ p d l t E) (flat_step T τ q d l u E) (Some x) b0 b1 b2 b3 one
      (moved q d l u None b0 b1 b2 (kept_signals T (flat_step T τ p d l t E) x b0 b1 one)
      (subst (λ z. Walked T τ q d l u z b1 b2) f k))

  pub both : (n : ℕ) (p q : Statement) (d l : ℕ) (t u : Task) (r s : Option Completion) (x y z : Completion)
      (b0 b1 b2 b3 : LastPass) → n ≡ length b0.touches.items → r ≡ Some x → Walked T τ p d l t r b0 b1 → s ≡ Some y →
      Walked T τ q d l u s b1 b2 → Beside n x y z b2 b3 → Did T (flat_step T τ p d l t (env_of b0.cells.signals.items) >>=
      (λ a. flat_step T τ q d l u (env_of b0.cells.signals.items) >>= (λ b. Some (beside a b)))) (Some z) b0 b3
  both n p q d l t u r s x y z b0 b1 b2 b3 c e h f k w =
      let E : Env = env_of b0.cells.signals.items in
      let one : Walked T τ p d l t (Some x) b0 b1 = subst (λ z. Walked T τ p d l t z b0 b1) e h in
      beside_did T n (flat_step T τ p d l t E) (flat_step T τ q d l u E) x y z b0 b1 b2 b3 c one
      (moved q d l u (Some y) b0 b1 b2 (kept_signals T (flat_step T τ p d l t E) x b0 b1 one)
      (subst (λ z. Walked T τ q d l u z b1 b2) f k)) w

  -- ---- one of two parts alone

  pub first_alone_open : (p : Statement) (d l : ℕ) (t : Task) (r : Option Completion) (b0 b1 b2 : LastPass) → r ≡ None →
      Walked T τ p d l t r b0 b1 → Did T (flat_step T τ p d l t (env_of b0.cells.signals.items) >>=
      (λ a. Some (beside a (completes 0)))) None b0 b2
  first_alone_open p d l t r b0 b1 b2 e h = first_open T (flat_step T τ p d l t (env_of b0.cells.signals.items))
      (λ a. Some (beside a (completes 0))) b0 b1 b2 (subst (λ z. Walked T τ p d l t z b0 b1) e h)

  pub second_alone_open : (p : Statement) (d l : ℕ) (t : Task) (r : Option Completion) (b0 b1 b2 : LastPass) → r ≡ None
      → Walked T τ p d l t r b0 b1 → Did T (flat_step T τ p d l t (env_of b0.cells.signals.items) >>=
      (λ b. Some (beside (completes 0) b))) None b0 b2
  second_alone_open p d l t r b0 b1 b2 e h = first_open T (flat_step T τ p d l t (env_of b0.cells.signals.items))
      (λ b. Some (beside (completes 0) b)) b0 b1 b2 (subst (λ z. Walked T τ p d l t z b0 b1) e h)

  pub first_alone : (n : ℕ) (p : Statement) (d l : ℕ) (t : Task) (r : Option Completion) (x y z : Completion)
      (b0 b1 b2 : LastPass) → n ≡ length b0.touches.items → r ≡ Some x → Walked T τ p d l t r b0 b1 → y.code ≡ 0 →
      selection_at y.next ≡ None → Beside n x y z b1 b2 → Did T (flat_step T τ p d l t (env_of b0.cells.signals.items)
      >>= (λ a. Some (beside a (completes 0)))) (Some z) b0 b2
  first_alone n p d l t r x y z b0 b1 b2 c e h f k w = beside_did T n
      (flat_step T τ p d l t (env_of b0.cells.signals.items)) (Some (completes 0)) x y z b0 b1 b1 b2 c
      (subst (λ z. Walked T τ p d l t z b0 b1) e h) (completes_done T 0 y b1 f k) w

  pub second_alone : (n : ℕ) (p : Statement) (d l : ℕ) (t : Task) (r : Option Completion) (x y z : Completion)
      (b0 b1 b2 : LastPass) → n ≡ length b0.touches.items → x.code ≡ 0 → selection_at x.next ≡ None → r ≡ Some y →
      Walked T τ p d l t r b0 b1 → Beside n x y z b1 b2 → Did T (flat_step T τ p d l t (env_of b0.cells.signals.items)
      >>= (λ b. Some (beside (completes 0) b))) (Some z) b0 b2
  second_alone n p d l t r x y z b0 b1 b2 c f k e h w = beside_did T n (Some (completes 0))
      (flat_step T τ p d l t (env_of b0.cells.signals.items)) x y z b0 b0 b1 b2 c (completes_done T 0 x b0 f k)
      (subst (λ z. Walked T τ p d l t z b0 b1) e h) w

  -- ---- a scope

  pub scope_unsolved : (s : ℕ) (p : Statement) (d l : ℕ) (t : Task) (c u : SigCell) (b0 b1 : LastPass) → c ≡ u →
      (is_decided c.status && is_known c.value) ≡ false → Did T
      (local_in T s (flat_step T τ p d l t) (env_of b0.cells.signals.items) u) None b0 b1
  scope_unsolved s p d l t c u b0 b1 same e = local_unsolved T s (flat_step T τ p d l t) u b0 b1
      (subst (λ z. (is_decided z.status && is_known z.value) ≡ false) same e)

  pub scope_open : (s : ℕ) (p : Statement) (d l : ℕ) (t : Task) (c u : SigCell) (outer : Outer) (r : Option Completion)
      (b0 b1 b2 b3 : LastPass) → c ≡ u → (is_decided c.status && is_known c.value) ≡ true → s < length
      b0.cells.signals.items → Entered s c outer b0 b1 → r ≡ None → Walked T τ p d l t r b1 b2 → Did T
      (local_in T s (flat_step T τ p d l t) (env_of b0.cells.signals.items) u) None b0 b3
  scope_open s p d l t c u outer r b0 b1 b2 b3 same e ls en n h = subst
      (λ z. Did T (local_in T s (flat_step T τ p d l t) (env_of b0.cells.signals.items) z) None b0 b3) same
      (local_open T s (flat_step T τ p d l t) c b0 b3 b1 outer e ls en b2 (subst (λ z. Walked T τ p d l t z b1 b2) n h))

  pub scope_walked : (s : ℕ) (p : Statement) (d l : ℕ) (t : Task) (c u v : SigCell) (outer : Outer)
      (r : Option Completion) (x y : Completion) (b0 b1 b2 b3 : LastPass) → c ≡ u →
      (is_decided c.status && is_known c.value) ≡ true → s < length b0.cells.signals.items → s < length b0.emitted.items
      → Entered s c outer b0 b1 → r ≡ Some x → Walked T τ p d l t r b1 b2 → Left T s outer v b2 b3 → y.code ≡ x.code →
      selection_at y.next ≡ mark_map (scope_mark v) (selection_at x.next) → Did T
      (local_in T s (flat_step T τ p d l t) (env_of b0.cells.signals.items) u) (Some y) b0 b3
  scope_walked s p d l t c u v outer r x y b0 b1 b2 b3 same e ls le en n h lv code next = subst
      (λ z. Did T (local_in T s (flat_step T τ p d l t) (env_of b0.cells.signals.items) z) (Some y) b0 b3) same
      (local_did T s (flat_step T τ p d l t) c b0 b3 b1 outer e ls en b2 v x y le
      (subst (λ z. Walked T τ p d l t z b1 b2) n h) lv code next)

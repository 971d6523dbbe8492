-- What a walk over a statement does, from what the walks of its arms do.
use Rattle.std.proofs.Common.{◌≡◌, sym, ◌∙◌, subst, ℕ, ◌<◌, ◌≤◌, Bool, true, false, ◌&&◌, Option, Some, None, []}
use Rattle.std.proofs.Common.{length}
use Rattle.std.specs.Prelude.{Result, IfOk}
use Rattle.std.proofs.lemmas.Result.{IfOk-weaker}
use Rattle.hh_base.specs.declared.memory.NoMemory.{NoMemory}
use Rattle.host_expr.specs.declared.cell.SigCell.{SigCell}
use Rattle.host_expr.specs.Expression.{Expression}
use Rattle.host_expr.specs.Environment.{Env, env_of, is_decided, is_known}
use Rattle.host_expr.specs.Evaluation.{eval_of}
use Rattle.hh_term.specs.Statement.{Statement, If}
use Rattle.hh_term.specs.Selection.{First, Second, Task, Start}
use Rattle.hh_term.specs.MustCan.{Table}
use Rattle.hh_term.specs.Step.{wrap}
use Rattle.status_table.specs.Flat.{Cells}
use Rattle.status_table.specs.FlatStep.{flat_step}
use Rattle.status_table.specs.Walking.{Fits}
use Rattle.last_walk.specs.declared.completion.Completion.{Completion}
use Rattle.last_walk.specs.declared.completion.Part.{Part}
use Rattle.last_walk.specs.declared.completion.Part.TheVariants as part
use Rattle.last_walk.specs.declared.last_pass.Outer.{Outer}
use Rattle.last_walk.specs.declared.last_pass.LastPass.{LastPass}
use Rattle.last_walk.specs.LastWalk.{Did, Walked, WalkedIn, Tested, Asks, Entered, MayEnter, in_part}
use Rattle.last_walk.proofs.Noting.{test_holds, test_fails}
use Rattle.last_walk.proofs.Asking.{Kept, asked_fits, asked_emitted, asked_declared}

-- ---- what a walk asks for

pub asks : (levels n d : ℕ) (p q : Statement) (b0 b1 : LastPass) → q ≡ p → Kept b0 b1 →
    Fits (length b0.cells.signals.items) levels d p → length b0.emitted.items ≡ length b0.cells.signals.items →
    b0.cells.args.items ≡ [] → length b0.cells.signals.items ≤ n → d < levels → Asks levels n d q b1
asks levels n d p q b0 b1 same k f e g h l = record {
  fits = subst (Fits (length b1.cells.signals.items) levels d) (sym same) (asked_fits levels d p b0 b1 k f);
  emitted = asked_emitted b0 b1 k e;
  args = k.args ∙ g;
  declared = asked_declared n b0 b1 k h;
  depth = l;
}

-- ---- scopes

pub not_entered : (s : ℕ) (c : SigCell) (r : Option Outer) (b0 b1 : LastPass) → MayEnter s c r b0 b1 → r ≡ None →
    (is_decided c.status && is_known c.value) ≡ false
not_entered s c r b0 b1 h e = subst (λ z. MayEnter s c z b0 b1) e h

pub entered : (s : ℕ) (c : SigCell) (r : Option Outer) (outer : Outer) (b0 b1 : LastPass) → MayEnter s c r b0 b1 → r ≡
    Some outer → ((is_decided c.status && is_known c.value) ≡ true) × Entered s c outer b0 b1
entered s c r outer b0 b1 h e = subst (λ z. MayEnter s c z b0 b1) e h

pub no_outer : (r : Option Outer) → ((x : Outer) → r ≡ Some x → ⊥) → r ≡ None
no_outer None h = λ i. None
no_outer (Some x) h = absurd (h x (λ i. Some x))

module _ (T : Table) (τ : Cells) where
  pub walked_ok : (st p : Statement) (d l : ℕ) (t : Task) (r : Result (Option Completion) NoMemory)
      (b0 b1 : LastPass) → st ≡ p → IfOk r (λ x. Walked T τ p d l t x b0 b1) →
      IfOk r (λ x. Walked T τ st d l t x b0 b1)
  walked_ok st p d l t r b0 b1 e h = subst (λ z. IfOk r (λ x. Walked T τ z d l t x b0 b1)) (sym e) h

  -- in an environment that is given
  pub moved_in : (f : Part) (p : Statement) (d l : ℕ) (t : Task) (r : Option Completion) (b0 b1 b2 : LastPass) →
      b1.cells.signals.items ≡ b0.cells.signals.items → WalkedIn f T τ p d l t r b1 b2 →
      Did T (wrap (in_part f) (flat_step T τ p d l t (env_of b0.cells.signals.items))) r b1 b2
  moved_in f p d l t r b0 b1 b2 e h =
      subst (λ s. Did T (wrap (in_part f) (flat_step T τ p d l t (env_of s))) r b1 b2) e h

  if_first : (e : Expression) (p q : Statement) (d l : ℕ) (v : Option Bool) (r : Option Completion)
      (b0 b1 b2 : LastPass) → Tested T (eval_of e (env_of b0.cells.signals.items) []) v b0 b1 → v ≡ Some true →
      WalkedIn part.First T τ p d l Start r b1 b2 → Walked T τ (If e p q) d l Start r b0 b2
  if_first e p q d l v r b0 b1 b2 h n k =
      let E : Env = env_of b0.cells.signals.items in
      test_holds T b0 b1 (eval_of e E []) (wrap First (flat_step T τ p d l Start E))
      (wrap Second (flat_step T τ q d l Start E)) r b2 (subst (λ z. Tested T (eval_of e E []) z b0 b1) n h)
      (moved_in part.First p d l Start r b0 b1 b2 h.noted.signals k)

  if_second : (e : Expression) (p q : Statement) (d l : ℕ) (v : Option Bool) (r : Option Completion)
      (b0 b1 b2 : LastPass) → Tested T (eval_of e (env_of b0.cells.signals.items) []) v b0 b1 → v ≡ Some false →
      WalkedIn part.Second T τ q d l Start r b1 b2 → Walked T τ (If e p q) d l Start r b0 b2
  if_second e p q d l v r b0 b1 b2 h n k =
      let E : Env = env_of b0.cells.signals.items in
      test_fails T b0 b1 (eval_of e E []) (wrap First (flat_step T τ p d l Start E))
      (wrap Second (flat_step T τ q d l Start E)) r b2 (subst (λ z. Tested T (eval_of e E []) z b0 b1) n h)
      (moved_in part.Second q d l Start r b0 b1 b2 h.noted.signals k)

  pub first_ok : (e : Expression) (p q : Statement) (d l : ℕ) (v : Option Bool)
      (r : Result (Option Completion) NoMemory) (b0 b1 b2 : LastPass) →
      Tested T (eval_of e (env_of b0.cells.signals.items) []) v b0 b1 → v ≡ Some true →
      IfOk r (λ x. WalkedIn part.First T τ p d l Start x b1 b2) →
      IfOk r (λ x. Walked T τ (If e p q) d l Start x b0 b2)
  first_ok e p q d l v r b0 b1 b2 h n k = IfOk-weaker r (λ x. WalkedIn part.First T τ p d l Start x b1 b2)
      (λ x. Walked T τ (If e p q) d l Start x b0 b2) (λ x. if_first e p q d l v x b0 b1 b2 h n) k

  pub second_ok : (e : Expression) (p q : Statement) (d l : ℕ) (v : Option Bool)
      (r : Result (Option Completion) NoMemory) (b0 b1 b2 : LastPass) →
      Tested T (eval_of e (env_of b0.cells.signals.items) []) v b0 b1 → v ≡ Some false →
      IfOk r (λ x. WalkedIn part.Second T τ q d l Start x b1 b2) →
      IfOk r (λ x. Walked T τ (If e p q) d l Start x b0 b2)
  second_ok e p q d l v r b0 b1 b2 h n k = IfOk-weaker r (λ x. WalkedIn part.Second T τ q d l Start x b1 b2)
      (λ x. Walked T τ (If e p q) d l Start x b0 b2) (λ x. if_second e p q d l v x b0 b1 b2 h n) k

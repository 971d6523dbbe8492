-- What a walk that resumes a statement does, from what the walks of its arms do.
use Rattle.std.proofs.Common.{◌≡◌, sym, subst, Bool, true, false, Option, Some, [], ℕ}
use Rattle.std.specs.Prelude.{Result, IfOk}
use Rattle.std.proofs.lemmas.Result.{IfOk-weaker}
use Rattle.hh_base.specs.declared.memory.NoMemory.{NoMemory}
use Rattle.host_expr.specs.Expression.{Expression}
use Rattle.host_expr.specs.Environment.{Env, env_of}
use Rattle.host_expr.specs.Evaluation.{eval_of}
use Rattle.hh_term.specs.Statement.{Statement, Suspend}
use Rattle.hh_term.specs.Selection.{Selection, Inside, Task, Resume}
use Rattle.hh_term.specs.MustCan.{Table}
use Rattle.hh_term.specs.Step.{wrap}
use Rattle.status_table.specs.Flat.{Cells}
use Rattle.status_table.specs.FlatStep.{flat_step}
use Rattle.last_walk.specs.declared.completion.Completion.{Completion}
use Rattle.last_walk.specs.declared.completion.Part.TheVariants as part
use Rattle.last_walk.specs.declared.last_pass.LastPass.{LastPass}
use Rattle.last_walk.specs.LastWalk.{Did, Walked, WalkedIn, Tested, held_step}
use Rattle.last_walk.proofs.Noting.{test_fails}
use Rattle.last_walk.proofs.Walks.{suspend_holds}
use Rattle.last_walk.proofs.Parts.{walked_ok, moved_in}

module _ (T : Table) (τ : Cells) where
  pub resumed_ok : (st p : Statement) (t u : Task) (d l : ℕ) (r : Result (Option Completion) NoMemory)
      (b0 b1 : LastPass) → st ≡ p → t ≡ u → IfOk r (λ x. Walked T τ p d l u x b0 b1) →
      IfOk r (λ x. Walked T τ st d l t x b0 b1)
  resumed_ok st p t u d l r b0 b1 e f h = walked_ok T τ st p d l t r b0 b1 e
      (subst (λ z. IfOk r (λ x. Walked T τ p d l z x b0 b1)) (sym f) h)

  fails : (e : Expression) (p : Statement) (m : Selection) (d l : ℕ) (v : Option Bool) (r : Option Completion)
      (b0 b1 b2 : LastPass) → Tested T (eval_of e (env_of b0.cells.signals.items) []) v b0 b1 → v ≡ Some false →
      WalkedIn part.Inside T τ p d l (Resume m) r b1 b2 → Walked T τ (Suspend e p) d l (Resume (Inside m)) r b0 b2
  fails e p m d l v r b0 b1 b2 h n k =
      let E : Env = env_of b0.cells.signals.items in
      test_fails T b0 b1 (eval_of e E []) (Some (held_step p m)) (wrap Inside (flat_step T τ p d l (Resume m) E)) r b2
      (subst (λ z. Tested T (eval_of e E []) z b0 b1) n h)
      (moved_in T τ part.Inside p d l (Resume m) r b0 b1 b2 h.noted.signals k)

  pub fails_ok : (e : Expression) (p : Statement) (m : Selection) (d l : ℕ) (v : Option Bool)
      (r : Result (Option Completion) NoMemory) (b0 b1 b2 : LastPass) →
      Tested T (eval_of e (env_of b0.cells.signals.items) []) v b0 b1 → v ≡ Some false →
      IfOk r (λ x. WalkedIn part.Inside T τ p d l (Resume m) x b1 b2) →
      IfOk r (λ x. Walked T τ (Suspend e p) d l (Resume (Inside m)) x b0 b2)
  fails_ok e p m d l v r b0 b1 b2 h n k =
      IfOk-weaker r (λ x. WalkedIn part.Inside T τ p d l (Resume m) x b1 b2)
      (λ x. Walked T τ (Suspend e p) d l (Resume (Inside m)) x b0 b2) (λ x. fails e p m d l v x b0 b1 b2 h n) k

  pub holds_ok : (e : Expression) (p : Statement) (m : Selection) (d l : ℕ) (v : Option Bool)
      (r : Result (Option Completion) NoMemory) (b0 b1 b2 : LastPass) →
      Tested T (eval_of e (env_of b0.cells.signals.items) []) v b0 b1 → v ≡ Some true →
      IfOk r (λ x. (U : Table) → Did U (Some (held_step p m)) x b1 b2) →
      IfOk r (λ x. Walked T τ (Suspend e p) d l (Resume (Inside m)) x b0 b2)
  holds_ok e p m d l v r b0 b1 b2 h n k =
      IfOk-weaker r (λ x. (U : Table) → Did U (Some (held_step p m)) x b1 b2)
      (λ x. Walked T τ (Suspend e p) d l (Resume (Inside m)) x b0 b2)
      (λ x held. suspend_holds T τ e p m d l v x b0 b1 b2 h n (held T)) k

-- What a round puts, it puts at a place of the table.
use Rattle.std.proofs.Common.{sym, subst, ℕ, suc, ◌<◌, false, [], inl, inr, ⊎_elim}
use Rattle.hh_base.specs.declared.value.Tri.{Tri}
use Rattle.host_expr.specs.declared.cell.Cell.{Cell}
use Rattle.host_expr.specs.Environment.{Env, put}
use Rattle.host_expr.specs.Evaluation.{eval_of}
use Rattle.hh_term.specs.Statement.{Statement, If, Suspend, Seq, Par, Loop, Trap, Local}
use Rattle.hh_term.specs.Selection.{First, Second, Both, Inside, Scope, Task, Start, Resume}
use Rattle.hh_term.specs.MustCan.{Table, Index, is_end}
use Rattle.status_table.specs.Flat.{Cells, cell_with, flat}
use Rattle.status_table.specs.Putting.{Puts}
use Rattle.status_table.specs.Moving.{Has}
use Rattle.status_table.specs.Walking.{Fits}
use Rattle.status_table.proofs.Rounds.{chosen_key, held_key, follow_put}

pub has_place : (S N d : ℕ) (p : Statement) (s : ℕ) → Fits S N d p → Has p s → s < S
has_place S N d (If e p q) s f (inl h) = has_place S N d p s f.0 h
has_place S N d (If e p q) s f (inr h) = has_place S N d q s f.1 h
has_place S N d (Suspend e p) s f h = has_place S N d p s f h
has_place S N d (Seq p q) s f (inl h) = has_place S N d p s f.0 h
has_place S N d (Seq p q) s f (inr h) = has_place S N d q s f.1 h
has_place S N d (Par p q) s f (inl h) = has_place S N d p s f.0 h
has_place S N d (Par p q) s f (inr h) = has_place S N d q s f.1 h
has_place S N d (Loop p) s f h = has_place S N (suc d) p s f.1 h
has_place S N d (Trap p) s f h = has_place S N d p s f h
has_place S N d (Local u p) s f (inl e) = subst (λ x. x < S) (sym e) f.0
has_place S N d (Local u p) s f (inr h) = has_place S N d p s f.1 h
has_place S N d _ s f h = absurd h

module _ (S N : ℕ) (T : Table) (τ : Cells) (s n : ℕ) (v : Tri × Cell) where
  pub puts_level : (p : Statement) (d l : ℕ) (t : Task) (i : Index) (E : Env) → Fits S N d p → l < N → Puts T
      τ
      p d l t i E s n v → n < N
  puts_level (If e p q) d l Start i E f ln h = ⊎_elim (λ x. x) (λ x. x)
      (chosen_key (eval_of e E []) i (λ j. Puts T τ p d l Start j E s n v)
      (λ j. Puts T τ q d l Start j E s n v) (n < N) (n < N) (λ j g. puts_level p d l Start j E f.0 ln g)
      (λ j g. puts_level q d l Start j E f.1 ln g) h)
  puts_level (If e p q) d l (Resume (First m)) i E f ln h = puts_level p d l (Resume m) i E f.0 ln h
  puts_level (If e p q) d l (Resume (Second m)) i E f ln h = puts_level q d l (Resume m) i E f.1 ln h
  puts_level (Suspend e p) d l Start i E f ln h = puts_level p d l Start i E f ln h
  puts_level (Suspend e p) d l (Resume (Inside m)) i E f ln h = held_key (eval_of e E []) i
      (λ j. Puts T τ p d l (Resume m) j E s n v) (n < N) (λ j g. puts_level p d l (Resume m) j E f ln g) h
  puts_level (Seq p q) d l Start i E f ln h = ⊎_elim (λ g. puts_level p d l Start i E f.0 ln g)
      (λ g. puts_level q d l Start (is_end (flat T τ p d l Start i E).code) E f.1 ln
      (follow_put ((flat T τ p d l Start i E).codes 0)
      (Puts T τ q d l Start (is_end (flat T τ p d l Start i E).code) E s n v) g)) h
  puts_level (Seq p q) d l (Resume (First m)) i E f ln h = ⊎_elim
      (λ g. puts_level p d l (Resume m) i E f.0 ln g)
      (λ g. puts_level q d l Start (is_end (flat T τ p d l (Resume m) i E).code) E f.1 ln
      (follow_put ((flat T τ p d l (Resume m) i E).codes 0)
      (Puts T τ q d l Start (is_end (flat T τ p d l (Resume m) i E).code) E s n v) g)) h
  puts_level (Seq p q) d l (Resume (Second m)) i E f ln h = puts_level q d l (Resume m) i E f.1 ln h
  puts_level (Par p q) d l Start i E f ln h = ⊎_elim (λ g. puts_level p d l Start i E f.0 ln g)
      (λ g. puts_level q d l Start i E f.1 ln g) h
  puts_level (Par p q) d l (Resume (First m)) i E f ln h = puts_level p d l (Resume m) i E f.0 ln h
  puts_level (Par p q) d l (Resume (Second m)) i E f ln h = puts_level q d l (Resume m) i E f.1 ln h
  puts_level (Par p q) d l (Resume (Both m m')) i E f ln h = ⊎_elim
      (λ g. puts_level p d l (Resume m) i E f.0 ln g) (λ g. puts_level q d l (Resume m') i E f.1 ln g) h
  puts_level (Loop p) d l Start i E f ln h = puts_level p (suc d) l Start i E f.1 ln h
  puts_level (Loop p) d l (Resume (Inside m)) i E f ln h = ⊎_elim
      (λ g. puts_level p (suc d) l (Resume m) i E f.1 ln g)
      (λ g. puts_level p (suc d) (suc d) Start (is_end (flat T τ p (suc d) l (Resume m) i E).code) E f.1 f.0
      (follow_put ((flat T τ p (suc d) l (Resume m) i E).codes 0)
      (Puts T τ p (suc d) (suc d) Start (is_end (flat T τ p (suc d) l (Resume m) i E).code) E s n v) g)) h
  puts_level (Trap p) d l Start i E f ln h = puts_level p d l Start i E f ln h
  puts_level (Trap p) d l (Resume (Inside m)) i E f ln h = puts_level p d l (Resume m) i E f ln h
  puts_level (Local u p) d l Start i E f ln h = ⊎_elim (λ g. subst (λ x. x < N) (sym g.1) ln)
      (λ g. puts_level p d l Start i (put E u (cell_with (τ u l) false (T.first u))) f.1 ln g) h
  puts_level (Local u p) d l (Resume (Scope m b w)) i E f ln h = ⊎_elim
      (λ g. subst (λ x. x < N) (sym g.1) ln)
      (λ g. puts_level p d l (Resume m) i (put E u (cell_with (τ u l) b w)) f.1 ln g) h
  puts_level _ d l t i E f ln h = absurd h

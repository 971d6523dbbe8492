-- Must and Can of every statement are lawful: they rise with what is known, Must is within Can, and
-- nothing is sure where the
-- statement is only possible.
use Rattle.std.proofs.Common.{refl, ℕ, ◌+◌, false, Option, Some, None, List, [], ◌∷◌}
use Rattle.hh_base.specs.declared.item.Item.{Item}
use Rattle.host_expr.specs.declared.cell.SigCell.{SigCell}
use Rattle.host_expr.specs.Expression.{Expression}
use Rattle.host_expr.specs.Environment.{Env, put, unsolved}
use Rattle.host_expr.specs.Evaluation.{eval_of}
use Rattle.host_expr.specs.Knows.{CellBelow, EnvBelow}
use Rattle.host_expr.proofs.Information.{signal_refl}
use Rattle.host_expr.proofs.Evaluating.{eval_up}
use Rattle.hh_term.specs.Statement.{Statement, Nothing, Pause, Emit, If, Suspend, Seq, Par, Loop, Trap}
use Rattle.hh_term.specs.Statement.{Exit, Local, Async}
use Rattle.hh_term.specs.Selection.{AtAsync, First, Second, Both, Inside, Scope, Task, Start, Resume}
use Rattle.hh_term.specs.MustCan.{Table, MustCan, Bag, Index, Possible, must_can, gives, emitted, solve}
use Rattle.hh_term.specs.MustCan.{scoped, chosen, held, sequence, parallel, trapped, answered, answer_bag}
use Rattle.hh_term.specs.MustCan.{answer_code}
use Rattle.hh_term.specs.Knows.{IndexBelow, ended, keep, MustCanBelow, MustWithinCan, NothingSure}
use Rattle.hh_term.specs.Lawful.{MustExtendsCanShrinks, MustIsWithinCan, NothingIsSureWherePossible}
use Rattle.hh_term.proofs.Embedding.{same_bag_up, same_bag_down}
use Rattle.hh_term.proofs.Rises.{Rises, gives_up, sequence_up, parallel_up, trapped_up, chosen_up, held_up}
use Rattle.hh_term.proofs.Rounds.{Grows, scoped_up}
use Rattle.hh_term.proofs.WithinCan.{gives_within, gives_nothing, sequence_within, sequence_nothing}
use Rattle.hh_term.proofs.WithinCan.{parallel_within, parallel_nothing, trapped_within, trapped_nothing}
use Rattle.hh_term.proofs.WithinCan.{hide_within, hide_nothing, chosen_within, chosen_nothing}
use Rattle.hh_term.proofs.WithinCan.{held_within, held_nothing}

-- For one task: more known gives more known; what must be completes can be completes; nothing must be
-- completes where nothing is known to run.
pub record Lawful (p : Index → Env → MustCan) : Type 0 where
  pub up : (i j : Index) (E F : Env) → IndexBelow i j → EnvBelow E F → MustCanBelow (p i E) (p j F)
  pub within : (i : Index) (E : Env) → MustWithinCan (p i E)
  pub nothing : (E : Env) → NothingSure (p Possible E)

gives_lawful : (b : Bag) (k : ℕ) → Lawful (λ i E. gives b k i)
gives_lawful b k = record {
  up = λ i j E F h g. gives_up b b k i j (same_bag_up b) (same_bag_down b) h;
  within = λ i E. gives_within b k i;
  nothing = λ E. gives_nothing b k;
}

emitted_up : (e : Option Expression) (E F : Env) → EnvBelow E F → CellBelow (emitted e E) (emitted e F)
emitted_up None E F g = refl
emitted_up (Some e) E F g = eval_up E F [] g e

emit_lawful : (s : ℕ) (e : Option Expression) → Lawful (λ i E. gives ((s, emitted e E) ∷ []) 0 i)
emit_lawful s e = record {
  up = λ i j E F h g. let c = emitted_up e E F g in
      gives_up ((s, emitted e E) ∷ []) ((s, emitted e F) ∷ []) 0 i j (keep (refl, c) ended)
      (keep (refl, c) ended) h;
  within = λ i E. gives_within ((s, emitted e E) ∷ []) 0 i;
  nothing = λ E. gives_nothing ((s, emitted e E) ∷ []) 0;
}

rises : (p : Index → Env → MustCan) → Lawful p → (E F : Env) → EnvBelow E F → Rises (λ i. p i E) (λ i. p i F)
rises p h E F g = record { up = λ i j l. h.up i j E F l g }

choose_lawful : (e : Expression) (p q : Index → Env → MustCan) → Lawful p → Lawful q
    → Lawful (λ i E. chosen (eval_of e E []) i (λ j. p j E) (λ j. q j E))
choose_lawful e p q h g = record {
  up = λ i j E F l k. chosen_up (eval_of e E []) (eval_of e F []) i j (λ j. p j E) (λ j. q j E)
      (λ j. p j F) (λ j. q j F) (eval_up E F [] k e) l (rises p h E F k) (rises q g E F k);
  within = λ i E. chosen_within (eval_of e E []) i (λ j. p j E) (λ j. q j E) (h.within i E) (g.within i E);
  nothing = λ E. chosen_nothing (eval_of e E []) (λ j. p j E) (λ j. q j E) (h.nothing E) (g.nothing E);
}

hold_lawful : (e : Expression) (p : Index → Env → MustCan) → Lawful p
    → Lawful (λ i E. held (eval_of e E []) i (λ j. p j E))
hold_lawful e p h = record {
  up = λ i j E F l k. held_up (eval_of e E []) (eval_of e F []) i j (λ j. p j E) (λ j. p j F)
      (eval_up E F [] k e) l (rises p h E F k);
  within = λ i E. held_within (eval_of e E []) i (λ j. p j E) (h.within i E);
  nothing = λ E. held_nothing (eval_of e E []) (λ j. p j E) (h.nothing E);
}

sequence_lawful : (p q : Index → Env → MustCan) → Lawful p → Lawful q
    → Lawful (λ i E. sequence (p i E) (λ j. q j E))
sequence_lawful p q h g = record {
  up = λ i j E F l k. sequence_up (p i E) (p j F) (λ n. q n E) (λ n. q n F) (h.up i j E F l k)
      (λ m n le. g.up m n E F le k);
  within = λ i E. sequence_within (p i E) (λ j. q j E) (h.within i E) (λ j. g.within j E) (g.nothing E);
  nothing = λ E. sequence_nothing (p Possible E) (λ j. q j E) (h.nothing E) (g.nothing E);
}

parallel_lawful : (p q : Index → Env → MustCan) → Lawful p → Lawful q
    → Lawful (λ i E. parallel (p i E) (q i E))
parallel_lawful p q h g = record {
  up = λ i j E F l k. parallel_up (p i E) (q i E) (p j F) (q j F) (h.up i j E F l k) (g.up i j E F l k);
  within = λ i E. parallel_within (p i E) (q i E) (h.within i E) (g.within i E);
  nothing = λ E. parallel_nothing (p Possible E) (q Possible E) (h.nothing E) (g.nothing E);
}

trapped_lawful : (p : Index → Env → MustCan) → Lawful p → Lawful (λ i E. trapped (p i E))
trapped_lawful p h = record {
  up = λ i j E F l k. trapped_up (p i E) (p j F) (h.up i j E F l k);
  within = λ i E. trapped_within (p i E) (h.within i E);
  nothing = λ E. trapped_nothing (p Possible E) (h.nothing E);
}

pub grows : (p : Index → Env → MustCan) → Lawful p → (i j : Index) → IndexBelow i j → Grows (p i) (p j)
grows p h i j l = record { up = λ E F g. h.up i j E F l g; within = λ E. h.within j E }

scoped_lawful : (T : Table) (s : ℕ) (c : SigCell) (p : Index → Env → MustCan) → Lawful p
    → Lawful (λ i E. scoped T s (p i) E c)
scoped_lawful T s c p h = record {
  up = λ i j E F l k. scoped_up T s (p i) (p j) E F c c (grows p h i j l) k (signal_refl c);
  within = λ i E. let F = put E s (solve T s (p i) E c) in hide_within s (p i F) (h.within i F);
  nothing = λ E. let F = put E s (solve T s (p Possible) E c) in hide_nothing s (p Possible F) (h.nothing F);
}

-- ---- the statements

answered_lawful : (s : Option ℕ) (queue : List Item) → Lawful (λ i E. answered s queue i)
answered_lawful s [] = gives_lawful [] 1
answered_lawful s (a ∷ queue) = gives_lawful (answer_bag s a.value) (answer_code a.last)

pub must_can_lawful : (T : Table) (p : Statement) (t : Task) → Lawful (must_can T p t)
must_can_lawful T Nothing t = gives_lawful [] 0
must_can_lawful T Pause Start = gives_lawful [] 1
must_can_lawful T Pause (Resume m) = gives_lawful [] 0
must_can_lawful T (Emit s e) t = emit_lawful s e
must_can_lawful T (If e p q) Start =
    choose_lawful e (must_can T p Start) (must_can T q Start) (must_can_lawful T p Start)
    (must_can_lawful T q Start)
must_can_lawful T (If e p q) (Resume (First m)) = must_can_lawful T p (Resume m)
must_can_lawful T (If e p q) (Resume (Second m)) = must_can_lawful T q (Resume m)
must_can_lawful T (If e p q) (Resume _) = gives_lawful [] 0
must_can_lawful T (Suspend e p) Start = must_can_lawful T p Start
must_can_lawful T (Suspend e p) (Resume (Inside m)) =
    hold_lawful e (must_can T p (Resume m)) (must_can_lawful T p (Resume m))
must_can_lawful T (Suspend e p) (Resume _) = gives_lawful [] 0
must_can_lawful T (Seq p q) Start =
    sequence_lawful (must_can T p Start) (must_can T q Start) (must_can_lawful T p Start)
    (must_can_lawful T q Start)
must_can_lawful T (Seq p q) (Resume (First m)) =
    sequence_lawful (must_can T p (Resume m)) (must_can T q Start) (must_can_lawful T p (Resume m))
    (must_can_lawful T q Start)
must_can_lawful T (Seq p q) (Resume (Second m)) = must_can_lawful T q (Resume m)
must_can_lawful T (Seq p q) (Resume _) = gives_lawful [] 0
must_can_lawful T (Par p q) Start =
    parallel_lawful (must_can T p Start) (must_can T q Start) (must_can_lawful T p Start)
    (must_can_lawful T q Start)
must_can_lawful T (Par p q) (Resume (First m)) =
    parallel_lawful (must_can T p (Resume m)) (λ i E. gives [] 0 i) (must_can_lawful T p (Resume m))
    (gives_lawful [] 0)
must_can_lawful T (Par p q) (Resume (Second m)) =
    parallel_lawful (λ i E. gives [] 0 i) (must_can T q (Resume m)) (gives_lawful [] 0)
    (must_can_lawful T q (Resume m))
must_can_lawful T (Par p q) (Resume (Both m n)) =
    parallel_lawful (must_can T p (Resume m)) (must_can T q (Resume n)) (must_can_lawful T p (Resume m))
    (must_can_lawful T q (Resume n))
must_can_lawful T (Par p q) (Resume _) = gives_lawful [] 0
must_can_lawful T (Loop p) Start = must_can_lawful T p Start
must_can_lawful T (Loop p) (Resume (Inside m)) =
    sequence_lawful (must_can T p (Resume m)) (must_can T p Start) (must_can_lawful T p (Resume m))
    (must_can_lawful T p Start)
must_can_lawful T (Loop p) (Resume _) = gives_lawful [] 0
must_can_lawful T (Trap p) Start = trapped_lawful (must_can T p Start) (must_can_lawful T p Start)
must_can_lawful T (Trap p) (Resume (Inside m)) =
    trapped_lawful (must_can T p (Resume m)) (must_can_lawful T p (Resume m))
must_can_lawful T (Trap p) (Resume _) = gives_lawful [] 0
must_can_lawful T (Exit k) t = gives_lawful [] (k + 2)
must_can_lawful T (Local s p) Start =
    scoped_lawful T s (unsolved false (T.first s)) (must_can T p Start) (must_can_lawful T p Start)
must_can_lawful T (Local s p) (Resume (Scope m b v)) =
    scoped_lawful T s (unsolved b v) (must_can T p (Resume m)) (must_can_lawful T p (Resume m))
must_can_lawful T (Local s p) (Resume _) = gives_lawful [] 0
must_can_lawful T (Async n) Start = gives_lawful [] 1
must_can_lawful T (Async n) (Resume (AtAsync id args queue suspended)) = answered_lawful (T.target n) queue
must_can_lawful T (Async n) (Resume _) = gives_lawful [] 0

-- ---- the laws

pub must_extends_can_shrinks : MustExtendsCanShrinks
must_extends_can_shrinks T p t i j E F h g = (must_can_lawful T p t).up i j E F h g

pub must_is_within_can : MustIsWithinCan
must_is_within_can T p t = (must_can_lawful T p t).within

pub nothing_is_sure_where_possible : NothingIsSureWherePossible
nothing_is_sure_where_possible T p t = (must_can_lawful T p t).nothing

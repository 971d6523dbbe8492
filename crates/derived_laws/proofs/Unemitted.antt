-- A statement does not emit a signal that it does not mention, and so the signal may count for it.
use Rattle.std.proofs.Common.{◌≡◌, refl, ap, ◌∙◌, ℕ, ◌+◌, Bool, true, false, cond, Option, Some, None, List, []}
use Rattle.std.proofs.Common.{◌∷◌, ◌++◌}
use Rattle.std.specs.Prelude.{◌==◌}
use Rattle.hh_base.specs.declared.value.Value.{Value}
use Rattle.hh_base.specs.declared.value.Value.TheVariants as value
use Rattle.hh_base.specs.declared.item.Item.{Item}
use Rattle.host_expr.specs.declared.cell.Cell.{Cell}
use Rattle.host_expr.specs.declared.cell.Cell.TheVariants as cell
use Rattle.host_expr.specs.declared.cell.SigCell.{SigCell}
use Rattle.host_expr.specs.declared.expr.Expr.{Expr}
use Rattle.host_expr.specs.Expression.{expression_of}
use Rattle.host_expr.specs.Environment.{Env, unsolved, put}
use Rattle.host_expr.specs.Evaluation.{eval_of, truth}
use Rattle.hh_term.specs.Statement.{Statement, Nothing, Pause, Emit, If, Suspend, Seq, Par, Loop, Trap, Exit, Local}
use Rattle.hh_term.specs.Statement.{Async}
use Rattle.hh_term.specs.Selection.{AtAsync, First, Second, Both, Inside, Scope, Task, Start, Resume}
use Rattle.hh_term.specs.MustCan.{Table, MustCan, Bag, Index, Executed, Possible, must_can, emitted, gives, is_end}
use Rattle.hh_term.specs.MustCan.{sequence, parallel, chosen, answered, answer_bag, answer_code, cells_of}
use Rattle.hh_term.specs.MustCan.{without, solve, scoped}
use Rattle.derived_laws.specs.Mentions.{IsOther, Unread, IsOtherTarget, Unmentioned}
use Rattle.derived_laws.specs.CountedAborts.{IsOwn}
use Rattle.derived_laws.proofs.Solving.{NoCells, cells_append, held_none}
use Rattle.derived_laws.proofs.Unmentioned.{put_agrees, eval_same, step_same}

one_cell : (c s : ℕ) (x : Cell) → IsOther c s → cells_of c ((s, x) ∷ []) ≡ []
one_cell c s x h = ap (λ b. cond b (x ∷ []) []) h

gives_none : (c : ℕ) (bag : Bag) (k : ℕ) (i : Index) → cells_of c bag ≡ [] → NoCells c (gives bag k i)
gives_none c bag k Executed h = (h, h)
gives_none c bag k Possible h = (refl, h)

if_none : (c : ℕ) (b : Bool) (xs : Bag) → cells_of c xs ≡ [] → cells_of c (cond b xs []) ≡ []
if_none c true xs h = h
if_none c false xs h = refl

sequence_none : (c : ℕ) (a : MustCan) (f : Index → MustCan) → NoCells c a → ((j : Index) → NoCells c (f j))
    → NoCells c (sequence a f)
sequence_none c a f h g =
    let b = f (is_end a.code) in (
      cells_append c a.must b.must ∙ ap (λ z. z ++ cells_of c b.must) h.0 ∙ (g (is_end a.code)).0,
      cells_append c a.can (cond (a.codes 0) b.can []) ∙ ap (λ z. z ++ cells_of c (cond (a.codes 0) b.can [])) h.1
          ∙ if_none c (a.codes 0) b.can (g (is_end a.code)).1,
    )

parallel_none : (c : ℕ) (a b : MustCan) → NoCells c a → NoCells c b → NoCells c (parallel a b)
parallel_none c a b h g = (
  cells_append c a.must b.must ∙ ap (λ z. z ++ cells_of c b.must) h.0 ∙ g.0,
  cells_append c a.can b.can ∙ ap (λ z. z ++ cells_of c b.can) h.1 ∙ g.1,
)

chosen_none : (c : ℕ) (x : Cell) (i : Index) (p q : Index → MustCan) → ((j : Index) → NoCells c (p j))
    → ((j : Index) → NoCells c (q j)) → NoCells c (chosen x i p q)
chosen_none c cell.Unknown i p q h g = (
  refl,
  cells_append c (p Possible).can (q Possible).can
      ∙ ap (λ z. z ++ cells_of c (q Possible).can) (h Possible).1 ∙ (g Possible).1,
)
chosen_none c (cell.Known v) i p q h g = at (truth v)
  where
    at : (b : Bool) → NoCells c (cond b (p i) (q i))
    at true = h i
    at false = g i
chosen_none c (cell.Faulted o k) i p q h g = g i

kept_none : (c : ℕ) (e : ℕ × Cell) (ys : Bag) → (e.0 == c) ≡ false → cells_of c ys ≡ [] → (b : Bool)
    → cells_of c (cond b ys (e ∷ ys)) ≡ []
kept_none c e ys eq h true = h
kept_none c e ys eq h false = ap (λ b. cond b (e.1 ∷ cells_of c ys) (cells_of c ys)) eq ∙ h

without_cells : (s c : ℕ) (xs : Bag) → cells_of c xs ≡ [] → cells_of c (without s xs) ≡ []
without_cells s c [] h = refl
without_cells s c (e ∷ xs) h = at (e.0 == c) refl (without_cells s c xs) h
  where
    at : (b : Bool) → (e.0 == c) ≡ b → (cells_of c xs ≡ [] → cells_of c (without s xs) ≡ [])
        → cond b (e.1 ∷ cells_of c xs) (cells_of c xs) ≡ []
        → cells_of c (cond (e.0 == s) (without s xs) (e ∷ without s xs)) ≡ []
    at true eq g h = cc
    at false eq g h = kept_none c e (without s xs) eq (g h) (e.0 == s)

scoped_none : (T : Table) (s c : ℕ) (p : Env → MustCan) (E : Env) (x : SigCell) → ((F : Env) → NoCells c (p F))
    → NoCells c (scoped T s p E x)
scoped_none T s c p E x h =
    let F = put E s (solve T s p E x) in
    (without_cells s c (p F).must (h F).0, without_cells s c (p F).can (h F).1)

answer_none : (c : ℕ) (o : Option ℕ) (v : Value) → IsOtherTarget c o → cells_of c (answer_bag o v) ≡ []
answer_none c None v h = refl
answer_none c (Some s) v h = one_cell c s (cell.Known v) h

answered_none : (c : ℕ) (o : Option ℕ) (queue : List Item) (i : Index) → IsOtherTarget c o
    → NoCells c (answered o queue i)
answered_none c o [] i h = gives_none c [] 1 i refl
answered_none c o (a ∷ queue) i h =
    gives_none c (answer_bag o a.value) (answer_code a.last) i (answer_none c o a.value h)

pub unemitted : (T : Table) (c : ℕ) (p : Statement) (t : Task) (i : Index) (E : Env) → Unmentioned T c p
    → NoCells c (must_can T p t i E)
unemitted T c Nothing t i E u = gives_none c [] 0 i refl
unemitted T c Pause Start i E u = gives_none c [] 1 i refl
unemitted T c Pause (Resume m) i E u = gives_none c [] 0 i refl
unemitted T c (Emit s e) t i E u =
    gives_none c ((s, emitted e E) ∷ []) 0 i (one_cell c s (emitted e E) u.0)
unemitted T c (Exit n) t i E u = gives_none c [] (n + 2) i refl
unemitted T c (Async n) Start i E u = gives_none c [] 1 i refl
unemitted T c (Async n) (Resume (AtAsync id args queue suspended)) i E u =
    answered_none c (T.target n) queue i u.0
unemitted T c (If e p q) Start i E u =
    chosen_none c (eval_of e E []) i (λ j. must_can T p Start j E) (λ j. must_can T q Start j E)
    (λ j. unemitted T c p Start j E u.1) (λ j. unemitted T c q Start j E u.2)
unemitted T c (If e p q) (Resume (First m)) i E u = unemitted T c p (Resume m) i E u.1
unemitted T c (If e p q) (Resume (Second m)) i E u = unemitted T c q (Resume m) i E u.2
unemitted T c (Suspend e p) Start i E u = unemitted T c p Start i E u.1
unemitted T c (Suspend e p) (Resume (Inside m)) i E u =
    held_none c (eval_of e E []) i (λ j. must_can T p (Resume m) j E) (λ j. unemitted T c p (Resume m) j E u.1)
unemitted T c (Seq p q) Start i E u =
    sequence_none c (must_can T p Start i E) (λ j. must_can T q Start j E) (unemitted T c p Start i E u.0)
    (λ j. unemitted T c q Start j E u.1)
unemitted T c (Seq p q) (Resume (First m)) i E u =
    sequence_none c (must_can T p (Resume m) i E) (λ j. must_can T q Start j E)
    (unemitted T c p (Resume m) i E u.0) (λ j. unemitted T c q Start j E u.1)
unemitted T c (Seq p q) (Resume (Second m)) i E u = unemitted T c q (Resume m) i E u.1
unemitted T c (Par p q) Start i E u =
    parallel_none c (must_can T p Start i E) (must_can T q Start i E) (unemitted T c p Start i E u.0)
    (unemitted T c q Start i E u.1)
unemitted T c (Par p q) (Resume (First m)) i E u =
    parallel_none c (must_can T p (Resume m) i E) (gives [] 0 i) (unemitted T c p (Resume m) i E u.0)
    (gives_none c [] 0 i refl)
unemitted T c (Par p q) (Resume (Second m)) i E u =
    parallel_none c (gives [] 0 i) (must_can T q (Resume m) i E) (gives_none c [] 0 i refl)
    (unemitted T c q (Resume m) i E u.1)
unemitted T c (Par p q) (Resume (Both m n)) i E u =
    parallel_none c (must_can T p (Resume m) i E) (must_can T q (Resume n) i E)
    (unemitted T c p (Resume m) i E u.0) (unemitted T c q (Resume n) i E u.1)
unemitted T c (Loop p) Start i E u = unemitted T c p Start i E u
unemitted T c (Loop p) (Resume (Inside m)) i E u =
    sequence_none c (must_can T p (Resume m) i E) (λ j. must_can T p Start j E) (unemitted T c p (Resume m) i E u)
    (λ j. unemitted T c p Start j E u)
unemitted T c (Trap p) Start i E u = unemitted T c p Start i E u
unemitted T c (Trap p) (Resume (Inside m)) i E u = unemitted T c p (Resume m) i E u
unemitted T c (Local s p) Start i E u =
    scoped_none T s c (must_can T p Start i) E (unsolved false (T.first s)) (λ F. unemitted T c p Start i F u.1)
unemitted T c (Local s p) (Resume (Scope m b v)) i E u =
    scoped_none T s c (must_can T p (Resume m) i) E (unsolved b v) (λ F. unemitted T c p (Resume m) i F u.1)
unemitted T c _ t i E u = gives_none c [] 0 i refl

pub its_own : (T : Table) (c : ℕ) (d : Expr ℕ) (p : Statement) → T.first c ≡ value.Unit
    → Unread c (expression_of d) → Unmentioned T c p → IsOwn T c d p
its_own T c d p first read said =
    record {
      first = first;
      unread = λ E x. eval_same c (expression_of d) (put E c x) E read (put_agrees c E x);
      step = λ t E x. step_same T c p t (put E c x) E said (put_agrees c E x);
      must = λ t i E. (unemitted T c p t i E said).0;
      can = λ t i E. (unemitted T c p t i E said).1;
    }

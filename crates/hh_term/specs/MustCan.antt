-- What a statement must do and what it can do in one reaction: Must and Can, in one recursion over the
-- statement with the
-- index as an argument. (Berry, The Constructive Semantics of Pure Esterel; values, previous status and
-- value, and the rows of async
-- are this project's own.)
use Rattle.std.specs.Prelude.{ℕ, zero, suc, ◌+◌, Bool, true, false, cond, ◌&&◌, ◌==◌, max, Option, Some}
use Rattle.std.specs.Prelude.{None, List, [], ◌∷◌, ◌++◌, length, map}
use Rattle.hh_base.specs.declared.value.Pos.{Pos}
use Rattle.hh_base.specs.declared.value.Tri.{Tri}
use Rattle.hh_base.specs.declared.value.Tri.TheVariants.{Unknown, Zero, One}
use Rattle.hh_base.specs.declared.value.Kind.{Kind}
use Rattle.hh_base.specs.declared.value.Value.{Value}
use Rattle.hh_base.specs.declared.value.Value.TheVariants as value
use Rattle.hh_base.specs.declared.value.CombineWord.{CombineWord}
use Rattle.hh_base.specs.declared.item.Item.{Item}
use Rattle.host_expr.specs.declared.cell.Cell.{Cell}
use Rattle.host_expr.specs.declared.cell.Cell.TheVariants as cell
use Rattle.host_expr.specs.declared.cell.SigCell.{SigCell}
use Rattle.host_expr.specs.Expression.{Expression}
use Rattle.host_expr.specs.Environment.{Env, is_known, unsolved, put}
use Rattle.host_expr.specs.Evaluation.{eval_of, truth}
use Rattle.host_expr.specs.Combination.{combined, counts_as}
use Rattle.hh_term.specs.Statement.{Statement, Nothing, Pause, Emit, If, Suspend, Seq, Par, Loop, Trap}
use Rattle.hh_term.specs.Statement.{Exit, Local, Async}
use Rattle.hh_term.specs.Selection.{AtAsync, First, Second, Both, Inside, Scope, Task, Start, Resume}
use Rattle.hh_term.specs.Kernel.{Kernel, kind_at, first_at, word_at, position_at, target_at, arguments_at}
use Rattle.hh_term.specs.Kernel.{params_at}
use Rattle.hh_term.specs.Codes.{CodeSet, only, either, in_turn, greater_of, lowered}

-- what the declarations of a program say of its signals and of its async sites
pub record Table : Type 0 where
  pub kind : ℕ → Kind
  pub first : ℕ → Value
  pub word : ℕ → Option CombineWord
  pub position : ℕ → Pos
  pub target : ℕ → Option ℕ
  pub args : ℕ → List Expression
  pub params : ℕ → List Kind

abbrev pub table_of : Kernel → Table
table_of K =
    record {
      kind = kind_at K;
      first = first_at K;
      word = word_at K;
      position = position_at K;
      target = target_at K;
      args = arguments_at K;
      params = params_at K;
    }

-- the emissions that run, or may run
abbrev pub Bag : Type 0
Bag = List (ℕ × Cell)

-- known to be executed (+), or only possible (?)
pub data Index : Type 0 where
  Executed : Index
  Possible : Index

-- Must is a bag and at most one code, Can is a bag and a set of codes
pub record MustCan : Type 0 where
  pub must : Bag
  pub code : Option ℕ
  pub can : Bag
  pub codes : CodeSet

-- these emissions and this code; must only where it is known to be executed
abbrev pub gives : Bag → ℕ → Index → MustCan
gives bag k Executed = record { must = bag; code = Some k; can = bag; codes = only k }
gives bag k Possible = record { must = []; code = None; can = bag; codes = only k }

-- one of the two, and it is not known which
abbrev pub one_of : MustCan → MustCan → MustCan
one_of a b = record { must = []; code = None; can = a.can ++ b.can; codes = either a.codes b.codes }

-- the second part is executed where the first must end
abbrev pub is_end : Option ℕ → Index
is_end (Some zero) = Executed
is_end _ = Possible

abbrev pub go_on : Option ℕ → Option ℕ → Option ℕ
go_on (Some zero) next = next
go_on c next = c

abbrev pub sequence : MustCan → (Index → MustCan) → MustCan
sequence a f =
    let b = f (is_end a.code) in
    record {
      must = a.must ++ b.must;
      code = go_on a.code b.code;
      can = a.can ++ cond (a.codes 0) b.can [];
      codes = in_turn a.codes b.codes;
    }

abbrev pub greater : Option ℕ → Option ℕ → Option ℕ
greater (Some c) (Some d) = Some (max c d)
greater _ _ = None

abbrev pub parallel : MustCan → MustCan → MustCan
parallel a b =
    record {
      must = a.must ++ b.must;
      code = greater a.code b.code;
      can = a.can ++ b.can;
      codes = greater_of a.codes b.codes;
    }

-- 0 and 2 give 0, 1 gives 1, greater codes are lowered by one
abbrev pub lower : ℕ → ℕ
lower zero = 0
lower (suc zero) = 1
lower (suc (suc zero)) = 0
lower (suc (suc (suc c))) = suc (suc c)

abbrev pub lower_code : Option ℕ → Option ℕ
lower_code (Some c) = Some (lower c)
lower_code None = None

abbrev pub trapped : MustCan → MustCan
trapped a = record { must = a.must; code = lower_code a.code; can = a.can; codes = lowered a.codes }

-- by a test: the first where it holds, the second where it does not or faults, one of them where it is
-- unknown
abbrev pub chosen : Cell → Index → (Index → MustCan) → (Index → MustCan) → MustCan
chosen cell.Unknown i p q = one_of (p Possible) (q Possible)
chosen (cell.Known v) i p q = cond (truth v) (p i) (q i)
chosen (cell.Faulted _ _) i p q = q i

-- by a guard: held where it holds, resumed where it does not or faults
abbrev pub held : Cell → Index → (Index → MustCan) → MustCan
held cell.Unknown i p = one_of (p Possible) (gives [] 1 Possible)
held (cell.Known v) i p = cond (truth v) (gives [] 1 i) (p i)
held (cell.Faulted _ _) i p = p i

abbrev pub emitted : Option Expression → Env → Cell
emitted None E = cell.Known value.Unit
emitted (Some e) E = eval_of e E []

-- an instance that is resumed uses the first answer of its queue, and ends where that is the last
abbrev pub answer_bag : Option ℕ → Value → Bag
answer_bag (Some s) v = (s, cell.Known v) ∷ []
answer_bag None v = []

abbrev pub answer_code : Bool → ℕ
answer_code last = cond last 0 1

abbrev pub answered : Option ℕ → List Item → Index → MustCan
answered s [] i = gives [] 1 i
answered s (a ∷ as') i = gives (answer_bag s a.value) (answer_code a.last) i

-- the cells of a signal's emissions, and a bag without them
abbrev pub cells_of : ℕ → Bag → List Cell
cells_of s [] = []
cells_of s (e ∷ bag) = cond (e.0 == s) (e.1 ∷ cells_of s bag) (cells_of s bag)

abbrev pub without : ℕ → Bag → Bag
without s [] = []
without s (e ∷ bag) = cond (e.0 == s) (without s bag) (e ∷ without s bag)

abbrev pub hide : ℕ → MustCan → MustCan
hide s a = record { must = without s a.must; code = a.code; can = without s a.can; codes = a.codes }

-- Solve: present where it must be emitted, absent where it cannot be
abbrev pub status_by : List Cell → List Cell → Tri
status_by (_ ∷ _) can = One
status_by [] [] = Zero
status_by [] (_ ∷ _) = Unknown

abbrev pub all_known : List Cell → Bool
all_known [] = true
all_known (c ∷ cs) = is_known c && all_known cs

-- the previous value where it cannot be emitted; the combination where all emissions are decided and known
abbrev pub value_by : Kind → Option CombineWord → Value → List Cell → List Cell → Cell
value_by k w before must [] = cell.Known before
value_by k w before must (c ∷ cs) =
    cond (length must == length (c ∷ cs) && all_known must)
    (cell.Known (combined k w (map (counts_as k) must))) cell.Unknown

-- what one round makes of a signal, from what its body must and can do
abbrev pub raised : Table → ℕ → SigCell → MustCan → SigCell
raised T s c a =
    record {
      status = status_by (cells_of s a.must) (cells_of s a.can);
      value = value_by (T.kind s) (T.word s) c.preval (cells_of s a.must) (cells_of s a.can);
      pre = c.pre;
      preval = c.preval;
    }

abbrev pub round : Table → ℕ → (Env → MustCan) → Env → SigCell → SigCell
round T s p E c = raised T s c (p (put E s c))

-- two rounds reach the standstill
abbrev pub solve : Table → ℕ → (Env → MustCan) → Env → SigCell → SigCell
solve T s p E c = round T s p E (round T s p E c)

abbrev pub scoped : Table → ℕ → (Env → MustCan) → Env → SigCell → MustCan
scoped T s p E c = hide s (p (put E s (solve T s p E c)))

-- Must and Can of a statement
abbrev pub must_can : Table → Statement → Task → Index → Env → MustCan
must_can T Nothing t i E = gives [] 0 i
must_can T Pause Start i E = gives [] 1 i
must_can T Pause (Resume m) i E = gives [] 0 i
must_can T (Emit s e) t i E = gives ((s, emitted e E) ∷ []) 0 i
must_can T (Exit k) t i E = gives [] (k + 2) i
must_can T (Async n) Start i E = gives [] 1 i
must_can T (Async n) (Resume (AtAsync id args queue suspended)) i E = answered (T.target n) queue i
must_can T (If e p q) Start i E =
    chosen (eval_of e E []) i (λ j. must_can T p Start j E) (λ j. must_can T q Start j E)
must_can T (If e p q) (Resume (First m)) i E = must_can T p (Resume m) i E
must_can T (If e p q) (Resume (Second m)) i E = must_can T q (Resume m) i E
must_can T (Suspend e p) Start i E = must_can T p Start i E
must_can T (Suspend e p) (Resume (Inside m)) i E = held (eval_of e E []) i (λ j. must_can T p (Resume m) j E)
must_can T (Seq p q) Start i E = sequence (must_can T p Start i E) (λ j. must_can T q Start j E)
must_can T (Seq p q) (Resume (First m)) i E =
    sequence (must_can T p (Resume m) i E) (λ j. must_can T q Start j E)
must_can T (Seq p q) (Resume (Second m)) i E = must_can T q (Resume m) i E
must_can T (Par p q) Start i E = parallel (must_can T p Start i E) (must_can T q Start i E)
must_can T (Par p q) (Resume (First m)) i E = parallel (must_can T p (Resume m) i E) (gives [] 0 i)
must_can T (Par p q) (Resume (Second m)) i E = parallel (gives [] 0 i) (must_can T q (Resume m) i E)
must_can T (Par p q) (Resume (Both m n)) i E =
    parallel (must_can T p (Resume m) i E) (must_can T q (Resume n) i E)
must_can T (Loop p) Start i E = must_can T p Start i E
must_can T (Loop p) (Resume (Inside m)) i E =
    sequence (must_can T p (Resume m) i E) (λ j. must_can T p Start j E)
must_can T (Trap p) Start i E = trapped (must_can T p Start i E)
must_can T (Trap p) (Resume (Inside m)) i E = trapped (must_can T p (Resume m) i E)
must_can T (Local s p) Start i E = scoped T s (must_can T p Start i) E (unsolved false (T.first s))
must_can T (Local s p) (Resume (Scope m b v)) i E = scoped T s (must_can T p (Resume m) i) E (unsolved b v)
must_can T _ t i E = gives [] 0 i

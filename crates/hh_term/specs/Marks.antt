-- The marks of a statement, the ids in a mark, and the kinds of its values. (Berry's marked terms; ids
-- and values are this
-- project's own.)
use Rattle.std.specs.Prelude.{◌≡◌, ◌≢◌, ℕ, Option, Some, None, List, [], ◌∷◌, ◌++◌, map, slice_get}
use Rattle.std.specs.List.{AllByRecursion}
use Rattle.hh_base.specs.declared.value.Kind.{Kind}
use Rattle.hh_base.specs.declared.value.Kind.TheVariants as kind
use Rattle.hh_base.specs.Value.{kind_of}
use Rattle.hh_term.specs.Statement.{Statement, Pause, If, Suspend, Seq, Par, Loop, Trap, Local, Async}
use Rattle.hh_term.specs.Selection.{Selection, AtPause, AtAsync, First, Second, Both, Inside, Scope}
use Rattle.hh_term.specs.Selection.{Control, Fresh, At, Ended}
use Rattle.hh_term.specs.Kernel.{Kernel, Body, kind_at, params_at}
use Rattle.hh_term.specs.Pairs.{EachPair}

-- the mark says where control rests in this statement
abbrev pub IsMarkOf : Statement → Selection → Type 0
IsMarkOf Pause AtPause = Unit {0}
IsMarkOf (Async n) (AtAsync id args queue suspended) = Unit {0}
IsMarkOf (If e p q) (First m) = IsMarkOf p m
IsMarkOf (If e p q) (Second m) = IsMarkOf q m
IsMarkOf (Suspend e p) (Inside m) = IsMarkOf p m
IsMarkOf (Seq p q) (First m) = IsMarkOf p m
IsMarkOf (Seq p q) (Second m) = IsMarkOf q m
IsMarkOf (Par p q) (First m) = IsMarkOf p m
IsMarkOf (Par p q) (Second m) = IsMarkOf q m
IsMarkOf (Par p q) (Both m n) = IsMarkOf p m × IsMarkOf q n
IsMarkOf (Loop p) (Inside m) = IsMarkOf p m
IsMarkOf (Trap p) (Inside m) = IsMarkOf p m
IsMarkOf (Local s p) (Scope m b v) = IsMarkOf p m
IsMarkOf _ _ = ⊥

abbrev pub IsControlOf : Statement → Control → Type 0
IsControlOf p Fresh = Unit {0}
IsControlOf p (At m) = IsMarkOf p m
IsControlOf p Ended = Unit {0}

-- the ids of the instances that a mark holds, from left to right
abbrev pub ids_in : Selection → List ℕ
ids_in AtPause = []
ids_in (AtAsync id args queue suspended) = id ∷ []
ids_in (First m) = ids_in m
ids_in (Second m) = ids_in m
ids_in (Both m n) = ids_in m ++ ids_in n
ids_in (Inside m) = ids_in m
ids_in (Scope m b v) = ids_in m

abbrev pub ids_of : Control → List ℕ
ids_of (At m) = ids_in m
ids_of _ = []

abbrev pub IdsDiffer : Control → Type 0
IdsDiffer c = EachPair (λ i j. i ≢ j) (ids_of c)

-- what an instance of async site n answers
abbrev pub body_answer : Option Body → Kind
body_answer (Some b) = b.answer
body_answer None = kind.Pure

abbrev pub answer_at : Kernel → ℕ → Kind
answer_at K n =
    (elim (slice_get K.sites n) [ Some a ↦ body_answer (slice_get K.bodies a.body) | None ↦ kind.Pure ])

-- the values, arguments and items in a mark have their kinds
abbrev pub MarkFits : Kernel → Statement → Selection → Type 0
MarkFits K (Async n) (AtAsync id args queue suspended) =
    (map kind_of args ≡ params_at K n) × AllByRecursion (λ a. kind_of a.value ≡ answer_at K n) queue
MarkFits K (If e p q) (First m) = MarkFits K p m
MarkFits K (If e p q) (Second m) = MarkFits K q m
MarkFits K (Suspend e p) (Inside m) = MarkFits K p m
MarkFits K (Seq p q) (First m) = MarkFits K p m
MarkFits K (Seq p q) (Second m) = MarkFits K q m
MarkFits K (Par p q) (First m) = MarkFits K p m
MarkFits K (Par p q) (Second m) = MarkFits K q m
MarkFits K (Par p q) (Both m n) = MarkFits K p m × MarkFits K q n
MarkFits K (Loop p) (Inside m) = MarkFits K p m
MarkFits K (Trap p) (Inside m) = MarkFits K p m
MarkFits K (Local s p) (Scope m b v) = (kind_of v ≡ kind_at K s) × MarkFits K p m
MarkFits K _ _ = Unit {0}

-- Kinds fit: in declarations, in the statement and at the async sites, within the limit of each
-- expression. (This project's own.)
use Rattle.std.specs.Prelude.{◌≡◌, ℕ, ◌≤◌, true, Option, Some, None, List, [], ◌∷◌, map, slice_get}
use Rattle.std.specs.List.{AllByRecursion}
use Rattle.hh_base.specs.declared.value.Kind.{Kind}
use Rattle.hh_base.specs.declared.value.Kind.TheVariants as kind
use Rattle.hh_base.specs.declared.value.CombineWord.{CombineWord}
use Rattle.hh_base.specs.declared.value.CombineWord.TheVariants as word
use Rattle.host_expr.specs.declared.expr.TheConstants.{EXPRESSION_LIMIT}
use Rattle.host_expr.specs.Expression.{Expression}
use Rattle.hh_base.specs.Value.{kind_of, is_valued}
use Rattle.host_expr.specs.Kinds.{kind_of_expression}
use Rattle.host_expr.specs.Measures.{leaves_and_operators}
use Rattle.hh_term.specs.declared.program.SignalDecl.{SignalDecl}
use Rattle.hh_term.specs.Statement.{Statement, Nothing, Pause, Emit, If, Suspend, Seq, Par, Loop, Trap}
use Rattle.hh_term.specs.Statement.{Exit, Local, Async}
use Rattle.hh_term.specs.Kernel.{Kernel, Body, AsyncSite}

-- an expression over these signals and parameters has this kind, and no more leaves and operators than an
-- expression may have
pub record HasKind (signals args : List Kind) (k : Kind) (e : Expression) : Type 0 where
  pub kind : kind_of_expression signals args e ≡ Some k
  pub small : leaves_and_operators e ≤ EXPRESSION_LIMIT

abbrev pub kinds_of : Kernel → List Kind
kinds_of K = map (λ d. d.kind) K.signals

abbrev pub kind_of_word : CombineWord → Kind
kind_of_word word.Plus = kind.Int
kind_of_word word.Min = kind.Int
kind_of_word word.Max = kind.Int
kind_of_word word.And = kind.Bool
kind_of_word word.Or = kind.Bool

abbrev pub WordFits : Kind → Option CombineWord → Type 0
WordFits k None = Unit {0}
WordFits k (Some w) = kind_of_word w ≡ k

-- a pure signal may have no name
abbrev pub IsNamed : Kind → Option (List ℕ) → Type 0
IsNamed k (Some n) = Unit {0}
IsNamed k None = k ≡ kind.Pure

pub record SignalFits (d : SignalDecl) : Type 0 where
  pub first : kind_of d.first ≡ d.kind
  pub combine : WordFits d.kind d.combine
  pub named : IsNamed d.kind d.name

abbrev pub BodyFits : Option Expression → List Kind → Kind → Type 0
BodyFits None params answer = Unit {0}
BodyFits (Some e) params answer = HasKind [] params answer e

pub record BodyIsFit (b : Body) : Type 0 where
  pub params : AllByRecursion (λ k. is_valued k ≡ true) b.params
  pub expr : BodyFits b.expr b.params b.answer

-- the arguments are as many as the parameters, and of their kinds
abbrev pub ArgumentsFit : Kernel → List Kind → List Expression → Type 0
ArgumentsFit K [] [] = Unit {0}
ArgumentsFit K (k ∷ ks) (e ∷ es) = HasKind (kinds_of K) [] k e × ArgumentsFit K ks es
ArgumentsFit K _ _ = ⊥

abbrev pub ResultFits : Kernel → Kind → Option ℕ → Type 0
ResultFits K k None = Unit {0}
ResultFits K k (Some s) = slice_get (kinds_of K) s ≡ Some k

-- the site's body is declared, and its arguments and the signal of its answers fit that
abbrev pub SiteFitsBody : Kernel → AsyncSite → Option Body → Type 0
SiteFitsBody K a None = ⊥
SiteFitsBody K a (Some b) = ArgumentsFit K b.params a.args × ResultFits K b.answer a.signal

abbrev pub SiteFits : Kernel → AsyncSite → Type 0
SiteFits K a = SiteFitsBody K a (slice_get K.bodies a.body)

-- a value exactly where the signal is valued, and of its kind
abbrev pub EmissionFits : Kernel → ℕ → Option Expression → Type 0
EmissionFits K s None = slice_get (kinds_of K) s ≡ Some kind.Pure
EmissionFits K s (Some e) = (k : Kind) × (slice_get (kinds_of K) s ≡ Some k) × HasKind (kinds_of K) [] k e

-- emissions fit, and tests and guards are bool
abbrev pub StatementFits : Kernel → Statement → Type 0
StatementFits K Nothing = Unit {0}
StatementFits K Pause = Unit {0}
StatementFits K (Emit s e) = EmissionFits K s e
StatementFits K (If e p q) = HasKind (kinds_of K) [] kind.Bool e × StatementFits K p × StatementFits K q
StatementFits K (Suspend e p) = HasKind (kinds_of K) [] kind.Bool e × StatementFits K p
StatementFits K (Seq p q) = StatementFits K p × StatementFits K q
StatementFits K (Par p q) = StatementFits K p × StatementFits K q
StatementFits K (Loop p) = StatementFits K p
StatementFits K (Trap p) = StatementFits K p
StatementFits K (Exit k) = Unit {0}
StatementFits K (Local s p) = StatementFits K p
StatementFits K (Async n) = Unit {0}

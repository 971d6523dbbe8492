-- Which values the body of an instance may answer, where these are the hooks. (This project's own.)
use Rattle.std.specs.Prelude.{◌≡◌, ◌≢◌, ℕ, true, Option, Some, None, List, All, Contains, slice_get, take}
use Rattle.hh_base.specs.declared.value.Value.{Value}
use Rattle.hh_base.specs.declared.value.Value.TheVariants as value
use Rattle.host_expr.specs.declared.expr.Expr.{Expr}
use Rattle.host_expr.specs.Expression.{expression_of}
use Rattle.hh_term.specs.declared.program.BodyDecl.{BodyDecl}
use Rattle.exec_instance.specs.declared.answer.Answer.{Answer}
use Rattle.exec_instance.specs.declared.instance.Instance.{Instance}
use Rattle.host_hooks.specs.Law.{kinds_of, computed, IsAllowedBy}
use Rattle.host_hooks.specs.Promise.{Promise}

-- a hook of the body: of its name, its parameters' kinds and its answer's kind
pub record IsHookOf (hooks : List Promise) (b : BodyDecl) (h : Promise) : Type 0 where
  pub stored : Contains hooks h
  pub name : h.name ≡ b.name
  pub params : h.params ≡ b.params
  pub answer : h.answer ≡ b.answer

-- an expression body answers what its expression gives; a host body a value that its hook allows
abbrev pub Answers : List Promise → BodyDecl → Option (Expr ℕ) → List Value → Value → Type 0
Answers hooks b (Some e) args v = v ≡ computed b.answer (expression_of e) args
Answers hooks b None args v = (h : Promise) × IsHookOf hooks b h × IsAllowedBy h.law b.answer args v

-- where the arguments are not of the body's kinds, the value is `Unit`
pub record AnswersTo (hooks : List Promise) (b : BodyDecl) (args : List Value) (v : Value) : Type 0 where
  pub fitting : kinds_of args ≡ b.params → Answers hooks b b.expr args v
  pub unfitting : kinds_of args ≢ b.params → v ≡ value.Unit

-- where there is no body, too
abbrev pub Allowed : List Promise → Option BodyDecl → List Value → Value → Type 0
Allowed hooks (Some b) args v = AnswersTo hooks b args v
Allowed hooks None args v = v ≡ value.Unit

-- a last answer to the instance, with a value that its body may answer to its arguments
pub record IsAllowedAnswer (hooks : List Promise) (bodies : List BodyDecl) (i : Instance) (a : Answer)
    : Type 0 where
  pub id : a.id ≡ i.id
  pub last : a.last ≡ true
  pub value : Allowed hooks (slice_get bodies i.body) i.args a.value

-- a host body has a hook
abbrev pub HasHook : List Promise → BodyDecl → Option (Expr ℕ) → Type 0
HasHook hooks b (Some e) = Unit {0}
HasHook hooks b None = (h : Promise) × IsHookOf hooks b h

abbrev pub IsCovered : List Promise → BodyDecl → Type 0
IsCovered hooks b = HasHook hooks b b.expr

-- body k is the first that is not covered
pub record IsFirstUncovered (hooks : List Promise) (bodies : List BodyDecl) (k : ℕ) : Type 0 where
  pub before : All (IsCovered hooks) (take k bodies)
  pub body : BodyDecl
  pub at : slice_get bodies k ≡ Some body
  pub uncovered : IsCovered hooks body → ⊥

-- Which values a hook may answer. (This project's own.)
use Rattle.std.specs.Prelude.{◌≡◌, ◌&&◌, ℤ, int_le, Bool, true, false, List, [], Some, Result, Ok, All, map}
use Rattle.std.specs.Borrow.{Bor}
use Rattle.hh_base.specs.declared.memory.NoMemory.{NoMemory}
use Rattle.hh_base.specs.declared.value.Kind.{Kind}
use Rattle.hh_base.specs.declared.value.Kind.TheVariants as kind
use Rattle.hh_base.specs.declared.value.Value.{Value}
use Rattle.hh_base.specs.declared.value.Value.TheVariants as value
use Rattle.hh_base.specs.Value.{kind_of, is_valued}
use Rattle.host_expr.specs.Environment.{blank}
use Rattle.host_expr.specs.Evaluation.{eval_of}
use Rattle.host_expr.specs.Combination.{counts_as}
use Rattle.host_expr.specs.Expression.{Expression, expression_of}
use Rattle.host_expr.specs.Kinds.{kind_of_expression}
use Rattle.host_hooks.specs.declared.law.HookLaw.{HookLaw}
use Rattle.host_hooks.specs.declared.law.HookLaw.TheVariants.{AnyOfKind, Within, Equals}

abbrev pub kinds_of : List Value → List Kind
kinds_of vs = map kind_of vs

-- what an expression over parameters gives for these arguments: its value, or its kind's default where it
-- faults
abbrev pub computed : Kind → Expression → List Value → Value
computed answer e args = counts_as answer (eval_of e blank args)

-- a number from the least to the most
abbrev pub is_within : ℤ → ℤ → Value → Bool
is_within least most (value.Int n) = int_le least n && int_le n most
is_within least most _ = false

-- the law allows the value where these are the arguments
abbrev pub Allows : HookLaw → Kind → List Value → Value → Type 0
Allows AnyOfKind answer args v = Unit {0}
Allows (Within least most) answer args v = is_within least most v ≡ true
Allows (Equals e) answer args v = v ≡ computed answer (expression_of e) args

-- it is of the answer's kind, and the law allows it
pub record IsAllowedBy (law : HookLaw) (answer : Kind) (args : List Value) (v : Value) : Type 0 where
  pub kind : kind_of v ≡ answer
  pub lawful : Allows law answer args v

-- a law of numbers is for those, and an expression is one over the parameters, of the answer's kind
abbrev pub FitsAnswer : HookLaw → List Kind → Kind → Type 0
FitsAnswer AnyOfKind params answer = Unit {0}
FitsAnswer (Within least most) params answer = answer ≡ kind.Int
FitsAnswer (Equals e) params answer = kind_of_expression [] params (expression_of e) ≡ Some answer

-- parameters have values
pub record LawFits (law : HookLaw) (params : List Kind) (answer : Kind) : Type 0 where
  pub valued : All (λ k. is_valued k ≡ true) params
  pub fits : FitsAnswer law params answer

-- what may be called so may be called on all arguments of these kinds
abbrev pub TakesAll : List Kind → (Bor (List Value) → Type 0) → Type 0
TakesAll params may_call = (args : Bor (List Value)) → kinds_of args.now ≡ params → may_call args

-- each value that it then answers is of the answer's kind and allowed by the law
abbrev pub AnswersAllowed
    : HookLaw → List Kind → Kind → (Bor (List Value) → Result Value NoMemory → Type 0) → Type 0
AnswersAllowed law params answer answers =
    (args : Bor (List Value)) (v : Value) → kinds_of args.now ≡ params → answers args (Ok v)
    → ∥ IsAllowedBy law answer args.now v ∥₁

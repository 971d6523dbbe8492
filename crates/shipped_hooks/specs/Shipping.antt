-- What the hooks of the shipped program promise, and what `same_text` answers. (This project's own.)
use Rattle.std.specs.Prelude.{◌≡◌, List, [], ◌∷◌, ◌++◌, Result, Ok, codes}
use Rattle.std.specs.Borrow.{Bor}
use Rattle.hh_base.specs.declared.memory.NoMemory.{NoMemory}
use Rattle.hh_base.specs.declared.value.Kind.TheVariants as kind
use Rattle.hh_base.specs.declared.value.Value.{Value}
use Rattle.host_hooks.specs.Law.{IsAllowedBy, kinds_of}
use Rattle.host_hooks.specs.Promise.{Promise}
use Rattle.host_hooks.specs.Shipped.{IsSameLaw, one_text, size_law, two_texts}
use Rattle.host_hooks.specs.declared.law.HookLaw.{HookLaw}

abbrev pub text_size_promise : Promise
text_size_promise = record { name = codes "text_size"; params = one_text; answer = kind.Int; law = size_law }

-- a value that the law of `same_text` allows
pub record IsSameText (args : List Value) (v : Value) : Type 0 where
  pub allowed : (law : HookLaw) → IsSameLaw law → IsAllowedBy law kind.Bool args v

-- each value that is answered to two texts is one of these
abbrev pub AnswersSameText : (Bor (List Value) → Result Value NoMemory → Type 0) → Type 0
AnswersSameText answers =
    (args : Bor (List Value)) (v : Value) → kinds_of args.now ≡ two_texts → answers args (Ok v)
    → ∥ IsSameText args.now v ∥₁

-- behind the promises before stands that of `same_text`
pub record AddsSameText (before after : List Promise) : Type 0 where
  pub law : HookLaw
  pub is_same : IsSameLaw law
  pub added : after
      ≡ before ++ record { name = codes "same_text"; params = two_texts; answer = kind.Bool; law = law } ∷ []

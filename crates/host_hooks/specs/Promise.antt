-- A hook as contracts see it: what it promises, and not what it runs. (This project's own.)
use Rattle.std.specs.Prelude.{ℕ, List}
use Rattle.hh_base.specs.declared.value.Kind.{Kind}
use Rattle.host_hooks.specs.declared.law.HookLaw.{HookLaw}
use Rattle.host_hooks.specs.declared.hook.Hook.{Hook}

pub record Promise : Type 0 where
  pub name : List ℕ
  pub params : List Kind
  pub answer : Kind
  pub law : HookLaw

module _ {Stored : Type 0} {Value : Stored → Type 0} {called : _} where
  abbrev pub promise_of : Hook Stored Value called → Promise
  promise_of h = record { name = h.name; params = h.params.items; answer = h.answer; law = h.law }
